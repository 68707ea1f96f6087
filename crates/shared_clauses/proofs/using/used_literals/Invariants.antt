-- The first literals are there.
use Rattle.std.proofs.Common.{map, take}
use Rattle.fol_core.specs.ClauseView.{literal_of}
use Rattle.fol_core.specs.TermView.{tree_of}
use Rattle.shared_clauses.specs.Bound.{bound_in}
use Rattle.shared_clauses.specs.Shared.{AreMade}
use Rattle.substitutions.specs.Instances.{substitute_clause}
use Rattle.term_bank.specs.Bank.{Grows}
use Rattle.shared_clauses.proofs.UsedSteps.{used_with}
use Rattle.shared_clauses.proofs.using.used_literals.Given as goal

abbrev pub invariant-loop-literal : goal.invariant-loop-literal
invariant-loop-literal l = record {
  grows : Grows l.fn.bank l.bank;
  made : AreMade l.bank (substitute_clause (used_with (tree_of l.general) l.fresh (bound_in l.fn.bank l.bindings)) (map literal_of (take l.literal-index l.literal-items))) l.made.items;
}
