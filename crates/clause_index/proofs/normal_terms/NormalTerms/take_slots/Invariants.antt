-- No rule fits in the terms so far.
use Rattle.std.proofs.Common.{List}
use Rattle.clause_index.specs.Normal.{HaveNoStep}
use Rattle.fol_core.specs.TermView.{tree_list}
use Rattle.prover_steps.specs.Clashing.{Held}
use Rattle.clause_index.proofs.normal_terms.NormalTerms.take_slots.Given as goal

abbrev pub invariant-loop-slot : goal.invariant-loop-slot
invariant-loop-slot l = (rs : List Held) → HaveNoStep rs l.fn.self → HaveNoStep rs (tree_list l.self-inside.slots.items)
