-- The numbers for the literals so far are added.
use Rattle.std.proofs.Common.{flat_map, take}
use Rattle.fol_core.specs.ClauseView.{literal_of}
use Rattle.fol_core.specs.declared.clause.Literal.{Literal}
use Rattle.clause_index.specs.Numbered.{AddsAll}
use Rattle.held_clauses.specs.Order.{greater_of}
use Rattle.paramod.specs.Partners.{by_terms}
use Rattle.paramod.proofs.partners.add_by_terms_each.Given as goal

abbrev pub invariant-loop-literal : goal.invariant-loop-literal
invariant-loop-literal l =
    AddsAll l.fn.numbers.items (flat_map (λ (k : Literal). by_terms (greater_of l.precedence) l.held (literal_of k)) (take l.literal-index l.literals)) l.numbers.items
