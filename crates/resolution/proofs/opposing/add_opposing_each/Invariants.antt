-- The numbers for the literals so far are added.
use Rattle.std.proofs.Common.{◌≡◌, ◌++◌, filter, flat_map, take}
use Rattle.fol_core.specs.ClauseView.{literal_of}
use Rattle.fol_core.specs.declared.clause.Literal.{Literal}
use Rattle.prover_steps.specs.HeldOrder.{numbers_of}
use Rattle.resolution.specs.Opposing.{opposes}
use Rattle.resolution.proofs.opposing.add_opposing_each.Given as goal

abbrev pub invariant-loop-literal : goal.invariant-loop-literal
invariant-loop-literal l =
    l.numbers.items ≡ l.fn.numbers.items ++ flat_map (λ (k : Literal). numbers_of (filter (opposes (literal_of k)) l.held)) (take l.literal-index l.literals)
