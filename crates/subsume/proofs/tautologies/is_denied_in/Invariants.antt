-- The literals from here on decide.
use Rattle.std.proofs.Common.{◌≡◌, ◌&&◌, not}
use Rattle.fol_core.specs.TermView.{tree_of}
use Rattle.unifiers.specs.Matching.{same_tree}
use Rattle.held_clauses.proofs.LiteralTests.{some_from}
use Rattle.subsume.proofs.tautologies.is_denied_in.Given as goal

abbrev pub invariant-loop-other : goal.invariant-loop-other
invariant-loop-other l =
    some_from (λ k. not k.positive && same_tree (tree_of l.literal.atom) k.atom) l.other-items 0
    ≡ some_from (λ k. not k.positive && same_tree (tree_of l.literal.atom) k.atom) l.other-items l.other-index
