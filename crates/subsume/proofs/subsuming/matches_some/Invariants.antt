-- The literals from here on decide.
use Rattle.std.proofs.Common.{◌≡◌, [], is_some}
use Rattle.fol_core.specs.ClauseView.{literal_of}
use Rattle.prover_steps.specs.Subsuming.{matched_literal}
use Rattle.held_clauses.proofs.LiteralTests.{some_from}
use Rattle.subsume.proofs.subsuming.matches_some.Given as goal

abbrev pub invariant-loop-other : goal.invariant-loop-other
invariant-loop-other l = record {
  decides : some_from (λ k. is_some (matched_literal (literal_of l.literal) k [])) l.other-items 0
      ≡ some_from (λ k. is_some (matched_literal (literal_of l.literal) k [])) l.other-items l.other-index;
  room : l.found.room ≡ l.fn.found.room;
}
