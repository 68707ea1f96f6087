-- The literals from here on decide.
use Rattle.std.proofs.Common.{◌≡◌}
use Rattle.subsume.specs.Unused.{matches_in}
use Rattle.held_clauses.proofs.LiteralTests.{all_from}
use Rattle.subsume.proofs.subsuming.all_match_some.Given as goal

abbrev pub invariant-loop-literal : goal.invariant-loop-literal
invariant-loop-literal l = record {
  decides : all_from (matches_in l.others) l.literal-items 0 ≡ all_from (matches_in l.others) l.literal-items l.literal-index;
  room : l.found.room ≡ l.fn.found.room;
}
