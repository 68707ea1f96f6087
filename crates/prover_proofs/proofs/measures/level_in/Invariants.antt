-- The map has the levels of the lines before.
use Rattle.std.proofs.Common.{◌≡◌, ℕ, List, []}
use Rattle.prover_proofs.specs.KnownLevels.{AreLevels}
use Rattle.prover_proofs.proofs.Remaining.{levels_from}
use Rattle.prover_proofs.proofs.measures.level_in.Given as goal

abbrev pub invariant-loop-line : goal.invariant-loop-line
invariant-loop-line l = (ks : List (ℕ × ℕ)) × AreLevels l.levels ks × (levels_from ks l.lines l.line-index ≡ levels_from [] l.lines 0)
