-- The highest of the parents before, with the others.
use Rattle.std.proofs.Common.{◌≡◌, ℕ, List, max}
use Rattle.prover_proofs.specs.KnownLevels.{AreLevels}
use Rattle.prover_proofs.proofs.Remaining.{above_from}
use Rattle.prover_proofs.proofs.measures.level_above.Given as goal

abbrev pub invariant-loop-parent : goal.invariant-loop-parent
invariant-loop-parent l = (ks : List (ℕ × ℕ)) → AreLevels l.levels ks → max l.highest (above_from ks l.parents l.parent-index) ≡ above_from ks l.parents 0
