-- The exit statuses of a search for proofs.
use Rattle.std.specs.Prelude.{ℕ}
use Rattle.ladr_prover9.specs.declared.ends.ProverEnd.{ProverEnd}
use Rattle.ladr_prover9.specs.declared.ends.ProverEnd.TheVariants.{MaxProofs, SosEmpty, MaxMegs, MaxSeconds, MaxGiven, MaxKept, ClauseLimit}

abbrev pub prover_status : ProverEnd → ℕ
prover_status MaxProofs = 0
prover_status SosEmpty = 2
prover_status MaxMegs = 3
prover_status (MaxSeconds first last) = 4
prover_status MaxGiven = 5
prover_status MaxKept = 6
prover_status (ClauseLimit formula) = 13
