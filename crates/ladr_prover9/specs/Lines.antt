-- The last lines of a search for proofs.
use Rattle.std.specs.Prelude.{ℕ, if◌then◌else◌, length, List, ◌++◌, codes}
use Rattle.std.specs.Fmt.{decimal}
use Rattle.ladr_intake.specs.Refusals.{clause_limit_line}
use Rattle.ladr_output.specs.Telling.{as_line}
use Rattle.ladr_prover9.specs.declared.ends.ProverEnd.{ProverEnd}
use Rattle.ladr_prover9.specs.declared.ends.ProverEnd.TheVariants.{MaxProofs, SosEmpty, MaxMegs, MaxSeconds, MaxGiven, MaxKept, ClauseLimit}
use Rattle.prover_steps.specs.Searching.{SearchState, is_nil}
use Rattle.search_clock.specs.Lines.{exit_line, seconds_line}

-- how many clauses were given, concluded, kept and too large, and how many proofs were found
abbrev pub counters_line : SearchState → List ℕ
counters_line t =
    as_line (codes "% Given=" ++ decimal t.given ++ codes ". Generated=" ++ decimal t.generated
    ++ codes ". Kept=" ++ decimal t.kept ++ codes ". Large=" ++ decimal t.large
    ++ codes ". Proofs=" ++ decimal (length t.proofs) ++ codes ".")

-- whether there are proofs
abbrev pub proved_line : List ℕ
proved_line = as_line (codes "THEOREM PROVED")

abbrev pub failed_line : List ℕ
failed_line = as_line (codes "SEARCH FAILED")

abbrev pub proved_or_failed : SearchState → List ℕ
proved_or_failed t = if is_nil t.proofs then failed_line else proved_line

-- why the search ended
abbrev pub cause_line : ProverEnd → List ℕ
cause_line MaxProofs = exit_line (codes "max_proofs")
cause_line SosEmpty = exit_line (codes "sos_empty")
cause_line MaxMegs = exit_line (codes "max_megs")
cause_line (MaxSeconds first last) = seconds_line first last
cause_line MaxGiven = exit_line (codes "max_given")
cause_line MaxKept = exit_line (codes "max_kept")
cause_line (ClauseLimit formula) = clause_limit_line formula

-- the lines behind the proofs
abbrev pub closing_lines : SearchState → ProverEnd → List ℕ
closing_lines t end = counters_line t ++ (proved_or_failed t ++ cause_line end)
