-- What is printed of a check.
use Rattle.std.specs.Prelude.{ℕ, zero, suc, List, [], ◌++◌, codes}
use Rattle.std.specs.Fmt.{decimal}
use Rattle.derivation.specs.RowNumbers.{row_number}
use Rattle.derivation.specs.declared.row.Row.{Row}
use Rattle.ladr_check.specs.declared.ends.CheckEnd.{CheckEnd}
use Rattle.ladr_check.specs.declared.ends.CheckEnd.TheVariants.{Accepted, NotAccepted, ClauseLimit}
use Rattle.ladr_intake.specs.Refusals.{clause_limit_line}
use Rattle.ladr_output.specs.Telling.{as_line}

-- proof k is accepted; so are the first n
abbrev pub accepted_line : ℕ → List ℕ
accepted_line k = as_line (codes "% Proof " ++ decimal k ++ codes " accepted.")

abbrev pub accepted_lines : ℕ → List ℕ
accepted_lines zero = []
accepted_lines (suc n) = accepted_lines n ++ accepted_line (suc n)

-- all proofs are accepted; one isn't
abbrev pub all_accepted_line : ℕ → List ℕ
all_accepted_line n = as_line (codes "% Exit accepted " ++ decimal n ++ codes ".")

abbrev pub not_accepted_line : ℕ → Row → List ℕ
not_accepted_line number row =
    as_line (codes "ladr: not accepted, line " ++ decimal number ++ codes ", cause "
    ++ decimal (row_number row))

-- the last line, by the end that the check comes to
abbrev pub end_line : CheckEnd → List ℕ
end_line (Accepted proofs) = all_accepted_line proofs
end_line (NotAccepted number row) = not_accepted_line number row
end_line (ClauseLimit formula) = clause_limit_line formula

-- the whole output, so many proofs being accepted
abbrev pub check_report : ℕ → CheckEnd → List ℕ
check_report accepted end = accepted_lines accepted ++ end_line end
