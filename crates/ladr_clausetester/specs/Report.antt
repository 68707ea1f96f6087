-- What is printed of formulas that are true or false.
use Rattle.std.specs.Prelude.{ℕ, ◌+◌, Bool, not, List, [], ◌∷◌, ◌++◌, count_by, if◌then◌else◌, codes}
use Rattle.std.specs.Fmt.{decimal}
use Rattle.std.specs.List.{flat_map}
use Rattle.ladr_output.specs.Telling.{as_line}

-- the line of formula k, and those of it and the later ones
abbrev pub verdict_line : ℕ → Bool → List ℕ
verdict_line k holds =
    as_line (codes "formula " ++ decimal k ++ (if holds then codes " true" else codes " false"))

abbrev pub verdict_lines : ℕ → List Bool → List ℕ
verdict_lines k [] = []
verdict_lines k (holds ∷ others) = verdict_line k holds ++ verdict_lines (k + 1) others

-- the lines of interpretation j, and those of it and the later ones
abbrev pub block : ℕ → List Bool → List ℕ
block j all = as_line (codes "% Interpretation " ++ decimal j ++ codes ".") ++ verdict_lines 1 all

abbrev pub blocks : ℕ → List (List Bool) → List ℕ
blocks j [] = []
blocks j (all ∷ others) = block j all ++ blocks (j + 1) others

-- how many formulas are true and how many false
abbrev pub totals_line : List Bool → List ℕ
totals_line all =
    as_line (codes "% True=" ++ decimal (count_by (λ b. b) all) ++ codes ". False="
    ++ decimal (count_by not all) ++ codes ".")

-- what ends an output, by the truth of all formulas in all interpretations
abbrev pub report_end : List Bool → List ℕ
report_end all = totals_line all ++ as_line (codes "% Exit tested.")

-- the truth of all formulas in all interpretations, one behind the other
abbrev pub in_all : List (List Bool) → List Bool
in_all alls = flat_map (λ all. all) alls

-- The whole output for formulas that are true or false as told in each interpretation; the lines of
-- a single one stand by themselves.
abbrev pub report : List (List Bool) → List ℕ
report [] = report_end []
report (all ∷ []) = verdict_lines 1 all ++ report_end all
report (all ∷ other ∷ others) =
    blocks 1 (all ∷ other ∷ others) ++ report_end (in_all (all ∷ other ∷ others))
