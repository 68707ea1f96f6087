-- Which interpretations a run of `clausetester --filter` keeps, and what it prints.
use Rattle.std.specs.Prelude.{◌≡◌, ℕ, ◌+◌, Bool, not, List, [], ◌∷◌, ◌++◌, MatchBool, count_by, if◌then◌else◌, codes}
use Rattle.std.specs.Fmt.{decimal}
use Rattle.std.specs.List.{AllByRecursion}
use Rattle.std.specs.declared.result.Result.{Result}
use Rattle.fol_problem.specs.Stated.{Stated, IsTrueIn}
use Rattle.ladr_clausetester.specs.Verdicts.{meaning_in}
use Rattle.ladr_clausetester.specs.declared.testing.Tested.{Tested}
use Rattle.ladr_clausetester.specs.declared.testing.Tested.TheVariants.{All, Filtered}
use Rattle.ladr_commands.specs.ByName.{ByName}
use Rattle.ladr_intake.specs.Command.{Runs}
use Rattle.ladr_intake.specs.Posed.{Interpreted}
use Rattle.ladr_intake.specs.declared.stops.Refused.{Refused}
use Rattle.ladr_intake.specs.declared.stops.Stop.{Stop}
use Rattle.ladr_interpretations.specs.NamedText.{named_text}
use Rattle.ladr_io.specs.Streams.{Inflow, Outflow}
use Rattle.ladr_output.specs.Telling.{as_line}

-- the closure of each formula that is stated is true in the interpretation
abbrev pub IsKept : Stated → ByName → Type 0
IsKept p it = AllByRecursion (λ s. IsTrueIn (meaning_in p it) s.formula) p.formulas

-- each of the interpretations is such a one or isn't, as told
abbrev pub AreKeptAsTold : Stated → List ByName → List Bool → Type 0
AreKeptAsTold p [] [] = Unit {0}
AreKeptAsTold p [] (b ∷ bs) = ⊥
AreKeptAsTold p (it ∷ its) [] = ⊥
AreKeptAsTold p (it ∷ its) (b ∷ bs) =
    MatchBool b (IsKept p it) (¬ IsKept p it) × AreKeptAsTold p its bs

-- the texts of those that are kept, from number j on: each as it was read, by its number in the input
abbrev pub kept_text : ℕ → ByName → Bool → List ℕ
kept_text j it kept = if kept then named_text it j else []

abbrev pub kept_texts : ℕ → List ByName → List Bool → List ℕ
kept_texts j [] bs = []
kept_texts j (it ∷ its) [] = []
kept_texts j (it ∷ its) (b ∷ bs) = kept_text j it b ++ kept_texts (j + 1) its bs

-- how many are kept and how many dropped, and the last line
abbrev pub filter_end : List Bool → List ℕ
filter_end bs =
    as_line (codes "% Kept=" ++ decimal (count_by (λ b. b) bs) ++ codes ". Dropped="
    ++ decimal (count_by not bs) ++ codes ".") ++ as_line (codes "% Exit filtered.")

-- the whole output, where they are kept as told
abbrev pub filter_report : List ByName → List Bool → List ℕ
filter_report its bs = kept_texts 1 its bs ++ filter_end bs

-- the interpretations are kept as told, and the texts of those that are make the whole output
abbrev pub IsFiltered : Interpreted → Tested → List ℕ → Type 0
IsFiltered x All text = ⊥
IsFiltered x Filtered text =
    (bs : List Bool) × AreKeptAsTold x.stated x.interpretations bs
    × (text ≡ filter_report x.interpretations bs)

-- A run of `clausetester --filter`, by what bytes say and which are refused: nothing is printed
-- before all is tested.
abbrev pub Filters : (List ℕ → Interpreted → Type 0) → (List ℕ → Refused → Type 0) → Inflow → Inflow
    → Outflow → Outflow → Result Tested Stop → Type 0
Filters says refuses = Runs says refuses (Unit {0}) (λ x text. text ≡ []) IsFiltered
