-- How a run of `clausetester` ends, and what it prints.
use Rattle.std.specs.Prelude.{◌≡◌, ℕ, Bool, List, []}
use Rattle.std.specs.declared.result.Result.{Result}
use Rattle.ladr_clausetester.specs.Report.{report}
use Rattle.ladr_clausetester.specs.Verdicts.{AreAllTold}
use Rattle.ladr_clausetester.specs.declared.testing.Tested.{Tested}
use Rattle.ladr_clausetester.specs.declared.testing.Tested.TheVariants.{All, Filtered}
use Rattle.ladr_intake.specs.Command.{Runs}
use Rattle.ladr_intake.specs.Posed.{Interpreted}
use Rattle.ladr_intake.specs.declared.stops.Refused.{Refused}
use Rattle.ladr_intake.specs.declared.stops.Stop.{Stop}
use Rattle.ladr_io.specs.Streams.{Inflow, Outflow}

-- the formulas are true in each interpretation as told, and the report on them is the whole output
abbrev pub IsTested : Interpreted → Tested → List ℕ → Type 0
IsTested x All text =
    (alls : List (List Bool)) × AreAllTold x.stated x.interpretations alls × (text ≡ report alls)
IsTested x Filtered text = ⊥

-- A run of `clausetester`, by what bytes say and which are refused: nothing is printed of the
-- formulas before all of them are tested.
abbrev pub Tests : (List ℕ → Interpreted → Type 0) → (List ℕ → Refused → Type 0) → Inflow → Inflow →
    Outflow → Outflow → Result Tested Stop → Type 0
Tests says refuses = Runs says refuses (Unit {0}) (λ x text. text ≡ []) IsTested
