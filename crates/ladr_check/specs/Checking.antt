-- How a run of `check` ends, and what it prints.
use Rattle.std.specs.Prelude.{◌≡◌, ℕ, List, []}
use Rattle.std.specs.declared.result.Result.{Result}
use Rattle.ladr_check.specs.CheckReport.{check_report}
use Rattle.ladr_check.specs.Offered.{Offered, offers}
use Rattle.ladr_check.specs.Outcomes.{ComesOut}
use Rattle.ladr_check.specs.declared.ends.CheckEnd.{CheckEnd}
use Rattle.ladr_intake.specs.Command.{Runs}
use Rattle.ladr_intake.specs.declared.stops.Refused.{Refused}
use Rattle.ladr_intake.specs.declared.stops.Stop.{Stop}
use Rattle.ladr_io.specs.Streams.{Inflow, Outflow}

-- what is offered comes out so, and the report on it is the whole output
abbrev pub IsChecked : Offered → CheckEnd → List ℕ → Type 0
IsChecked x end text = (accepted : ℕ) × ComesOut x end accepted × (text ≡ check_report accepted end)

-- the proofs that the bytes offer come out so
abbrev pub IsJudged : List ℕ → CheckEnd → Type 0
IsJudged bytes end =
    (x : Offered) × offers bytes x × ((accepted : ℕ) × ComesOut x end accepted)

-- A run of `check`, by what bytes offer and which are refused: nothing is printed of the proofs
-- before all of them are checked.
abbrev pub Checks :
    (List ℕ → Offered → Type 0) → (List ℕ → Refused → Type 0) → Inflow → Inflow → Outflow → Outflow
    → Result CheckEnd Stop → Type 0
Checks offers refuses = Runs offers refuses (Unit {0}) (λ x text. text ≡ []) IsChecked
