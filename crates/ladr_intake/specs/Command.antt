-- What a run of a command amounts to that reads an input.
use Rattle.std.specs.Prelude.{◌≡◌, ℕ, List, [], ◌⊎◌}
use Rattle.std.specs.declared.result.Result.{Result}
use Rattle.std.specs.declared.result.Result.TheVariants.{Ok, Err}
use Rattle.ladr_intake.specs.Input.{AreTaken, IsAllRead, IsFailed}
use Rattle.ladr_intake.specs.Refusals.{IsRefused, refusal_text, read_fault_line}
use Rattle.ladr_intake.specs.declared.stops.Refused.{Refused}
use Rattle.ladr_intake.specs.declared.stops.Stop.{Stop}
use Rattle.ladr_intake.specs.declared.stops.Stop.TheVariants as stops
use Rattle.ladr_io.specs.Streams.{Inflow, Outflow}
use Rattle.ladr_output.specs.Telling.{Tells}
use Rattle.ladr_output.specs.declared.cut.Cut.{Cut}
use Rattle.ladr_output.specs.declared.cut.Cut.TheVariants.{WriteFault, Memory}

-- How a run ended whose output isn't cut off: by an end of the command's own, or since there is no
-- problem.
pub data End (E : Type 0) : Type 0 where
  own : E → End E
  refused : Refused → End E
  read_fault : End E

abbrev pub end_of : {E : Type 0} → Result E Stop → Result (End E) Cut
end_of (Ok e) = Ok (own e)
end_of (Err (stops.Refused why)) = Ok (refused why)
end_of (Err stops.ReadFault) = Ok read_fault
end_of (Err stops.WriteFault) = Err WriteFault
end_of (Err stops.Memory) = Err Memory

-- A command, by a language of input: which bytes say what, and which are refused why. `idle` says
-- that nothing was done but to read and to print. Of what is said the command tells which texts may
-- stand while it goes on, and by which text it ends how.
module _ {A E : Type 0} (says : List ℕ → A → Type 0) (refuses : List ℕ → Refused → Type 0)
    (idle : Type 0) (goes : A → List ℕ → Type 0) (ends : A → E → List ℕ → Type 0) where
  -- the text may stand while the command goes on with these bytes
  abbrev pub MayStand : Inflow → Inflow → List ℕ → List ℕ → Type 0
  MayStand old new bytes text =
      ((text ≡ []) × idle) ⊎ (IsAllRead old new bytes × ((x : A) × says bytes x × goes x text))

  -- the command ends so with these bytes, and the text is its whole output
  abbrev pub EndsBy : Inflow → Inflow → List ℕ → End E → List ℕ → Type 0
  EndsBy old new bytes (own e) text =
      IsAllRead old new bytes × ((x : A) × says bytes x × ends x e text)
  EndsBy old new bytes (refused why) text =
      IsRefused refuses old new bytes why × idle × (text ≡ refusal_text why)
  EndsBy old new bytes read_fault text = IsFailed old new bytes × idle × (text ≡ read_fault_line)

-- a run of a command: what the source gave, and what came of it
pub record Runs {A E : Type 0} (says : List ℕ → A → Type 0) (refuses : List ℕ → Refused → Type 0)
    (idle : Type 0) (goes : A → List ℕ → Type 0) (ends : A → E → List ℕ → Type 0)
    (from from' : Inflow) (to to' : Outflow) (result : Result E Stop) : Type 0 where
  pub bytes : List ℕ
  pub taken : AreTaken from from' bytes
  pub tells : Tells (MayStand says refuses idle goes ends from from' bytes)
      (EndsBy says refuses idle goes ends from from' bytes) to to' (end_of result)
