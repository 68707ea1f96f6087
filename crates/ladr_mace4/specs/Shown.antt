-- What stands in the output of a search, to those who asked for it.
use Rattle.std.specs.Prelude.{◌≡◌, ℕ, ◌^◌, ◌<◌, List, ◌++◌, codes}
use Rattle.std.specs.declared.result.Result.{Result}
use Rattle.fol_problem.specs.Stated.{Stated}
use Rattle.ladr_intake.specs.Input.{AreTaken, IsAllRead}
use Rattle.ladr_intake.specs.Posed.{Posed}
use Rattle.ladr_intake.specs.declared.stops.Refused.{Refused}
use Rattle.ladr_intake.specs.declared.stops.Stop.{Stop}
use Rattle.ladr_io.specs.Streams.{Inflow, Outflow, AreLastHeld, greatest}
use Rattle.ladr_io.specs.Times.{Times}
use Rattle.ladr_mace4.specs.Finding.{Searches}
use Rattle.ladr_mace4.specs.Fronts.{WroteFront}
use Rattle.ladr_mace4.specs.Lines.{exhausted_line}
use Rattle.ladr_mace4.specs.Models.{IsWholeModel}
use Rattle.ladr_mace4.specs.Plans.{plan_of}
use Rattle.ladr_mace4.specs.Skolems.{all_symbols}
use Rattle.ladr_mace4.specs.declared.ends.SearchEnd.{SearchEnd}
use Rattle.ladr_models.specs.ReadsBack.{ReadsBack}
use Rattle.ladr_output.specs.Standing.{AreWholeLines, StandsAfter, Stands, HaveOneFront}
use Rattle.ladr_words.specs.Tasks.{HasRanges}
use Rattle.ladr_words.specs.declared.task.ModelOptions.{ModelOptions}
use Rattle.ladr_words.specs.declared.task.Task.TheVariants.{Mace4}
use Rattle.mace_search.specs.Models.{IsModel}
use Rattle.model_tables.specs.ModelText.{model_text}
use Rattle.model_tables.specs.Isomorphism.{IsIsomorphism}
use Rattle.model_tables.specs.Tables.{Finite}

-- Whole tables of size n, as `mace4` gives them: each assumption is true in them and each goal false,
-- and with the values of the Skolem symbols, of which each has its row, the clauses are true; and the
-- text of model k reads back as these tables, Skolem symbols too.
abbrev pub IsShown : Stated → ℕ → ℕ → Finite → Type 0
IsShown p n k t =
    IsWholeModel p n t × ReadsBack (model_text (all_symbols p) k t) (all_symbols p) t

-- what the text of a model begins with
abbrev pub model_opening : List ℕ
model_opening = codes "interpretation("

-- The bytes are such a text, with others behind it, or a front of it.
abbrev pub ShowsModel : Stated → List ℕ → Type 0
ShowsModel p text =
    (n k : ℕ)
    × ((t : Finite) × IsShown p n k t × HaveOneFront text (model_text (all_symbols p) k t))

-- One of the models of size n whose texts stand here is u with its elements renamed, those apart
-- that the formulas name. What it has for the Skolem symbols doesn't count.
abbrev pub IsShownIsomorphic : Stated → ℕ → Finite → List ℕ → Type 0
IsShownIsomorphic p n u text =
    (k : ℕ) × ((t : Finite) × IsShown p n k t × Stands (model_text (all_symbols p) k t) text
    × ((r : ℕ → ℕ) × IsIsomorphism n p r u t))

-- What was written shows models of what is stated, whatever became of the search. Where a line
-- begins like the text of a model, one stands there, which is cut off only where the output is.
-- Where the line of an exhausted size stands, each model of this size stands before it, renamed.
pub record ShowsModels (p : Stated) (old new : Outflow) : Type 0 where
  pub written : List ℕ
  pub wrote : AreLastHeld old.held new.held written
  pub models : (before after : List ℕ) → AreWholeLines before
      → written ≡ before ++ (model_opening ++ after) → ShowsModel p (model_opening ++ after)
  pub exhausted : (n : ℕ) (before : List ℕ) → n < 2 ^ 64
      → StandsAfter before (exhausted_line n) written
      → (u : Finite) → IsModel p n u → IsShownIsomorphic p n u before

-- So it is of what the bytes pose that the source gave. Where these were all of its bytes, what was
-- written is a front of a whole output of the search with these words. (A source that can count no
-- more faults may have failed behind them.)
pub record ShowsPosed (says : List ℕ → Posed → Type 0) (words : ModelOptions) (from from' : Inflow)
    (to to' : Outflow) : Type 0 where
  pub bytes : List ℕ
  pub taken : AreTaken from from' bytes
  pub shows : (x : Posed) → says bytes x → ShowsModels x.stated to to'
  pub fronts : (x : Posed) → says bytes x → IsAllRead from from' bytes → from.faults < greatest
      → WroteFront x.stated (plan_of words x.options) to to'

-- Whatever a run of the command came to, the models that stand in its output are shown, and it is a
-- front of a whole one.
abbrev pub SearchesShow : (List ℕ → Posed → Type 0) → (List ℕ → Refused → Type 0) → Type 0
SearchesShow says refuses =
    (words : ModelOptions) → HasRanges (Mace4 words)
    → (from from' : Inflow) (to to' : Outflow) (t : Times) (r : Result SearchEnd Stop)
    → Searches says refuses words from from' to to' t r → ShowsPosed says words from from' to to'
