-- Searches worked out.
use Rattle.std.specs.Prelude.{ℕ, true, false, List, [], ◌∷◌, map, None, codes}
use Rattle.fol_core.specs.Fol.{Fol, equal, negation, forall, exists}
use Rattle.fol_problem.specs.Stated.{Stated, stated, said}
use Rattle.fol_core.specs.SymbolTable.{symbol}
use Rattle.fol_core.specs.Tree.{var, app, none}
use Rattle.fol_problem.specs.declared.problem.Role.TheVariants.{Assumption}
use Rattle.fol_core.specs.declared.symbols.Kind.TheVariants.{Function}
use Rattle.ladr_mace4.specs.Story.{Size, searched}
use Rattle.ladr_words.specs.declared.task.ModelOptions.{ModelOptions}
use Rattle.mace_cells.specs.declared.way.Candidates.TheVariants.{InUse}
use Rattle.mace_cells.specs.declared.way.CellMeasure.TheVariants.{MostCrossed}
use Rattle.mace_cells.specs.declared.way.Way.{Way}
use Rattle.model_tables.specs.Tables.{Finite, listing}

-- some element is each one, which has no symbol but the Skolem symbol for it
abbrev pub lonely : Stated
lonely = stated [] (said Assumption (exists 0 (forall 1 (equal (var 0) (var 1)))) ∷ [])

-- one element, which that symbol picks
abbrev pub alone : Finite
alone = record { top = 0; rows = listing Function (0 ∷ []) ∷ [] }

-- size 1 has this model, and size 2 none, no cell being chosen
abbrev pub lonely_sizes : List Size
lonely_sizes = searched (alone ∷ []) 0 ∷ searched [] 0 ∷ []

abbrev pub lonely_text : List ℕ
lonely_text =
    codes "% Domain size 1.\ninterpretation(1, [number = 1,seconds = 0], [\n    function(c1, [0])\n]).\n% Domain size 1 exhausted.\n% Domain size 2.\n% Domain size 2 exhausted.\n"

-- no word beside `mace4`
abbrev pub bare : ModelOptions
bare = record { start_size = None; end_size = None; max_models = None; max_seconds = None }

-- how cells are chosen where an input says nothing of it
abbrev pub usual : Way
usual = record { candidates = InUse; measure = MostCrossed; least_numbers = true }

-- of three constants, the second has the value of neither of the others
abbrev pub apart : ℕ → ℕ → Fol
apart x y = negation (equal (app x none) (app y none))

abbrev pub unlike : Stated
unlike =
    stated (map (λ name. symbol name 0 Function) (codes "a" ∷ codes "b" ∷ codes "c" ∷ []))
    (said Assumption (apart 0 1) ∷ said Assumption (apart 1 2) ∷ [])

-- their values, up to this element
abbrev pub constants : ℕ → List ℕ → Finite
constants top values = record { top = top; rows = map (λ v. listing Function (v ∷ [])) values }

-- each value is tried
abbrev pub thorough : Way
thorough = record usual { least_numbers = false }
