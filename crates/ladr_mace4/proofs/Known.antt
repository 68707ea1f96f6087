-- What is known of a problem that is searched.
use Rattle.std.proofs.Common.{ℕ, ◌<◌, ◌≤◌, List, length}
use Rattle.cell_search.specs.Finites.{AreTablesFor}
use Rattle.cell_search.specs.Searchable.{HasAllCells}
use Rattle.clausify.specs.Behind.{StandBehind, SkolemsStandBehind}
use Rattle.clausify.specs.Input.{axioms_in_table}
use Rattle.fol_core.specs.Literals.{equality}
use Rattle.fol_core.specs.Meaning.{Meaning}
use Rattle.fol_core.specs.SkolemAxioms.{AreInOrder}
use Rattle.fol_problem.specs.Stated.{Stated, IsWellFormed, IsCountermodel, AreNewTo}
use Rattle.fol_core.specs.SymbolTable.{Symbol, KeepsNumbers}
use Rattle.ladr_cells.specs.Worlds.{CellsForAll, world_for}
use Rattle.ladr_mace4.specs.LeafModels.{MakesSense}
use Rattle.ladr_mace4.specs.Skolems.{all_axioms}
use Rattle.mace_cells.specs.Solutions.{IsCarried}
use Rattle.mace_cells.specs.World.{Solves, AreAlike}
use Rattle.mace_cells.specs.declared.way.Way.{Way}
use Rattle.mace_search.specs.Models.{IsModel}
use Rattle.model_tables.specs.Expansion.{IsExpansion}
use Rattle.model_tables.specs.Isomorphism.{IsIsomorphism}
use Rattle.model_tables.specs.Size.{IsInterpretation}
use Rattle.model_tables.specs.Tables.{Finite, meaning_of}

-- the laws, as their functions state them
abbrev pub InOrder : Type 0
InOrder = (table : List Symbol) (p : Stated) → IsWellFormed p → length p.symbols ≤ equality → KeepsNumbers p.symbols table → length (axioms_in_table table p) ≤ equality → AreInOrder (axioms_in_table table p)

abbrev pub AreNew : Type 0
AreNew = (table : List Symbol) (p : Stated) → IsWellFormed p → length p.symbols ≤ equality → KeepsNumbers p.symbols table → length (axioms_in_table table p) ≤ equality → AreNewTo p.formulas (axioms_in_table table p)

abbrev pub SolutionsSay : Type 0
SolutionsSay = (p : Stated) (n : ℕ) (way : Way) → IsWellFormed p → length p.symbols ≤ equality → (m : Meaning) → Solves (world_for p n way) m → IsCountermodel m p.formulas

abbrev pub EachSolves : Type 0
EachSolves =
    (p : Stated) (n : ℕ) (way : Way) → IsWellFormed p → length p.symbols ≤ equality → AreInOrder (axioms_in_table p.symbols p) → AreNewTo p.formulas (axioms_in_table p.symbols p)
    → (t : Finite) → IsModel p n t → (e : Finite) × (IsExpansion t (axioms_in_table p.symbols p) e × Solves (world_for p n way) (meaning_of e))

abbrev pub AreRenamed : Type 0
AreRenamed =
    (p : Stated) (n : ℕ) (way : Way) → 0 < n → StandBehind p → AreNewTo p.formulas (axioms_in_table p.symbols p) → (t e u : Finite) → IsInterpretation n p t → IsExpansion t (axioms_in_table p.symbols p) e
    → (m : Meaning) → Solves (world_for p n way) m → (r : ℕ → ℕ) → (back : ℕ → ℕ) → IsCarried (world_for p n way).fixed r back (meaning_of e) m
    → AreTablesFor (world_for p n way) u → AreAlike (world_for p n way) m (meaning_of u) → IsIsomorphism n p r t u

-- what is known of a problem in a size
pub record Facts (p : Stated) (way : Way) (n : ℕ) : Type 0 where
  pub stand : StandBehind p
  pub says : (m : Meaning) → Solves (world_for p n way) m → IsCountermodel m p.formulas
  pub each : (t : Finite) → IsModel p n t → (e : Finite) × (IsExpansion t (all_axioms p) e × Solves (world_for p n way) (meaning_of e))
  pub renamed : (t e u : Finite) → IsInterpretation n p t → IsExpansion t (all_axioms p) e → (m : Meaning) → Solves (world_for p n way) m → (r back : ℕ → ℕ) → IsCarried (world_for p n way).fixed r back (meaning_of e) m
      → AreTablesFor (world_for p n way) u → AreAlike (world_for p n way) m (meaning_of u) → IsIsomorphism n p r t u
  pub cells : HasAllCells (world_for p n way)

pub facts_of : SkolemsStandBehind → InOrder → AreNew → SolutionsSay → EachSolves → AreRenamed → CellsForAll → (p : Stated) (way : Way) (n : ℕ) → MakesSense p n → Facts p way n
facts_of behind order new say each renamed cells p way n sense =
    let apart : AreNewTo p.formulas (all_axioms p) = new p.symbols p sense.well_formed sense.few (λ k s e. e) sense.few_witnesses in
    let stand : StandBehind p = behind p sense.few sense.few_witnesses in
    record {
      stand = stand;
      says = say p n way sense.well_formed sense.few;
      each = each p n way sense.well_formed sense.few (order p.symbols p sense.well_formed sense.few (λ k s e. e) sense.few_witnesses) apart;
      renamed = renamed p n way sense.some stand apart;
      cells = cells p n way sense.fits sense.some sense.needed sense.few sense.few_witnesses;
    }
