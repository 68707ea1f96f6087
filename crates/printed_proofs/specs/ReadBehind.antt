-- What terms are read as behind a part of the table of their symbols.
use Rattle.std.specs.Prelude.{◌≡◌, List, None}
use Rattle.fol_core.specs.RawTree.{RawTree}
use Rattle.fol_core.specs.SymbolTable.{Symbol, FindsEach, KeepsNumbers}
use Rattle.ladr_formulas.specs.Formulas.{Reading, Made, formula_reading}
use Rattle.ladr_formulas.specs.declared.styles.Style.{Style}
use Rattle.derivation_laws.specs.Moved.{Moving, moved_formula}
use Rattle.derivation_laws.specs.Tables.{IsWithinTable, LeadsTo}

-- what has been read, with another table of symbols
abbrev pub behind : List Symbol → Reading → Reading
behind table s = record s { symbols = table }

-- The same is read behind another table, but for the numbers of symbols; it takes in none that the
-- whole table lacks, and in each table that keeps its numbers they are those that they lead to.
pub record IsReadBehind (all : List Symbol) {A : Type 0} (move : Moving → A → A) (m other : Made A)
    : Type 0 where
  pub same : other.reading ≡ behind other.reading.symbols m.reading
  pub finds : FindsEach other.reading.symbols
  pub within : IsWithinTable other.reading.symbols all
  pub tree : (last : List Symbol) (to back : Moving) → LeadsTo all last to back
      → KeepsNumbers other.reading.symbols last → other.tree ≡ move to m.tree

-- so is each term that breaks no row behind the table of its symbols
abbrev pub TermsAreReadBehind : Type 0
TermsAreReadBehind =
    (st : Style) (all table : List Symbol) (t : RawTree) → FindsEach all → FindsEach table
    → IsWithinTable table all → (formula_reading st all t).reading.symbols ≡ all
    → (formula_reading st all t).reading.least ≡ None
    → IsReadBehind all moved_formula (formula_reading st all t) (formula_reading st table t)
