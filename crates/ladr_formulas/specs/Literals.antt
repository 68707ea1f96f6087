-- How literals are read one behind the other, and the clause that they are.
use Rattle.std.specs.Prelude.{◌≡◌, Bool, true, false, List, [], ◌∷◌, ◌++◌, Option, Some, None, if◌then◌else◌}
use Rattle.fol_core.specs.Fol.{Fol, falsum}
use Rattle.fol_core.specs.Literals.{Lit, ClauseTree}
use Rattle.fol_core.specs.RawTree.{RawTree, RawTrees}
use Rattle.fol_core.specs.SymbolTable.{Symbol}
use Rattle.fol_core.specs.Tree.{Trees}
use Rattle.ladr_formulas.specs.ClauseIn.{literal_in, prepended, clause_in}
use Rattle.ladr_formulas.specs.Formulas.{Reading, Made, Bound, Style, formula_in, terms_of, names_of_variables}
use Rattle.ladr_formulas.specs.declared.clauses.ClauseRead.{ClauseRead}

-- the formulas of terms that are read one behind the other
abbrev pub formulas_in : Style → List Bound → Reading → List RawTree → Made (List Fol)
formulas_in st scope s [] = record { tree = []; reading = s }
formulas_in st scope s (t ∷ ts) =
    let first = formula_in st scope s t in
    let others = formulas_in st scope first.reading ts in
    record { tree = first.tree ∷ others.tree; reading = others.reading }

-- the literals that formulas are, if each is one
abbrev pub all_literals : List Fol → Option ClauseTree
all_literals [] = Some []
all_literals (f ∷ fs) = prepended (literal_in f) (all_literals fs)

abbrev pub is_falsum : Fol → Bool
is_falsum falsum = true
is_falsum f = false

-- the clause that formulas are: `$F` alone is the empty one
abbrev pub clause_from : List Fol → Option ClauseTree
clause_from [] = Some []
clause_from (f ∷ []) = if is_falsum f then Some [] else all_literals (f ∷ [])
clause_from (f ∷ g ∷ fs) = all_literals (f ∷ g ∷ fs)

-- one more literal at the end of a clause, and more of them
abbrev pub with_literal : Option ClauseTree → Option Lit → Option ClauseTree
with_literal (Some c) (Some l) = Some (c ++ l ∷ [])
with_literal c l = None

abbrev pub continued : Option ClauseTree → Option ClauseTree → Option ClauseTree
continued (Some c) (Some d) = Some (c ++ d)
continued c d = None

-- the code has the clause of a reading, if it is one, the names of its variables, the rows met, and
-- behind it this table
pub record IsClauseRead (m : Made Fol) (r : ClauseRead) (table : List Symbol) : Type 0 where
  pub clause : r.clause ≡ clause_in m.tree
  pub named : r.names ≡ names_of_variables m.reading.variables
  pub least : r.least ≡ m.reading.least
  pub large : r.large ≡ m.reading.large
  pub symbols : table ≡ m.reading.symbols

-- The code has the clause of a reading, and terms that are read behind it: their variables are
-- numbered together, and the rows that are met are those of both.
pub record IsReadWithTerms
    (st : Style) (m : Made Fol) (behind : RawTrees) (r : ClauseRead) (ts : Trees)
    (table : List Symbol) : Type 0 where
  pub clause : r.clause ≡ clause_in m.tree
  pub terms : ts ≡ (terms_of st [] m.reading behind).tree
  pub named :
      r.names ≡ names_of_variables (terms_of st [] m.reading behind).reading.variables
  pub least : r.least ≡ (terms_of st [] m.reading behind).reading.least
  pub large : r.large ≡ (terms_of st [] m.reading behind).reading.large
  pub symbols : table ≡ (terms_of st [] m.reading behind).reading.symbols
