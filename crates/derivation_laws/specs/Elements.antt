-- Elements that no input clause names, and the lines of derivations.
use Rattle.std.specs.Prelude.{ℕ, ◌≡◌, false, List}
use Rattle.std.specs.List.{AllByRecursion}
use Rattle.derivation.specs.Laws.{LinesNameNone}
use Rattle.derivation.specs.Lines.{FirstWord, assumed, wanted, clausified, denied, copied, resolved, factored, paramodulated, xx_resolved, instantiated, ContentTree, formula, clause, LineTree, InputRow, IsDerivation}
use Rattle.fol_core.specs.Literals.{ClauseTree}
use Rattle.fol_core.specs.Occurs.{names_in}
use Rattle.fol_problem.specs.Stated.{Said}
use Rattle.substitutions.specs.Bindings.{Binding}

-- a clause does not name the element
abbrev pub NamesNot : ℕ → ClauseTree → Type 0
NamesNot k c = AllByRecursion (λ l. names_in k l.atom ≡ false) c

abbrev pub RowsNameNot : ℕ → List InputRow → Type 0
RowsNameNot k rows = AllByRecursion (λ r. NamesNot k r.1) rows

abbrev pub ContentNamesNot : ℕ → ContentTree → Type 0
ContentNamesNot k (formula f) = Unit {0}
ContentNamesNot k (clause c) = NamesNot k c

abbrev pub LinesNameNot : ℕ → List LineTree → Type 0
LinesNameNot k ls = AllByRecursion (λ l. ContentNamesNot k l.content) ls

-- nor do the terms that a first word puts in
abbrev pub BindingsNameNot : ℕ → List Binding → Type 0
BindingsNameNot k es = AllByRecursion (λ e. names_in k e.1 ≡ false) es

abbrev pub FirstNamesNot : ℕ → FirstWord → Type 0
FirstNamesNot k assumed = Unit {0}
FirstNamesNot k wanted = Unit {0}
FirstNamesNot k (clausified n) = Unit {0}
FirstNamesNot k (denied n) = Unit {0}
FirstNamesNot k (copied n) = Unit {0}
FirstNamesNot k (resolved n ss) = Unit {0}
FirstNamesNot k (factored n a b) = Unit {0}
FirstNamesNot k (paramodulated n a side m b path) = Unit {0}
FirstNamesNot k (xx_resolved n a) = Unit {0}
FirstNamesNot k (instantiated n es) = BindingsNameNot k es

abbrev pub FirstsNameNot : ℕ → List LineTree → Type 0
FirstsNameNot k ls = AllByRecursion (λ l. FirstNamesNot k l.first) ls

-- an element that no input clause names, and no term that a line puts in, is named by no clause of
-- a derivation's lines
abbrev pub ElementIsNowhere : Type 0
ElementIsNowhere =
    (k : ℕ) (ss : List Said) (rows : List InputRow) (ls : List LineTree) → RowsNameNot k rows →
    FirstsNameNot k ls → IsDerivation ss rows ls → LinesNameNot k ls

-- where the input clauses and the terms that lines put in name no element, nor do the lines
abbrev pub LinesNameNoElements : Type 0
LinesNameNoElements =
    (ss : List Said) (rows : List InputRow) (ls : List LineTree) →
    ((k : ℕ) → RowsNameNot k rows) → ((k : ℕ) → FirstsNameNot k ls) → IsDerivation ss rows ls →
    LinesNameNone ls
