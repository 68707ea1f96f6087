-- What refutations show, in every interpretation.
use Rattle.std.specs.Prelude.{ℕ, ◌≡◌, IsTrue, false, List, [], ◌∷◌, map, Option, Some}
use Rattle.fol_core.specs.Laws.{NamesElements}
use Rattle.fol_core.specs.Literals.{ClauseTree, AreTrueClauses}
use Rattle.fol_core.specs.Meaning.{Meaning}
use Rattle.fol_core.specs.Occurs.{names_in}
use Rattle.fol_core.specs.Renumbered.{renumbered}
use Rattle.fol_problem.specs.Stated.{Said}
use Rattle.substitutions.specs.Atoms.{AreAtoms}
use Rattle.derivation.specs.Lines.{FirstWord, Inference, ContentTree, formula, clause, LineTree, InputRow, IsInferred, IsRefutation, inference_of}
use Rattle.derivation.specs.Later.{LaterWord}
use Rattle.derivation.specs.Refused.{IsRefusedLine, IsAccepted, IsFault}
use Rattle.derivation.specs.Rule.{Concludes}
use Rattle.derivation.specs.declared.row.Row.{Row}

-- each element that a clause names is within
abbrev pub NamesWithin : Meaning → ClauseTree → Type 0
NamesWithin m [] = Unit {0}
NamesWithin m (l ∷ c) = NamesElements m l.atom × NamesWithin m c

abbrev pub ContentNamesWithin : Meaning → ContentTree → Type 0
ContentNamesWithin m (formula f) = Unit {0}
ContentNamesWithin m (clause c) = NamesWithin m c

-- and each that the clauses of lines name
abbrev pub LinesNameWithin : Meaning → List LineTree → Type 0
LinesNameWithin m [] = Unit {0}
LinesNameWithin m (l ∷ ls) = ContentNamesWithin m l.content × LinesNameWithin m ls

-- a clause names no element
abbrev pub NamesNone : ClauseTree → Type 0
NamesNone [] = Unit {0}
NamesNone (l ∷ c) = ((k : ℕ) → names_in k l.atom ≡ false) × NamesNone c

abbrev pub ContentNamesNone : ContentTree → Type 0
ContentNamesNone (formula f) = Unit {0}
ContentNamesNone (clause c) = NamesNone c

-- nor do the clauses of lines
abbrev pub LinesNameNone : List LineTree → Type 0
LinesNameNone [] = Unit {0}
LinesNameNone (l ∷ ls) = ContentNamesNone l.content × LinesNameNone ls

-- then each element that they name is within, in every interpretation
abbrev pub NoneIsWithin : Type 0
NoneIsWithin = (m : Meaning) (ls : List LineTree) → LinesNameNone ls → LinesNameWithin m ls

abbrev pub RowsAreAtoms : List InputRow → Type 0
RowsAreAtoms [] = Unit {0}
RowsAreAtoms (r ∷ rows) = AreAtoms r.1 × RowsAreAtoms rows

-- where there is a refutation, not all input clauses, which are clauses of atoms, are true in an
-- interpretation that has the elements which the lines name
abbrev pub RefutationIsSound : Meaning → Type 0
RefutationIsSound m =
    (ss : List Said) (rows : List InputRow) (ls : List LineTree) → RowsAreAtoms rows →
    LinesNameWithin m ls
    → IsRefutation ss rows ls → ¬ AreTrueClauses m (map (λ r. r.1) rows)

-- a rule has one conclusion
abbrev pub OneConclusion : Type 0
OneConclusion =
    (w : FirstWord) (i : Inference) (ps : List ClauseTree) (c d : ClauseTree) →
    inference_of w ≡ Some i
    → IsTrue (i.rule.fits ps) → Concludes i.rule ps c → Concludes i.rule ps d → c ≡ d

-- and a line that is inferred has one content, but for the numbers of its variables
abbrev pub OneContent : Type 0
OneContent =
    (ls : List LineTree) (w : FirstWord) (i : Inference) (ws : List LaterWord) (c d : ClauseTree) →
    inference_of w ≡ Some i
    → IsInferred ls i ws (clause c) → IsInferred ls i ws (clause d) → renumbered c ≡ renumbered d

-- a line that is refused behind earlier ones is none, and is refused by one row
abbrev pub RefusedIsNone : Type 0
RefusedIsNone =
    (ss : List Said) (rows : List InputRow) (ls : List LineTree) (last : Option ℕ) (l : LineTree)
    (row : Row)
    → IsRefusedLine ss rows ls last l row → ¬ IsAccepted ss rows ls last l

abbrev pub RefusedByOneRow : Type 0
RefusedByOneRow =
    (ss : List Said) (rows : List InputRow) (ls : List LineTree) (last : Option ℕ) (l : LineTree)
    (row other : Row)
    → IsRefusedLine ss rows ls last l row → IsRefusedLine ss rows ls last l other → row ≡ other

-- lines that have a fault are no refutation, and the fault is one
abbrev pub FaultIsNone : Type 0
FaultIsNone =
    (ss : List Said) (rows : List InputRow) (ls : List LineTree) (number : ℕ) (row : Row) →
    IsFault ss rows ls number row → ¬ IsRefutation ss rows ls

abbrev pub FaultIsOne : Type 0
FaultIsOne =
    (ss : List Said) (rows : List InputRow) (ls : List LineTree)
    (number : ℕ) (row : Row) (other_number : ℕ) (other_row : Row)
    → IsFault ss rows ls number row → IsFault ss rows ls other_number other_row →
    (number ≡ other_number) × (row ≡ other_row)
