-- What a refutation with answers shows, in every interpretation.
use Rattle.std.specs.Prelude.{ℕ, ◌≡◌, ◌≤◌, true, false, IsTrue, List, [], ◌∷◌, length, map, Some}
use Rattle.std.specs.List.{list_all}
use Rattle.answers.specs.AnswerTrees.{Answer}
use Rattle.answered_lines.specs.Answering.{IsTrueWith, SomeAnswerIsTrue}
use Rattle.answered_lines.specs.Lines.{Asked, AnsweredRow, AnsweredLine, HasItems, asked_at, with_asks, with_terms, last_answers, IsRefutationWith}
use Rattle.clausify.specs.Asked.{asked_variables, first_ask, other_asks, answer_terms_in_table}
use Rattle.clausify.specs.Clausal.{clauses_in}
use Rattle.clausify.specs.Forms.{nnf_of}
use Rattle.clausify.specs.Input.{ClauseRow, clauses_in_table, axioms_in_table}
use Rattle.clausify.specs.Skolem.{skolem_axioms}
use Rattle.derivation.specs.Laws.{NamesWithin}
use Rattle.derivation.specs.Lines.{ContentTree, formula, clause, is_goal}
use Rattle.fol_core.specs.Bound.{BindsOnce, HasSymbolsBelow}
use Rattle.fol_core.specs.Fol.{Fol}
use Rattle.fol_core.specs.Free.{free_vars_of}
use Rattle.fol_core.specs.Laws.{AllNameElements}
use Rattle.fol_core.specs.Literals.{equality, IsTrueClause, is_true_clause}
use Rattle.fol_core.specs.Meaning.{Meaning, IsLawful}
use Rattle.fol_core.specs.SkolemAxioms.{PicksWitnesses}
use Rattle.fol_core.specs.SymbolTable.{Symbol}
use Rattle.fol_core.specs.Tree.{Trees, var}
use Rattle.fol_core.specs.Truth.{Assignment, IsWithin, values_of}
use Rattle.fol_problem.specs.Asks.{IsLiveOr}
use Rattle.fol_problem.specs.Stated.{Said, Stated, IsWellFormed, IsTrueIn}
use Rattle.substitutions.specs.Atoms.{AreAtoms}

-- A row's clause is true where its formula is, or, of a goal, where this is false. That of a goal
-- which asks for something is true under each assignment under which its answer isn't.
pub record RowHolds (m : Meaning) (s : Asked) (r : AnsweredRow) : Type 0 where
  pub atoms : AreAtoms r.row.1
  pub terms : AllNameElements m r.terms
  pub other : is_goal s.said.role ≡ false → IsTrueClause m r.row.1
  pub denied : is_goal s.said.role ≡ true → ¬ IsTrueIn m s.said.formula → IsTrueClause m r.row.1
  pub unanswered : is_goal s.said.role ≡ true → HasItems s.places → (e : Assignment) → IsWithin m e
      → ¬ IsTrueWith m s.said.formula s.places (values_of m e r.terms)
      → IsTrue (is_true_clause m e r.row.1)

abbrev pub RowsHold : Meaning → List Asked → List AnsweredRow → Type 0
RowsHold m ss [] = Unit {0}
RowsHold m ss (r ∷ rows) =
    ((s : Asked) → asked_at ss r.row.0 ≡ Some s → RowHolds m s r) × RowsHold m ss rows

-- each element that the terms of answers name is within, and each that a clause with them names
abbrev pub AnswersNameWithin : Meaning → List Answer → Type 0
AnswersNameWithin m [] = Unit {0}
AnswersNameWithin m (a ∷ us) = AllNameElements m a.terms × AnswersNameWithin m us

abbrev pub BothNameWithin : Meaning → ContentTree → List Answer → Type 0
BothNameWithin m (formula f) us = Unit {0}
BothNameWithin m (clause c) us = NamesWithin m c × AnswersNameWithin m us

-- and each that lines name
abbrev pub LinesNameWithin : Meaning → List AnsweredLine → Type 0
LinesNameWithin m [] = Unit {0}
LinesNameWithin m (l ∷ ls) = BothNameWithin m l.line.content l.answers × LinesNameWithin m ls

-- where the rows hold, some answer on the last line of a refutation is true, or some goal whose
-- line asks for nothing
abbrev pub AnswersAreSound : Meaning → Type 0
AnswersAreSound m =
    (ss : List Asked) (rows : List AnsweredRow) (ls : List AnsweredLine) →
    RowsHold m ss rows → LinesNameWithin m ls → IsRefutationWith ss rows ls
    → SomeAnswerIsTrue m ls (last_answers ls)

-- the clauses of a closed formula's denial are true under each assignment under which the formula
-- isn't true with the elements of what is asked for, in an interpretation that picks witnesses
abbrev pub UnansweredClausesFollow : Meaning → Type 0
UnansweredClausesFollow m =
    (symbols : List ℕ) (k : ℕ) (f : Fol) (places : List ℕ) → free_vars_of f ≡ [] → BindsOnce f →
    HasSymbolsBelow equality f → PicksWitnesses m (skolem_axioms symbols k [] var (nnf_of false f))
    → (e : Assignment) → IsWithin m e → ¬ IsTrueWith m f places (map e (asked_variables f places))
    → list_all (is_true_clause m e) (clauses_in symbols k [] var (nnf_of false f)) ≡ true

-- what formulas ask for, they can be asked for
abbrev pub AreLiveAsks : List Said → List (List ℕ) → Type 0
AreLiveAsks [] asks = Unit {0}
AreLiveAsks (s ∷ ss) asks =
    IsLiveOr s.formula (first_ask asks) × AreLiveAsks ss (other_asks asks)

-- each formula that isn't a goal is true
abbrev pub AreTrueButGoals : Meaning → List Said → Type 0
AreTrueButGoals m [] = Unit {0}
AreTrueButGoals m (s ∷ ss) =
    (is_goal s.role ≡ false → IsTrueIn m s.formula) × AreTrueButGoals m ss

-- The rows of what is stated, with the terms of their answers, hold where its other formulas are
-- true and the values of Skolem symbols are witnesses.
abbrev pub RowsFollow : Type 0
RowsFollow =
    (m : Meaning) (table : List Symbol) (p : Stated) (asks : List (List ℕ)) → IsLawful m
    → IsWellFormed p → length p.symbols ≤ equality → AreLiveAsks p.formulas asks
    → PicksWitnesses m (axioms_in_table table p) → AreTrueButGoals m p.formulas
    → RowsHold m (with_asks p.formulas asks)
    (with_terms (clauses_in_table table p) (answer_terms_in_table table p asks))

-- What these lines show of what is stated, whose clauses and answers' terms these are: wherever all
-- but the goals is true, some answer on the last line is, or some goal whose line asks for nothing.
abbrev pub AnswersShow : Stated → List (List ℕ) → List ClauseRow → List Trees →
    List AnsweredLine → Type 0
AnswersShow p asks rows terms ls =
    (m : Meaning) (table : List Symbol) → IsLawful m → IsWellFormed p → length p.symbols ≤ equality
    → AreLiveAsks p.formulas asks
    → rows ≡ clauses_in_table table p → terms ≡ answer_terms_in_table table p asks
    → LinesNameWithin m ls → PicksWitnesses m (axioms_in_table table p)
    → AreTrueButGoals m p.formulas
    → SomeAnswerIsTrue m ls (last_answers ls)

-- so does each refutation with answers of what is stated
abbrev pub RefutationsShowAnswers : Type 0
RefutationsShowAnswers =
    (p : Stated) (asks : List (List ℕ)) (rows : List ClauseRow) (terms : List Trees)
    (ls : List AnsweredLine)
    → IsRefutationWith (with_asks p.formulas asks) (with_terms rows terms) ls
    → AnswersShow p asks rows terms ls
