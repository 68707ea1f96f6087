-- When answers are true in an interpretation.
use Rattle.std.specs.Prelude.{ℕ, if◌then◌else◌, true, List, [], ◌∷◌, Some, None}
use Rattle.answers.specs.AnswerTrees.{Answer}
use Rattle.answered_lines.specs.Lines.{AnsweredLine, IsFormulaWith}
use Rattle.clausify.specs.Asked.{asked_variables}
use Rattle.fol_core.specs.Fol.{Fol, exists}
use Rattle.fol_core.specs.Free.{is_in}
use Rattle.fol_core.specs.Meaning.{Meaning}
use Rattle.fol_core.specs.Truth.{Assignment, with_var, IsWithin, values_of, Holds}
use Rattle.fol_problem.specs.Stated.{zero, IsTrueIn}

-- a formula without those quantifiers in front that bind one of the variables
abbrev pub opened : List ℕ → Fol → Fol
opened xs (exists x f) = if is_in x xs then opened xs f else exists x (opened xs f)
opened xs f = f

-- elements for variables, each its own
abbrev pub with_values : Assignment → List ℕ → List ℕ → Assignment
with_values e [] vs = e
with_values e (x ∷ xs) [] = e
with_values e (x ∷ xs) (v ∷ vs) = with_var (with_values e xs vs) x v

-- a formula is true with these elements for the variables that are asked for
abbrev pub IsTrueWith : Meaning → Fol → List ℕ → List ℕ → Type 0
IsTrueWith m f places vs =
    Holds m (with_values zero (asked_variables f places) vs) (opened (asked_variables f places) f)

-- an answer is true: its line has a goal that is, with the values of the terms
abbrev pub IsTrueAnswer : Meaning → Assignment → List AnsweredLine → Answer → Type 0
IsTrueAnswer m e ls a =
    (f : Fol) × (places : List ℕ) × IsFormulaWith ls a.goal true f (Some places)
    × IsTrueWith m f places (values_of m e a.terms)

-- none of the answers is true
abbrev pub NoneIsTrue : Meaning → Assignment → List AnsweredLine → List Answer → Type 0
NoneIsTrue m e ls [] = Unit {0}
NoneIsTrue m e ls (a ∷ us) = (¬ IsTrueAnswer m e ls a) × NoneIsTrue m e ls us

-- no goal is true whose line asks for nothing
abbrev pub NoUnaskedIsTrue : Meaning → List AnsweredLine → Type 0
NoUnaskedIsTrue m ls =
    (n : ℕ) (f : Fol) → IsFormulaWith ls n true f None → ¬ IsTrueIn m f

-- some answer on the last line is true under each assignment, or some goal whose line asks for
-- nothing: "or" and "some" are spelled by denials
abbrev pub SomeAnswerIsTrue : Meaning → List AnsweredLine → List Answer → Type 0
SomeAnswerIsTrue m ls us =
    (e : Assignment) → IsWithin m e → ¬ (NoneIsTrue m e ls us × NoUnaskedIsTrue m ls)
