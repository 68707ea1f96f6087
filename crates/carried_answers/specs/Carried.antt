-- Clauses with answers, and what steps make of them, but for the numbers of variables.
use Rattle.std.specs.Borrow.{Bor}
use Rattle.std.specs.Prelude.{◌≡◌, ◌⊎◌, Bool, true, false, IsTrue, List, map, Option, Some, None}
use Rattle.answered_lines.specs.Steps.{ConcludesWith, Brings}
use Rattle.answers.specs.AnswerTrees.{Answer, IsSame}
use Rattle.answers.specs.AnswerView.{answers_of}
use Rattle.answers.specs.declared.answer.Answer as code
use Rattle.derivation.specs.Later.{LaterWord, later_fits, Leads}
use Rattle.derivation.specs.Rule.{InferenceRule, UnifiesFamily}
use Rattle.fol_core.specs.Literals.{ClauseTree}
use Rattle.substitutions.specs.Apart.{Own}

pub record Carried : Type 0 where
  pub clause : ClauseTree
  pub answers : List Answer

abbrev pub carried : ClauseTree → List Answer → Carried
carried c us = record { clause = c; answers = us }

-- answers that are lent, of several clauses
abbrev pub lent_answers : List (Bor (List code.Answer)) → List (List Answer)
lent_answers lists = map (λ us. answers_of us.now) lists

-- what a rule makes of its parents with their answers: nothing where it doesn't fit or nothing
-- unifies
abbrev pub FirstAs : InferenceRule → List ClauseTree → List (List Answer) → Option Carried → Type 0
FirstAs r cs answers None = (r.fits cs ≡ false) ⊎ ((own : Own) → ¬ UnifiesFamily r cs own)
FirstAs r cs answers (Some a) =
    IsTrue (r.fits cs)
    × ((c : ClauseTree) × (us : List Answer) × ConcludesWith r cs answers c us
    × IsSame a.clause a.answers c us)

-- what a word comes to: it is done, or nothing is changed
abbrev pub LedBy : LaterWord → Carried → List ClauseTree → List (List Answer) → Carried → Bool →
    Type 0
LedBy w a ps answers b true =
    IsTrue (later_fits w a.clause ps) × Leads w a.clause ps b.clause
    × Brings w a.clause a.answers ps answers b.answers
LedBy w a ps answers b false =
    (IsTrue (later_fits w a.clause ps) → (e : ClauseTree) → ¬ Leads w a.clause ps e) × (b ≡ a)
