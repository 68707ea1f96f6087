-- A clause and its answers as one clause: the answers are the literals at its end.
use Rattle.std.specs.Prelude.{ℕ, ◌-◌, ◌≡◌, ◌++◌, Bool, false, true, List, Option, Some, None, length, take, drop}
use Rattle.answers.specs.AnswerTrees.{Answer}
use Rattle.answers.specs.Packed.{packed, unpacked}
use Rattle.carried_answers.specs.Carried.{Carried, FirstAs, LedBy, carried}
use Rattle.derivation.specs.Later.{LaterWord}
use Rattle.derivation.specs.Rule.{InferenceRule}
use Rattle.fol_core.specs.Literals.{ClauseTree}
use Rattle.inference.specs.declared.followed.Followed.{Followed}
use Rattle.inference.specs.declared.followed.Followed.TheVariants.{Misplaced, Differs, TooLarge, Done}

-- the literals before the last so many, and the answers that those are
abbrev pub carried_in : ClauseTree → ℕ → Carried
carried_in whole behind =
    carried (take (length whole - behind) whole) (unpacked (drop (length whole - behind) whole))

-- the last so many literals are answers
pub record EndsWithAnswers (whole : ClauseTree) (behind : ℕ) : Type 0 where
  pub parts : whole ≡ (carried_in whole behind).clause ++ packed (carried_in whole behind).answers
  pub many : behind ≡ length (carried_in whole behind).answers

abbrev pub is_done : Followed → Bool
is_done Misplaced = false
is_done Differs = false
is_done TooLarge = false
is_done Done = true

-- what a word comes to: the clause, and how many literals at its end are answers; or none, and
-- nothing is changed
abbrev pub IsLedTo : LaterWord → ClauseTree → ℕ → List ClauseTree → List (List Answer) → ClauseTree
    → Option ℕ → Type 0
IsLedTo w c n ps answers d None =
    LedBy w (carried_in c n) ps answers (carried_in c n) false × (d ≡ c)
IsLedTo w c n ps answers d (Some m) =
    EndsWithAnswers d m × LedBy w (carried_in c n) ps answers (carried_in d m) true

-- what a rule makes, as one clause with so many answers at its end
abbrev pub IsFirst : InferenceRule → List ClauseTree → List (List Answer) →
    Option (ClauseTree × ℕ) → Type 0
IsFirst r cs answers None = FirstAs r cs answers None
IsFirst r cs answers (Some p) =
    EndsWithAnswers p.0 p.1 × FirstAs r cs answers (Some (carried_in p.0 p.1))
