-- The witnesses of what is worked out.
use Rattle.std.proofs.Common.{◌≡◌, inl, inr, ℕ, true, false, [], ◌∷◌, List, Option, Some, None, Bool, ◌==◌, length, refl, sym, ap, ◌∙◌, lit<, unwrap_or}
use Rattle.std.proofs.lemmas.Bool.{false≢true, eq-eqb}
use Rattle.answers.specs.AnswerTrees.{Answer, answer, numbered_answers}
use Rattle.answered_lines.specs.Lines.{Asked, AnsweredLine, answered_at, IsInferredWith, IsInputWith, IsSome, IsRowWith, IsStatedWith, row_answers}
use Rattle.answered_lines.specs.Steps.{ConcludesWith}
use Rattle.answered_lines.specs.Worked.{only, either, some, asked, inputs, given, with_notes, both_answers, silent, WorkedUnit, WorkedRule, WorkedRefutation, WorkedFaults, WorkedSilent}
use Rattle.answered_lines.proofs.Contents.{inferred_one_with}
use Rattle.answered_lines.proofs.PlainLines.{inferred_plain, said_plain}
use Rattle.derivation.specs.Later.{unit_deleted}
use Rattle.derivation.specs.Lines.{copy_inference, is_goal, formula, clause, assumed, wanted}
use Rattle.derivation.specs.Words.{copy_rule}
use Rattle.derivation.specs.Worked.{a, b, p, yes, no, numbered_line}
use Rattle.derivation.proofs.Conclusions.{copy_natural}
use Rattle.derivation.proofs.Lawful.{copy_lawful}
use Rattle.fol_core.specs.Fol.{Fol}
use Rattle.fol_core.specs.Literals.{ClauseTree}
use Rattle.fol_core.specs.Tree.{Trees, var, elem, app, none, more}
use Rattle.fol_problem.specs.Stated.{said}
use Rattle.fol_problem.specs.declared.problem.Role.TheVariants.{Assumption, Goal}

pub unit : WorkedUnit
unit = (λ x. a, refl, refl)

pub rule : WorkedRule
rule = (λ x. a, refl, refl)

-- the clause with two literals, copied
copied_both : ConcludesWith copy_rule ((yes (p a) ∷ yes (p b) ∷ []) ∷ []) ([] ∷ []) (yes (p a) ∷ yes (p b) ∷ []) []
copied_both = (λ k. var, record { unifies = tt; general = λ other h. (var, refl, refl) }, refl, refl)

-- of it the unit takes both, and brings an answer each time
inferred : IsInferredWith given (copy_inference 3) (unit_deleted 0 4 ∷ unit_deleted 0 4 ∷ []) (clause []) both_answers
inferred = (
  (yes (p a) ∷ yes (p b) ∷ []) ∷ [],
  yes (p a) ∷ yes (p b) ∷ [],
  [],
  (refl, tt),
  refl,
  copied_both,
  (
    (no (p (var 0)) ∷ []) ∷ [],
    yes (p b) ∷ [],
    answer 2 (only a) ∷ [],
    (refl, tt),
    refl,
    ((λ x. a, refl), refl),
    (λ x. a, refl, refl),
    ((no (p (var 0)) ∷ []) ∷ [], [], both_answers, (refl, tt), refl, ((λ x. b, refl), refl), (λ x. b, refl, refl), (refl, refl)),
  ),
)

abbrev goal_line : AnsweredLine
goal_line = with_notes (numbered_line 2 (formula some) wanted) (Some (0 ∷ [])) []

abbrev goal_asked : Asked
goal_asked = record { said = said Goal some; places = 0 ∷ [] }

pub refutation : WorkedRefutation
refutation = (
  (
    tt,
    (inl (refl, refl), refl),
    (
      lit< tt,
      (inr (inl ((refl, refl), refl, tt)), refl),
      (
        lit< tt,
        ((either, None, (with_notes (numbered_line 1 (formula either) assumed) None [], refl, refl, refl, refl), inl (record { said = said Assumption either; places = [] }, refl, (refl, refl), (refl, refl))), refl),
        (
          lit< tt,
          (
            (
              some,
              Some (0 ∷ []),
              (goal_line, refl, refl, refl, refl),
              inr (inl (goal_asked, refl, ((refl, refl), refl, tt), (refl, refl))),
            ),
            refl,
          ),
          (lit< tt, inferred, tt),
        ),
      ),
    ),
  ),
  refl,
)

-- a list with another number of items is another list
other_length : (us vs : List Answer) → us ≡ vs → (length us == length vs) ≡ false → ⊥
other_length us vs h e = false≢true (sym e ∙ eq-eqb (length us) (length vs) (ap length h))

-- whether the first answer is for a variable
abbrev for_variable : List Answer → Bool
for_variable [] = false
for_variable (u ∷ us) = is_variable u.terms
  where
    is_variable : Trees → Bool
    is_variable none = false
    is_variable (more (var x) ts) = true
    is_variable (more (elem k) ts) = false
    is_variable (more (app g us) ts) = false

-- what line 4's clause may have for answers, by what its goal's line asks for
abbrev denial : ClauseTree
denial = no (p (var 0)) ∷ []

row_answers_are : (f : Fol) (o : Option (List ℕ)) (n : ℕ) (us : List Answer) → IsSome (IsRowWith true f o asked n (clause denial) us) inputs
    → numbered_answers denial us ≡ numbered_answers denial (row_answers o n (only (var 0)))
row_answers_are f o n us (inl (s, at, said, same)) = absurd (false≢true (ap (λ k. is_goal (unwrap_or k s).said.role) at ∙ (said_plain true f o s said).0))
row_answers_are f o n us (inr (inl (s, at, said, same))) = same.1
row_answers_are f o n us (inr (inr there)) = absurd there

denied_are : (ls : List AnsweredLine) (k : AnsweredLine) (n : ℕ) (us : List Answer) → answered_at ls n ≡ Some k → IsInputWith asked inputs ls true n (clause denial) us
    → numbered_answers denial us ≡ numbered_answers denial (row_answers k.asks n (only (var 0)))
denied_are ls k n us there (f, o, (l, at, is, first, own), row) =
    row_answers_are f o n us row ∙ ap (λ o. numbered_answers denial (row_answers o n (only (var 0)))) (sym own ∙ ap (λ x. (unwrap_or x l).asks) (sym at ∙ there))

-- the goal asks for its first variable alone
other_place : IsStatedWith true (formula some) (Some (1 ∷ [])) asked → ⊥
other_place (inl h) = false≢true h.0.0
other_place (inr (inl h)) = false≢true (eq-eqb 0 1 (ap first_number h.1))
  where
    first_number : List ℕ → ℕ
    first_number [] = 0
    first_number (x ∷ xs) = x
other_place (inr (inr h)) = h

pub faults : WorkedFaults
faults = (
  inr (
    lit< tt,
    inr (
      refl,
      inferred_plain given (copy_inference 3) (unit_deleted 0 4 ∷ unit_deleted 0 4 ∷ []) (clause []) both_answers inferred,
      λ is. let same = inferred_one_with given (copy_inference 3) copy_lawful copy_natural (unit_deleted 0 4 ∷ unit_deleted 0 4 ∷ []) [] [] both_answers (answer 2 (only a) ∷ []) inferred is in
          other_length both_answers (answer 2 (only a) ∷ []) same.1 refl,
    ),
  ),
  inr (tt, inl (refl, other_place)),
  inr (lit< tt, inr (inl (refl, refl, λ is. false≢true (ap for_variable (denied_are given goal_line 2 (answer 2 (only a) ∷ []) refl is))))),
  inr (lit< tt, inr (inl (refl, refl, λ is. other_length [] (answer 2 (only (var 0)) ∷ []) (denied_are given goal_line 2 [] refl is) refl))),
)

pub quiet : WorkedSilent
quiet = (
  (tt, (inr (inl (refl, refl)), refl)),
  (lit< tt, ((some, None, (silent, refl, refl, refl, refl), inr (inl (goal_asked, refl, (refl, refl), (refl, refl)))), refl)),
  inr (lit< tt, inr (inl (refl, refl, λ is. other_length (answer 1 (only (var 0)) ∷ []) [] (denied_are (silent ∷ []) silent 1 (answer 1 (only (var 0)) ∷ []) refl is) refl))),
)
