-- The witnesses of what is worked out.
use Rattle.std.proofs.Common.{◌≡◌, inl, inr, ℕ, true, [], ◌∷◌, Some, Bool, ◌<◌, refl, sym, ap, ◌∙◌, lit<, unwrap_or, arith}
use Rattle.std.proofs.lemmas.Bool.{true≢false, false≢true, eq-eqb}
use Rattle.fol_core.specs.Fol.{Fol, atom}
use Rattle.fol_core.specs.Literals.{ClauseTree}
use Rattle.fol_problem.specs.Stated.{said}
use Rattle.fol_core.specs.Tree.{Tree, var, app, none, more}
use Rattle.fol_problem.specs.declared.problem.Role.TheVariants.{Assumption, Goal}
use Rattle.derivation.specs.Lines.{LineTree, formula, assumed, wanted}
use Rattle.derivation.specs.Rule.{IsMostGeneralFamily, Concludes}
use Rattle.derivation.specs.Words.{clash_rule, copy_rule}
use Rattle.derivation.specs.Worked.{a, b, p, yes, no, numbered_line, WorkedLater, WorkedRefutation, WorkedFaults}

pub later : WorkedLater
later = (refl, ((0, lit< tt, refl), refl), (refl, refl), ((λ x. a, refl), refl), (λ x. a, refl, refl))

abbrev f0 : Fol
f0 = atom 3 (more a none)

general : IsMostGeneralFamily (clash_rule ((0, 0) ∷ [])) ((yes (p a) ∷ []) ∷ (no (p a) ∷ []) ∷ []) (λ k. var)
general = record { unifies = (refl, tt); general = λ other h. (var, refl) }

pub refutation : WorkedRefutation
refutation = (
  (
    tt,
    (inl (refl, refl), refl),
    (
      lit< tt,
      (inr (inl (refl, refl)), refl),
      (
        lit< tt,
        ((f0, (numbered_line 1 (formula f0) assumed, refl, refl, refl), inl (said Assumption f0, refl, (refl, refl), refl)), refl),
        (
          lit< tt,
          ((f0, (numbered_line 2 (formula f0) wanted, refl, refl, refl), inr (inl (said Goal f0, refl, (refl, refl), refl))), refl),
          (lit< tt, ((yes (p a) ∷ []) ∷ (no (p a) ∷ []) ∷ [], [], (refl, (refl, tt)), refl, (λ k. var, general, refl), refl), tt),
        ),
      ),
    ),
  ),
  refl,
)

other_atom : (t u : Tree) (r s : ℕ) → atom r (more t none) ≡ atom s (more u none) → r ≡ s
other_atom t u r s h = cc

other_head : (r s f g : ℕ) → app r (more (app f none) none) ≡ app s (more (app g none) none) → f ≡ g
other_head r s f g h = cc

not_four : atom 3 (more a none) ≡ atom 4 (more a none) → ⊥
not_four h = false≢true (eq-eqb 3 4 (other_atom a a 3 4 h))

apart : p a ≡ p b → ⊥
apart h = false≢true (eq-eqb 0 1 (other_head 3 3 0 1 h))

-- a goal's line is none of an assumption
goal_line : (l : LineTree) → Some (numbered_line 2 (formula f0) wanted) ≡ Some l → l.first ≡ assumed → ⊥
goal_line l there first =
    let e : wanted ≡ assumed = ap (λ o. (unwrap_or o l).first) there ∙ first in
    cc

first_sign : ClauseTree → Bool
first_sign [] = true
first_sign (l ∷ c) = l.positive

signs : no (p a) ∷ [] ≡ yes (p a) ∷ [] → ⊥
unfolding first_sign
signs h = false≢true (ap first_sign h)

copied_clause : Concludes copy_rule ((yes (p a) ∷ []) ∷ []) (yes (p a) ∷ [])
copied_clause = (λ k. var, record { unifies = tt; general = λ other h. (var, refl) }, refl)

not_below : 4 < 4 → ⊥
not_below h = omega arith

none_before : (n : ℕ) → n < 0 → ⊥
none_before n h = omega arith

pub faults : WorkedFaults
faults = (
  (refl, refl),
  inl (refl, not_below),
  inr (lit< tt, inl (refl, refl)),
  inr (lit< tt, inl (refl, λ h. elim h [ inl i ↦ not_four i.1 | inr j ↦ elim j [ inl i ↦ true≢false i.0 | inr k ↦ k ] ])),
  inr (lit< tt, inr (inl (refl, refl, λ h. goal_line h.1.0 h.1.1 h.1.3))),
  inr (lit< tt, inr (refl, ((yes (p a) ∷ []) ∷ (yes (p a) ∷ []) ∷ [], (refl, (refl, tt)), inl (refl, refl)))),
  inr (lit< tt, inr (refl, ((yes (p a) ∷ []) ∷ (no (p b) ∷ []) ∷ [], (refl, (refl, tt)), inr (inl (refl, refl, λ own h. apart h.0))))),
  inr (lit< tt, inr (refl, ((yes (p a) ∷ []) ∷ [], (refl, tt), inr (inr (refl, (yes (p a) ∷ [], copied_clause, ([], tt, inr (inl (refl, refl, λ d h. none_before h.0.0 h.0.1))))))))),
  inr (lit< tt, inr (refl, ((yes (p a) ∷ []) ∷ [], (refl, tt), inr (inr (refl, (yes (p a) ∷ [], copied_clause, ((no (p b) ∷ []) ∷ [], (refl, tt), inr (inl (refl, refl, λ d h. apart (sym h.0.1)))))))))),
  inr (lit< tt, inr (refl, ((yes (p a) ∷ []) ∷ [], (refl, tt), inr (inr (refl, (yes (p a) ∷ [], copied_clause, (refl, signs))))))),
  (refl, inr ((tt, (inl (refl, refl), refl)), refl, refl)),
)
