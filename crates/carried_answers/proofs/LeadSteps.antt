-- A word on a clause with answers behind.
use Rattle.std.proofs.Common.{◌≡◌, ℕ, zero, suc, ◌+◌, ◌-◌, ◌<◌, ◌≤◌, Bool, true, false, ◌&&◌, ◌||◌, IsTrue, List, [], ◌∷◌, ◌++◌, length, take, Option, Some, None, refl, sym, ap, ap₂, ◌∙◌, subst, arith, append_assoc, length-append}
use Rattle.std.proofs.lemmas.Bool.{false≢true}
use Rattle.std.proofs.lemmas.List.{take_at}
use Rattle.answers.specs.AnswerTrees.{Answer}
use Rattle.answers.specs.Packed.{packed}
use Rattle.carried_answers.specs.Brought.{BringsBehind, settled}
use Rattle.carried_answers.specs.Carried.{LedBy, carried}
use Rattle.carried_answers.specs.Leading.{place_of}
use Rattle.carried_answers.specs.Whole.{EndsWithAnswers, IsLedTo, carried_in, is_done}
use Rattle.carried_answers.proofs.Behind.{fits_front, leads_behind, leads_front}
use Rattle.carried_answers.proofs.BringSteps.{brought}
use Rattle.carried_answers.proofs.WholeSteps.{carried_is, ends_with, many_packed, packed_both}
use Rattle.derivation.specs.Equations.{below, is_equation, is_there}
use Rattle.derivation.specs.Later.{LaterWord, flipped, merged, reflexive, unit_deleted, rewritten, later_fits, Leads, is_rule_equation, is_unit}
use Rattle.derivation.specs.Places.{atom_at, has_literal, has_place}
use Rattle.derivation.specs.Words.{is_one_clause, only_of}
use Rattle.fol_core.specs.Literals.{ClauseTree}
use Rattle.inference.specs.Followed.{FollowsAs}
use Rattle.inference.specs.declared.followed.Followed.{Followed}
use Rattle.inference.specs.declared.followed.Followed.TheVariants.{Misplaced, Differs, TooLarge, Done}

-- no place behind the clause fits
no_literal : (sign : Bool) (c : ClauseTree) (a : ℕ) → length c ≤ a → has_literal sign c a ≡ false
no_literal sign [] a h = refl
no_literal sign (l ∷ c) zero h = absurd (omega (arith, h))
no_literal sign (l ∷ c) (suc a) h = no_literal sign c a (omega (arith, h))

no_place : (c : ClauseTree) (a : ℕ) → length c ≤ a → has_place c a ≡ false
no_place c a h = ap₂ (λ p q. p || q) (no_literal true c a h) (no_literal false c a h)

and_false : (b : Bool) → (b && false) ≡ false
and_false true = refl
and_false false = refl

fits_past : (w : LaterWord) (c : ClauseTree) (ps : List ClauseTree) → length c ≤ place_of w → later_fits w c ps ≡ false
fits_past (flipped a) c ps h = ap (λ p. p && is_equation (atom_at c a)) (no_place c a h)
fits_past (merged a) c ps h = no_place c a h
fits_past (reflexive a) c ps h = ap (λ p. p && is_equation (atom_at c a)) (no_literal false c a h)
fits_past (unit_deleted a n) c ps h =
    ap₂ (λ p q. is_one_clause ps && (is_unit (only_of ps) && ((p && has_literal false (only_of ps) 0) || (q && has_literal true (only_of ps) 0)))) (no_literal true c a h) (no_literal false c a h)
    ∙ ap (λ b. is_one_clause ps && b) (and_false (is_unit (only_of ps))) ∙ and_false (is_one_clause ps)
fits_past (rewritten n a path) c ps h =
    let r = only_of ps in
    ap (λ p. is_one_clause ps && (is_unit r && (has_literal true r 0 && (is_rule_equation (atom_at r 0) && (p && is_there (below (atom_at c a) path)))))) (no_place c a h)
    ∙ ap (λ b. is_one_clause ps && (is_unit r && (has_literal true r 0 && b))) (and_false (is_rule_equation (atom_at r 0)))
    ∙ ap (λ b. is_one_clause ps && (is_unit r && b)) (and_false (has_literal true r 0))
    ∙ ap (λ b. is_one_clause ps && b) (and_false (is_unit r)) ∙ and_false (is_one_clause ps)

-- how many literals are the clause's
pub own_long : (whole : ClauseTree) (n : ℕ) → EndsWithAnswers whole n → length (carried_in whole n).clause + n ≡ length whole
own_long whole n ends =
    let e = ap length ends.parts ∙ length-append (carried_in whole n).clause (packed (carried_in whole n).answers) in
    let f = many_packed (carried_in whole n).answers in
    let g = ends.many in
    omega (arith, e, f, g)

-- what it becomes where it is done, with so many answers behind before they stand each once
pub record Led (w : LaterWord) (whole : ClauseTree) (n : ℕ) (ps : List ClauseTree) (lists : List (List Answer)) (long : ℕ) (d : ClauseTree) : Type 0 where
  pub clause : ClauseTree
  pub answers : List Answer
  pub d_is : d ≡ clause ++ packed answers
  pub many : length answers ≡ long
  pub led : LedBy w (carried_in whole n) ps lists (carried clause (settled w answers)) true

module _ (w : LaterWord) (whole : ClauseTree) (n : ℕ) (ps : List ClauseTree) (lists : List (List Answer)) (ends : EndsWithAnswers whole n) where
  -- nothing is done
  pub led_past : (own : ℕ) → own ≡ length whole - n → own ≤ place_of w → IsLedTo w whole n ps lists whole None
  led_past own is le =
      let long = own_long whole n ends in
      let misfit = fits_past w (carried_in whole n).clause ps (omega (arith, is, le, long)) in
      ((λ fits. absurd (false≢true (sym misfit ∙ fits)), refl), refl)

  module _ (own : ℕ) (is : own ≡ length whole - n) (h : place_of w < own) (pushed : ClauseTree) (brings : BringsBehind w whole ps lists pushed) where
    abbrev c : ClauseTree
    c = (carried_in whole n).clause

    abbrev us : List Answer
    us = (carried_in whole n).answers

    abbrev behind : ClauseTree
    behind = packed us ++ brings.0

    own_is : own ≡ length c
    own_is = let long = own_long whole n ends in omega (arith, is, long)

    inside : place_of w < length c
    inside = let e = own_is in omega (arith, h, e)

    pushed_is : pushed ≡ c ++ behind
    pushed_is = brings.1 ∙ ap (λ d. d ++ brings.0) ends.parts ∙ append_assoc c (packed us) brings.0

    cut : (d new : ClauseTree) → d ≡ pushed → new ≡ take (length whole) d → new ≡ whole
    cut d new same kept = kept ∙ ap (take (length whole)) (same ∙ brings.1) ∙ take_at whole brings.0 (length whole) refl

    fits_too : IsTrue (later_fits w c ps) → IsTrue (later_fits w pushed ps)
    fits_too fits = ap (λ d. later_fits w d ps) pushed_is ∙ fits_front w c behind ps inside ∙ fits

    leads_too : (e : ClauseTree) → Leads w c ps e → Leads w pushed ps (e ++ behind)
    leads_too e leads = subst (λ (d : ClauseTree). Leads w d ps (e ++ behind)) (sym pushed_is) (leads_front w c behind ps e inside leads)

    pub led_not : (d new : ClauseTree) (f : Followed) → is_done f ≡ false → FollowsAs (λ c. false) w pushed ps d f → new ≡ take (length whole) d → IsLedTo w whole n ps lists new None
    led_not d new Misplaced e (misfit, same) kept = ((λ fits. absurd (false≢true (sym misfit ∙ fits_too fits)), refl), cut d new same kept)
    led_not d new Differs e (fits, never, same) kept = ((λ _ e leads. never (e ++ behind) (leads_too e leads), refl), cut d new same kept)
    led_not d new TooLarge e (fits, (x, leads, over), same) kept = absurd (false≢true over)
    led_not d new Done e follows kept = absurd (false≢true (sym e))

    pub follows_done : (d : ClauseTree) (f : Followed) → is_done f ≡ true → FollowsAs (λ c. false) w pushed ps d f → FollowsAs (λ c. false) w pushed ps d Done
    follows_done d Misplaced e follows = absurd (false≢true e)
    follows_done d Differs e follows = absurd (false≢true e)
    follows_done d TooLarge e follows = absurd (false≢true e)
    follows_done d Done e follows = follows

    -- it is done
    pub led_done : (d : ClauseTree) → FollowsAs (λ c. false) w pushed ps d Done → Led w whole n ps lists (length pushed - own) d
    led_done d (fits, leads) =
        let fitted : IsTrue (later_fits w c ps) = sym (ap (λ d. later_fits w d ps) pushed_is ∙ fits_front w c behind ps inside) ∙ fits in
        let e = leads_behind w c behind ps d inside (subst (λ (x : ClauseTree). Leads w x ps d) pushed_is leads) in
        let there : IsTrue (later_fits w whole ps) = ap (λ d. later_fits w d ps) ends.parts ∙ fits_front w c (packed us) ps inside ∙ fitted in
        let too : Leads w whole ps (e.0 ++ packed us) = subst (λ (d : ClauseTree). Leads w d ps (e.0 ++ packed us)) (sym ends.parts) (leads_front w c (packed us) ps e.0 inside e.1) in
        let b = brought w whole c us ps lists brings.0 ends.parts inside (brings.2 there (e.0 ++ packed us) too) in
        let all : behind ≡ packed (us ++ b.answers) = ap (λ x. packed us ++ x) b.made_is ∙ sym (packed_both us b.answers) in
        record {
          clause = e.0;
          answers = us ++ b.answers;
          d_is = e.2 ∙ ap (λ x. e.0 ++ x) all;
          many =
              let f = ap length pushed_is ∙ length-append c behind in
              let k = ap length all ∙ many_packed (us ++ b.answers) in
              let o = own_is in
              omega (arith, f, k, o);
          led = (fitted, e.1, b.brings);
        }

    pub led_first : (d : ClauseTree) (l : Led w whole n ps lists (length pushed - own) d) (all first : ℕ) → all ≡ length pushed - own → first ≡ length d - all → first ≡ length l.clause
    led_first d l all first is at =
        let e = ap length l.d_is ∙ length-append l.clause (packed l.answers) in
        let f = many_packed l.answers in
        let g = l.many in
        omega (arith, e, f, g, is, at)

    pub led_settled : (d new : ClauseTree) (l : Led w whole n ps lists (length pushed - own) d) (all first m : ℕ) → all ≡ length pushed - own → first ≡ length d - all
        → ((c : ClauseTree) (us : List Answer) → d ≡ c ++ packed us → first ≡ length c → new ≡ c ++ packed (settled w us)) → m ≡ length new - first → IsLedTo w whole n ps lists new (Some m)
    led_settled d new l all first m is at settles many =
        let from = led_first d l all first is at in
        let end = settles l.clause l.answers l.d_is from in
        let counted : m ≡ length (settled w l.answers) =
        let e = ap length end ∙ length-append l.clause (packed (settled w l.answers)) in
        let f = many_packed (settled w l.answers) in
        omega (arith, e, f, from, many) in (
          ends_with new l.clause (settled w l.answers) m end counted,
          subst (λ a. LedBy w (carried_in whole n) ps lists a true) (sym (carried_is new l.clause (settled w l.answers) m end counted)) l.led,
        )

    pub pushed_long : own ≤ length pushed
    pushed_long = let e = ap length pushed_is ∙ length-append c behind in let o = own_is in omega (arith, e, o)

    pub led_long : (d : ClauseTree) → Led w whole n ps lists (length pushed - own) d → (all : ℕ) → all ≡ length pushed - own → all ≤ length d
    led_long d l all is =
        let e = ap length l.d_is ∙ length-append l.clause (packed l.answers) in
        let f = many_packed l.answers in
        let g = l.many in
        omega (arith, e, f, g, is)

    pub settled_long : (d new : ClauseTree) (l : Led w whole n ps lists (length pushed - own) d) (all first : ℕ) → all ≡ length pushed - own → first ≡ length d - all
        → ((c : ClauseTree) (us : List Answer) → d ≡ c ++ packed us → first ≡ length c → new ≡ c ++ packed (settled w us)) → first ≤ length new
    settled_long d new l all first is at settles =
        let from = led_first d l all first is at in
        let end = settles l.clause l.answers l.d_is from in
        let e = ap length end ∙ length-append l.clause (packed (settled w l.answers)) in
        omega (arith, e, from)
