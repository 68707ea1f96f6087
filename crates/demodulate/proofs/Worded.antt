-- The passes by the kernel's words: what each word comes to at a place is what the pass does there.
use Rattle.std.proofs.Common.{◌≡◌, ℕ, zero, suc, ◌+◌, ◌<◌, Bool, true, false, not, ◌&&◌, ◌||◌, ◌==◌, if◌then◌else◌, length, List, [], ◌∷◌, ◌++◌, Option, Some, None, get_or, slice_get, take, drop, refl, sym, ap, ap₂, subst, ◌∙◌, arith}
use Rattle.std.proofs.lemmas.Bool.{and_parts, and_from, false≢true}
use Rattle.std.proofs.lemmas.List.{length-take-le}
use Rattle.std.specs.List.{list_any}
use Rattle.fol_core.specs.Literals.{Lit, literal, ClauseTree}
use Rattle.demodulate.proofs.Passing.{goes_out, goes_past}
use Rattle.demodulate.specs.Passes.{PassGoesOn}
use Rattle.derivation.specs.Equations.{is_equation, left_of, right_of}
use Rattle.derivation.specs.Later.{IsRepeated, LaterWord, merged, reflexive}
use Rattle.derivation.specs.Places.{atom_at, has_literal, has_place, others, same_sign}
use Rattle.inference.proofs.PlainSteps.{taken_others}
use Rattle.clause_limits.specs.Sizes.{is_too_large}
use Rattle.inference.specs.Followed.{FollowsAs}
use Rattle.inference.specs.declared.followed.Followed.TheVariants.{Misplaced, Differs, Done}
use Rattle.prover_steps.specs.Shortening.{is_false_equation, is_left_out, is_merged, same_literal}
use Rattle.unifiers.proofs.MatchesFound.{same_itself, tree_same}
use Rattle.unifiers.specs.Matching.{same_tree}

-- a literal that is there
record IsThere (c : ClauseTree) (i : ℕ) : Type 0 where
  lit : Lit
  got : slice_get c i ≡ Some lit
  is : get_or c i lit ≡ lit
  atom : atom_at c i ≡ lit.atom
  denied : has_literal false c i ≡ not lit.positive
  placed : has_place c i ≡ true

sign_denied : (p : Bool) → same_sign false p ≡ not p
sign_denied true = refl
sign_denied false = refl

either_sign : (p : Bool) → (same_sign true p || same_sign false p) ≡ true
either_sign true = refl
either_sign false = refl

there : (c : ClauseTree) (i : ℕ) → i < length c → IsThere c i
there [] i h = absurd (omega (arith, h))
there (l ∷ c) zero h = record { lit = l; got = refl; is = refl; atom = refl; denied = sign_denied l.positive; placed = either_sign l.positive }
there (l ∷ c) (suc i) h =
    let rest = there c i (omega (arith, h)) in
    record { lit = rest.lit; got = rest.got; is = rest.is; atom = rest.atom; denied = rest.denied; placed = rest.placed }

-- literals that are one
sign_same : (p q : Bool) → same_sign p q ≡ true → p ≡ q
sign_same true q h = sym h
sign_same false true h = absurd (false≢true h)
sign_same false false h = refl

sign_itself : (p : Bool) → same_sign p p ≡ true
sign_itself true = refl
sign_itself false = refl

same_one : (k l : Lit) → same_literal k l ≡ true → l ≡ k
same_one k l h =
    let parts = and_parts (same_sign k.positive l.positive) (same_tree k.atom l.atom) h in
    sym (ap₂ literal (sign_same k.positive l.positive parts.0) (tree_same k.atom l.atom parts.1))

same_own : (k : Lit) → same_literal k k ≡ true
same_own k = and_from (same_sign k.positive k.positive) (same_tree k.atom k.atom) (sign_itself k.positive) (same_itself k.atom)

-- a literal stands among the first ones exactly where it is repeated
is_among : (c : ClauseTree) (a b : ℕ) (k : Lit) → b < a → slice_get c b ≡ Some k → list_any (same_literal k) (take a c) ≡ true
is_among [] a b k h e = absurd (cc)
is_among (l ∷ c) zero b k h e = absurd (omega (arith, h))
is_among (l ∷ c) (suc a) zero k h e =
    let one : l ≡ k = cc in
    ap (λ x. x || list_any (same_literal k) (take a c)) (ap (same_literal k) one ∙ same_own k)
is_among (l ∷ c) (suc a) (suc b) k h e = or_second (same_literal k l) (list_any (same_literal k) (take a c)) (is_among c a b k (omega (arith, h)) e)
  where
    or_second : (x y : Bool) → y ≡ true → (x || y) ≡ true
    or_second true y e = refl
    or_second false y e = e

stands_before : (c : ClauseTree) (a : ℕ) (k : Lit) → list_any (same_literal k) (take a c) ≡ true → (b : ℕ) × (b < a) × (slice_get c b ≡ Some k)
stands_before [] zero k h = absurd (false≢true h)
stands_before [] (suc a) k h = absurd (false≢true h)
stands_before (l ∷ c) zero k h = absurd (false≢true h)
stands_before (l ∷ c) (suc a) k h = by (stands_before c a k) (same_literal k l) refl h
  where
    by : (list_any (same_literal k) (take a c) ≡ true → (b : ℕ) × (b < a) × (slice_get c b ≡ Some k)) → (x : Bool) → same_literal k l ≡ x → (x || list_any (same_literal k) (take a c)) ≡ true → (b : ℕ) × (b < suc a) × (slice_get (l ∷ c) b ≡ Some k)
    by rest true e h = (0, omega arith, ap (λ m. Some m) (same_one k l e))
    by rest false e h = let found = rest h in (suc found.0, (let less = found.1 in omega (arith, less)), found.2)

-- a pass at a place
module _ (c : ClauseTree) (ws : List LaterWord) (i : ℕ) (h : i < length c) where
  at : IsThere c i
  at = there c i h

  front : length (take i c) ≡ i
  front = length-take-le i c (omega (arith, h))

  past : (out : ClauseTree → Lit → Option LaterWord) (d : ClauseTree) → d ≡ c → out (take i c) at.lit ≡ None → PassGoesOn out c ws i d ws (i + 1)
  past out d same stays = subst (λ e. PassGoesOn out c ws i e ws (i + 1)) (sym same) (goes_past out c ws i at.lit h at.is stays)

  gone : (out : ClauseTree → Lit → Option LaterWord) (w : LaterWord) (d : ClauseTree) (vs : List LaterWord) → out (take i c) at.lit ≡ Some w → d ≡ others (λ k. k == i) c → vs ≡ ws ++ w ∷ [] → PassGoesOn out c ws i d vs i
  gone out w d vs goes is words =
      let next : i + 1 ≡ suc i = omega arith in
      goes_out out c ws i at.lit w d vs h at.is goes (is ∙ sym (taken_others c i h) ∙ ap (λ n. take i c ++ drop n c) next) words

  merged_if : (b : Bool) → list_any (same_literal at.lit) (take i c) ≡ b → is_merged (take i c) at.lit ≡ (if b then Some (merged i) else None)
  merged_if b e = ap (λ x. if x then Some (merged (length (take i c))) else None) e ∙ ap (λ n. if b then Some (merged n) else None) front

  merges : IsRepeated c i → is_merged (take i c) at.lit ≡ Some (merged i)
  merges repeated = merged_if true (is_among c i repeated.0 at.lit repeated.1 (repeated.2 ∙ at.got))

  merges_not : (IsRepeated c i → ⊥) → is_merged (take i c) at.lit ≡ None
  merges_not never = by (list_any (same_literal at.lit) (take i c)) refl
    where
      by : (b : Bool) → list_any (same_literal at.lit) (take i c) ≡ b → is_merged (take i c) at.lit ≡ None
      by true e = let found = stands_before c i at.lit e in absurd (never (found.0, found.1, found.2 ∙ sym at.got))
      by false e = merged_if false e

  pub merge_done : (d : ClauseTree) (vs : List LaterWord) → FollowsAs is_too_large (merged i) c [] d Done → vs ≡ ws ++ merged i ∷ [] → PassGoesOn is_merged c ws i d vs i
  merge_done d vs f words = gone is_merged (merged i) d vs (merges f.1.0) f.1.1 words

  pub merge_misplaced : (d : ClauseTree) → FollowsAs is_too_large (merged i) c [] d Misplaced → PassGoesOn is_merged c ws i d ws (i + 1)
  merge_misplaced d f = absurd (false≢true (sym f.0 ∙ at.placed))

  pub merge_differs : (d : ClauseTree) → FollowsAs is_too_large (merged i) c [] d Differs → PassGoesOn is_merged c ws i d ws (i + 1)
  merge_differs d f = past is_merged d f.2 (merges_not (λ repeated. f.1 (others (λ k. k == i) c) (repeated, refl)))

  -- inequations of one term with itself
  left_if : (b : Bool) → is_false_equation at.lit ≡ b → is_left_out (take i c) at.lit ≡ (if b then Some (reflexive i) else None)
  left_if b e = ap (λ x. if x then Some (reflexive (length (take i c))) else None) e ∙ ap (λ n. if b then Some (reflexive n) else None) front

  same_there : same_tree (left_of (atom_at c i)) (right_of (atom_at c i)) ≡ same_tree (left_of at.lit.atom) (right_of at.lit.atom)
  same_there = ap (λ t. same_tree (left_of t) (right_of t)) at.atom

  fits_there : (has_literal false c i && is_equation (atom_at c i)) ≡ (not at.lit.positive && is_equation at.lit.atom)
  fits_there = ap₂ (λ a t. a && is_equation t) at.denied at.atom

  all_three : (x y z : Bool) → (x && y) ≡ true → z ≡ true → (x && (y && z)) ≡ true
  all_three true true z p q = q
  all_three true false z p q = absurd (false≢true p)
  all_three false y z p q = absurd (false≢true p)

  not_two : (x y z : Bool) → (x && y) ≡ false → (x && (y && z)) ≡ false
  not_two true true z p = absurd (false≢true (sym p))
  not_two true false z p = refl
  not_two false y z p = refl

  not_third : (x y z : Bool) → z ≡ false → (x && (y && z)) ≡ false
  not_third true true z q = q
  not_third true false z q = refl
  not_third false y z q = refl

  pub drop_done : (d : ClauseTree) (vs : List LaterWord) → FollowsAs is_too_large (reflexive i) c [] d Done → vs ≡ ws ++ reflexive i ∷ [] → PassGoesOn is_left_out c ws i d vs i
  drop_done d vs f words =
      let same : same_tree (left_of (atom_at c i)) (right_of (atom_at c i)) ≡ true = subst (λ t. same_tree (left_of (atom_at c i)) t ≡ true) f.1.0 (same_itself (left_of (atom_at c i))) in
      gone is_left_out (reflexive i) d vs
      (left_if true (all_three (not at.lit.positive) (is_equation at.lit.atom) (same_tree (left_of at.lit.atom) (right_of at.lit.atom)) (sym fits_there ∙ f.0) (sym same_there ∙ same)))
      f.1.1 words

  pub drop_misplaced : (d : ClauseTree) → FollowsAs is_too_large (reflexive i) c [] d Misplaced → PassGoesOn is_left_out c ws i d ws (i + 1)
  drop_misplaced d f =
      past is_left_out d f.1 (left_if false (not_two (not at.lit.positive) (is_equation at.lit.atom) (same_tree (left_of at.lit.atom) (right_of at.lit.atom)) (sym fits_there ∙ f.0)))

  differ : ((left_of (atom_at c i) ≡ right_of (atom_at c i)) → ⊥) → same_tree (left_of (atom_at c i)) (right_of (atom_at c i)) ≡ false
  differ apart = by (same_tree (left_of (atom_at c i)) (right_of (atom_at c i))) refl
    where
      by : (b : Bool) → same_tree (left_of (atom_at c i)) (right_of (atom_at c i)) ≡ b → same_tree (left_of (atom_at c i)) (right_of (atom_at c i)) ≡ false
      by true e = absurd (apart (tree_same (left_of (atom_at c i)) (right_of (atom_at c i)) e))
      by false e = e

  pub drop_differs : (d : ClauseTree) → FollowsAs is_too_large (reflexive i) c [] d Differs → PassGoesOn is_left_out c ws i d ws (i + 1)
  drop_differs d f =
      past is_left_out d f.2
      (left_if false (not_third (not at.lit.positive) (is_equation at.lit.atom) (same_tree (left_of at.lit.atom) (right_of at.lit.atom)) (sym same_there ∙ differ (λ same. f.1 (others (λ k. k == i) c) (same, refl)))))
