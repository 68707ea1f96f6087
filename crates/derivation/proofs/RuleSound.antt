-- Each rule makes what is true of what is true.
use Rattle.std.proofs.Common.{◌≡◌, inl, inr, ℕ, ◌-◌, Bool, true, false, not, ◌==◌, ◌&&◌, ◌||◌, if◌then◌else◌, IsTrue, List, [], ◌∷◌, ◌++◌, map, Option, Some, None, unwrap_or, refl, sym, ap, ◌∙◌, subst}
use Rattle.std.proofs.lemmas.Bool.{or_cases, and_parts, eq-eqb, eqb-true, false≢true, not-true}
use Rattle.std.specs.Option.{option_and_then}
use Rattle.fol_core.specs.Free.{is_in}
use Rattle.fol_core.specs.Literals.{ClauseTree, equality, are_equal}
use Rattle.fol_core.specs.Meaning.{Meaning}
use Rattle.fol_core.specs.Truth.{Assignment}
use Rattle.fol_core.specs.Tree.{Tree, var, elem, app, Trees, none, more}
use Rattle.substitutions.specs.Atoms.{AreAtoms}
use Rattle.substitutions.specs.Paths.{argument, subterm_at, with_argument, replaced}
use Rattle.derivation.specs.Equations.{is_equation, left_of, right_of, below, is_no_variable, term_below}
use Rattle.derivation.specs.Places.{has_literal, has_place, atom_at, others, with_atom, are_alike, are_opposite}
use Rattle.derivation.specs.Rule.{InferenceRule, AreSame}
use Rattle.derivation.specs.Words.{only_of, is_one_clause, first_of_two, second_of_two, are_two, copy_rule, Clash, clashes_fit, clash_pairs, satellite_rests, clash_rule, factor_rule, xx_rule, side_of, other_side_of, para_fits, para_rest, para_rule}
use Rattle.derivation.proofs.PlaceLemmas.{true_at, among_others, stays, at_sign, with_atom_true, append_left, append_right, alike_true, opposite_false}
use Rattle.derivation.proofs.Values.{true_in, val, vals, atom_true}

-- each of the clauses is true
abbrev pub AllTrue : (Tree → Bool) → List ClauseTree → Type 0
AllTrue A [] = Unit {0}
AllTrue A (c ∷ cs) = IsTrue (true_in A c) × AllTrue A cs

abbrev pub AllAtoms : List ClauseTree → Type 0
AllAtoms [] = Unit {0}
AllAtoms (c ∷ cs) = AreAtoms c × AllAtoms cs

module _ (m : Meaning) (g : ℕ → ℕ) (e : Assignment) where
  -- an equation is true exactly where its sides have one value
  pub equation_true : (t : Tree) → IsTrue (is_equation t) → atom_true m g e t ≡ (val m g e (left_of t) == val m g e (right_of t))
  equation_true (app r none) h = absurd (false≢true h)
  equation_true (app r (more s none)) h = absurd (false≢true h)
  equation_true (app r (more s (more t none))) h = ap (λ b. if b then val m g e s == val m g e t else m.relation r (val m g e s ∷ val m g e t ∷ [])) h
  equation_true (app r (more s (more t (more u ts)))) h = absurd (false≢true h)
  equation_true (var x) h = absurd (false≢true h)
  equation_true (elem k) h = absurd (false≢true h)

  argument_same : (change : Tree → Tree) (ts : Trees) (k : ℕ) → ((v : Tree) → argument ts k ≡ Some v → val m g e (change v) ≡ val m g e v)
      → vals m g e (with_argument change ts k) ≡ vals m g e ts
  argument_same change none k h = refl
  argument_same change (more t ts) k h = by (k == 1) h (argument_same change ts (k - 1))
    where
      by : (b : Bool) → ((v : Tree) → (if b then Some t else argument ts (k - 1)) ≡ Some v → val m g e (change v) ≡ val m g e v)
          → (((v : Tree) → argument ts (k - 1) ≡ Some v → val m g e (change v) ≡ val m g e v) → vals m g e (with_argument change ts (k - 1)) ≡ vals m g e ts)
          → vals m g e (if b then more (change t) ts else more t (with_argument change ts (k - 1))) ≡ val m g e t ∷ vals m g e ts
      by true h rest = ap (λ v. v ∷ vals m g e ts) (h t refl)
      by false h rest = ap (λ vs. val m g e t ∷ vs) (rest h)

  -- a term keeps its value where a subterm gets another of its value
  replaced_same : (t : Tree) (path : List ℕ) (old new : Tree) → subterm_at t path ≡ Some old → val m g e new ≡ val m g e old
      → val m g e (replaced t path new) ≡ val m g e t
  replaced_same t [] old new h same = same ∙ ap (λ o. val m g e (unwrap_or o t)) (sym h)
  replaced_same (var x) (k ∷ path) old new h same = cc
  replaced_same (elem x) (k ∷ path) old new h same = cc
  replaced_same (app f ts) (k ∷ path) old new h same =
      ap (m.function f) (argument_same (λ v. replaced v path new) ts k
      (λ v is. replaced_same v path old new (sym (ap (option_and_then (λ w. subterm_at w path)) is) ∙ h) same))

  -- and an atom its truth
  pub replaced_atom : (t : Tree) (path : List ℕ) (old new : Tree) → below t path ≡ Some old → val m g e new ≡ val m g e old
      → atom_true m g e (replaced t path new) ≡ atom_true m g e t
  replaced_atom t [] old new h same = cc
  replaced_atom (var x) (k ∷ path) old new h same = cc
  replaced_atom (elem x) (k ∷ path) old new h same = cc
  replaced_atom (app r ts) (k ∷ path) old new h same =
      ap (λ xs. if r == equality then are_equal xs else m.relation r xs) (argument_same (λ v. replaced v path new) ts k
      (λ v is. replaced_same v path old new (sym (ap (option_and_then (λ w. subterm_at w path)) is) ∙ h) same))

-- what a rule makes of true clauses is true
abbrev pub IsSound : Meaning → (ℕ → ℕ) → Assignment → InferenceRule → Type 0
IsSound m g e r = (cs : List ClauseTree) → IsTrue (r.fits cs) → AreSame (r.pairs cs) → AllTrue (atom_true m g e) cs → IsTrue (true_in (atom_true m g e) (r.rest cs))

-- two parents, or one
pub one_parent : (P : List ClauseTree → Type 0) → ((c : ClauseTree) → P (c ∷ [])) → (cs : List ClauseTree) → IsTrue (is_one_clause cs) → P cs
one_parent P h [] i = absurd (false≢true i)
one_parent P h (c ∷ []) i = h c
one_parent P h (c ∷ d ∷ cs) i = absurd (false≢true i)

pub two_parents : (P : List ClauseTree → Type 0) → ((c d : ClauseTree) → P (c ∷ d ∷ [])) → (cs : List ClauseTree) → IsTrue (are_two cs) → P cs
two_parents P h [] i = absurd (false≢true i)
two_parents P h (c ∷ []) i = absurd (false≢true i)
two_parents P h (c ∷ d ∷ []) i = h c d
two_parents P h (c ∷ d ∷ e ∷ cs) i = absurd (false≢true i)

module _ (m : Meaning) (g : ℕ → ℕ) (e : Assignment) where
  pub copy_sound : IsSound m g e copy_rule
  copy_sound cs fits pairs all = one_parent (λ cs. AllTrue (atom_true m g e) cs → IsTrue (true_in (atom_true m g e) (only_of cs))) (λ c h. h.0) cs fits all

  factor_one : (a b : ℕ) (c : ClauseTree) → IsTrue (not (a == b) && are_alike c a c b) → atom_at c a ≡ atom_at c b → IsTrue (true_in (atom_true m g e) c)
      → IsTrue (true_in (atom_true m g e) (others (λ k. k == b) c))
  factor_one a b c fits same h =
      let parts = and_parts (not (a == b)) (are_alike c a c b) fits in
      elim (among_others (atom_true m g e) (λ k. k == b) c h) [
        | inl j ↦ j
        | inr p ↦ stays (atom_true m g e) (λ k. k == b) c a (not-true (a == b) parts.0)
            (alike_true (atom_true m g e) c a c b parts.1 same (subst (λ k. IsTrue (true_at (atom_true m g e) c k)) (eqb-true p.0 b p.1) p.2))
      ]

  pub factor_sound : (a b : ℕ) → IsSound m g e (factor_rule a b)
  factor_sound a b cs fits pairs all =
      let parts = and_parts (is_one_clause cs) (not (a == b) && are_alike (only_of cs) a (only_of cs) b) fits in
      factor_one a b (only_of cs) parts.1 pairs.0 (copy_sound cs parts.0 tt all)

  xx_one : (a : ℕ) (c : ClauseTree) → IsTrue (has_literal false c a) → IsTrue (is_equation (atom_at c a)) → val m g e (left_of (atom_at c a)) ≡ val m g e (right_of (atom_at c a))
      → IsTrue (true_in (atom_true m g e) c) → IsTrue (true_in (atom_true m g e) (others (λ k. k == a) c))
  xx_one a c there equal same h = elim (among_others (atom_true m g e) (λ k. k == a) c h) [
    | inl j ↦ j
    | inr p ↦ absurd (false≢true (
        sym (ap not (equation_true m g e (atom_at c a) equal ∙ eq-eqb (val m g e (left_of (atom_at c a))) (val m g e (right_of (atom_at c a))) same))
        ∙ sym (at_sign (atom_true m g e) false c a there) ∙ subst (λ k. IsTrue (true_at (atom_true m g e) c k)) (eqb-true p.0 a p.1) p.2))
  ]

  pub xx_sound : (a : ℕ) → IsSound m g e (xx_rule a)
  xx_sound a cs fits pairs all =
      let parts = and_parts (is_one_clause cs) (has_literal false (only_of cs) a && is_equation (atom_at (only_of cs) a)) fits in
      let more = and_parts (has_literal false (only_of cs) a) (is_equation (atom_at (only_of cs) a)) parts.1 in
      xx_one a (only_of cs) more.0 more.1 (ap (val m g e) pairs.0) (copy_sound cs parts.0 tt all)

  -- where the nucleus is true at a clash's place, what is left of some satellite is
  clash_true : (c : ClauseTree) (ks : List Clash) (ds : List ClauseTree) (a : ℕ) → IsTrue (clashes_fit c ks ds) → AreSame (clash_pairs c ks ds) → AllTrue (atom_true m g e) ds
      → IsTrue (is_in a (map (λ k. k.0) ks)) → IsTrue (true_at (atom_true m g e) c a) → IsTrue (true_in (atom_true m g e) (satellite_rests ks ds))
  clash_true c [] ds a fits same all i here = absurd (false≢true i)
  clash_true c (k ∷ ks) [] a fits same all i here = absurd (false≢true fits)
  clash_true c (k ∷ ks) (d ∷ ds) a fits same all i here =
      let parts = and_parts (are_opposite c k.0 d k.1) (not (is_in k.0 (map (λ n. n.0) ks)) && clashes_fit c ks ds) fits in
      let more = and_parts (not (is_in k.0 (map (λ n. n.0) ks))) (clashes_fit c ks ds) parts.1 in
      elim (or_cases (a == k.0) (is_in a (map (λ k. k.0) ks)) i) [
        | inl at ↦ elim (among_others (atom_true m g e) (λ n. n == k.1) d all.0) [
          | inl j ↦ append_left (atom_true m g e) (others (λ n. n == k.1) d) (satellite_rests ks ds) j
          | inr p ↦ absurd (opposite_false (atom_true m g e) c k.0 d k.1 parts.0 same.0
              (subst (λ n. IsTrue (true_at (atom_true m g e) c n)) (eqb-true a k.0 at) here)
              (subst (λ n. IsTrue (true_at (atom_true m g e) d n)) (eqb-true p.0 k.1 p.1) p.2))
        ]
        | inr later ↦ append_right (atom_true m g e) (others (λ n. n == k.1) d) (satellite_rests ks ds) (clash_true c ks ds a more.1 same.1 all.1 later here)
      ]

  clash_whole : (ks : List Clash) (c : ClauseTree) (ds : List ClauseTree) → IsTrue (clashes_fit c ks ds) → AreSame (clash_pairs c ks ds) → AllTrue (atom_true m g e) (c ∷ ds)
      → IsTrue (true_in (atom_true m g e) (others (λ n. is_in n (map (λ k. k.0) ks)) c ++ satellite_rests ks ds))
  clash_whole ks c ds fits same all = elim (among_others (atom_true m g e) (λ n. is_in n (map (λ k. k.0) ks)) c all.0) [
    | inl j ↦ append_left (atom_true m g e) (others (λ n. is_in n (map (λ k. k.0) ks)) c) (satellite_rests ks ds) j
    | inr p ↦ append_right (atom_true m g e) (others (λ n. is_in n (map (λ k. k.0) ks)) c) (satellite_rests ks ds) (clash_true c ks ds p.0 fits same all.1 p.1 p.2)
  ]

  pub clash_sound : (ks : List Clash) → IsSound m g e (clash_rule ks)
  clash_sound ks [] fits same all = absurd (false≢true fits)
  clash_sound ks (c ∷ []) fits same all = absurd (false≢true fits)
  clash_sound ks (c ∷ d ∷ ds) fits same all = clash_whole ks c (d ∷ ds) fits same all

  -- a side has the other's value
  sides_same : (side : ℕ) (t : Tree) → val m g e (left_of t) ≡ val m g e (right_of t) → val m g e (other_side_of side t) ≡ val m g e (side_of side t)
  sides_same side t same = by (side == 1)
    where
      by : (b : Bool) → val m g e (if b then right_of t else left_of t) ≡ val m g e (if b then left_of t else right_of t)
      by true = sym same
      by false = same

  term_there : (t : Tree) (path : List ℕ) → IsTrue (is_no_variable (below t path)) → below t path ≡ Some (term_below t path)
  term_there t path h = by (below t path) h
    where
      by : (o : Option Tree) → IsTrue (is_no_variable o) → o ≡ Some (unwrap_or o (var 0))
      by None h = absurd (false≢true h)
      by (Some t) h = refl

  para_one : (a side b : ℕ) (path : List ℕ) (c d : ClauseTree) → IsTrue (para_fits a side b path c d) → side_of side (atom_at c a) ≡ term_below (atom_at d b) path
      → IsTrue (true_in (atom_true m g e) c) → IsTrue (true_in (atom_true m g e) d) → IsTrue (true_in (atom_true m g e) (para_rest a side b path c d))
  para_one a side b path c d fits same hc hd =
      let p0 = and_parts (has_literal true c a) (is_equation (atom_at c a) && ((side == 1 || side == 2) && (has_place d b && is_no_variable (below (atom_at d b) path)))) fits in
      let p1 = and_parts (is_equation (atom_at c a)) ((side == 1 || side == 2) && (has_place d b && is_no_variable (below (atom_at d b) path))) p0.1 in
      let p2 = and_parts (side == 1 || side == 2) (has_place d b && is_no_variable (below (atom_at d b) path)) p1.1 in
      let p3 = and_parts (has_place d b) (is_no_variable (below (atom_at d b) path)) p2.1 in
      elim (among_others (atom_true m g e) (λ k. k == a) c hc) [
        | inl j ↦ append_right (atom_true m g e) (with_atom d b (replaced (atom_at d b) path (other_side_of side (atom_at c a)))) (others (λ k. k == a) c) j
        | inr p ↦
            let here : IsTrue (true_at (atom_true m g e) c a) = subst (λ k. IsTrue (true_at (atom_true m g e) c k)) (eqb-true p.0 a p.1) p.2 in
            let equal : val m g e (left_of (atom_at c a)) ≡ val m g e (right_of (atom_at c a)) =
            eqb-true (val m g e (left_of (atom_at c a))) (val m g e (right_of (atom_at c a))) (sym (equation_true m g e (atom_at c a) p1.0) ∙ sym (at_sign (atom_true m g e) true c a p0.0) ∙ here) in
            append_left (atom_true m g e) (with_atom d b (replaced (atom_at d b) path (other_side_of side (atom_at c a)))) (others (λ k. k == a) c)
            (with_atom_true (atom_true m g e) d b (replaced (atom_at d b) path (other_side_of side (atom_at c a)))
            (replaced_atom m g e (atom_at d b) path (term_below (atom_at d b) path) (other_side_of side (atom_at c a)) (term_there (atom_at d b) path p3.1)
            (sides_same side (atom_at c a) equal ∙ ap (val m g e) same))
            ∙ hd)
      ]

  pub para_sound : (a side b : ℕ) (path : List ℕ) → IsSound m g e (para_rule a side b path)
  para_sound a side b path cs fits pairs all =
      let parts = and_parts (are_two cs) (para_fits a side b path (first_of_two cs) (second_of_two cs)) fits in
      para_one a side b path (first_of_two cs) (second_of_two cs) parts.1 pairs.0
      (two_parents (λ cs. AllTrue (atom_true m g e) cs → IsTrue (true_in (atom_true m g e) (first_of_two cs))) (λ c d h. h.0) cs parts.0 all)
      (two_parents (λ cs. AllTrue (atom_true m g e) cs → IsTrue (true_in (atom_true m g e) (second_of_two cs))) (λ c d h. h.1.0) cs parts.0 all)
