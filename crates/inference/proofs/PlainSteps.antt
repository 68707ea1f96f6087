-- Words on a plain clause.
use Rattle.std.proofs.Common.{◌≡◌, ◌↔◌, ℕ, zero, suc, ◌+◌, ◌-◌, ◌<◌, ◌≤◌, Bool, true, false, ◌==◌, ◌||◌, nat_lt, if◌then◌else◌, IsTrue, List, [], ◌∷◌, ◌++◌, map, length, get_or, take, drop, slice_get, Option, Some, None, refl, sym, ap, ap₂, ◌∙◌, subst, arith, add-one}
use Rattle.std.specs.Option.{option_and_then}
use Rattle.std.proofs.lemmas.Bool.{eq-eqb, ne_eqb, lt-ltb, false≢true}
use Rattle.clause_limits.specs.Sizes.{clause_size, clause_depth, is_too_large}
use Rattle.derivation.specs.Equations.{below, left_of, right_of}
use Rattle.derivation.specs.Sides.{AreSides}
use Rattle.derivation.specs.Later.{IsRepeated}
use Rattle.derivation.specs.Places.{atom_at, has_place, others, with_atom}
use Rattle.fol_core.specs.ClauseView.{literal_of}
use Rattle.fol_core.specs.Literals.{ClauseTree}
use Rattle.fol_core.specs.Sizes.{size_of, sizes_of}
use Rattle.fol_core.specs.Tree.{Tree, var, elem, app, Trees, none, more}
use Rattle.fol_core.specs.declared.clause.Literal.{Literal}
use Rattle.inference.proofs.ClashSteps.{place_within}
use Rattle.inference.proofs.LeaveSteps.{none_out, others_same, suc_test, zero_test}
use Rattle.inference.specs.Followed.{PutAs, IsExchanged, with_part}
use Rattle.inference.specs.declared.putting.Exchanged.TheVariants as made
use Rattle.inference.specs.declared.underway.Put.TheVariants as put
use Rattle.unifiers.proofs.MatchesFound.{same_itself, tree_same}
use Rattle.unifiers.specs.Matching.{same_tree}
use Rattle.substitutions.specs.Paths.{argument, subterm_at, with_argument, replaced}

got : (ls : List Literal) (i : ℕ) (d : Literal) → i < length ls → slice_get (map literal_of ls) i ≡ Some (literal_of (get_or ls i d))
got [] i d h = absurd (omega arith)
got (l ∷ ls) zero d h = refl
got (l ∷ ls) (suc i) d h = got ls i d (omega arith)

-- none of the first is the same
abbrev pub NoneBefore : ClauseTree → ℕ → ℕ → Type 0
NoneBefore c a i = (k : ℕ) → k < i → slice_get c k ≡ slice_get c a → ⊥

pub repeated_here : (ls : List Literal) (a b : ℕ) (d e : Literal) → a < length ls → b < a → literal_of (get_or ls b d) ≡ literal_of (get_or ls a e) → IsRepeated (map literal_of ls) a
repeated_here ls a b d e h lt same = (b, lt, got ls b d (omega arith) ∙ ap (λ l. Some l) same ∙ sym (got ls a e h))

pub repeated_not : (ls : List Literal) (a b : ℕ) (d e : Literal) → a < length ls → b < a → (literal_of (get_or ls b d) ≡ literal_of (get_or ls a e) → ⊥) → slice_get (map literal_of ls) b ≡ slice_get (map literal_of ls) a → ⊥
repeated_not ls a b d e h lt apart same =
    let some : Some (literal_of (get_or ls b d)) ≡ Some (literal_of (get_or ls a e)) = sym (got ls b d (omega arith)) ∙ same ∙ got ls a e h in
    let equal : literal_of (get_or ls b d) ≡ literal_of (get_or ls a e) = cc in
    apart equal

pub repeated_end : (c : ClauseTree) (a i : ℕ) → a ≤ i → NoneBefore c a i → IsRepeated c a → ⊥
repeated_end c a i le before (b, lt, same) = before b (omega arith) same

-- a literal left out
pub taken_others : (c : ClauseTree) (a : ℕ) → a < length c → take a c ++ drop (a + 1) c ≡ others (λ k. k == a) c
taken_others c a h = ap (λ n. take a c ++ drop n c) (add-one a) ∙ out c a h
  where
    out : (c : ClauseTree) (a : ℕ) → a < length c → take a c ++ drop (suc a) c ≡ others (λ k. k == a) c
    out [] a h = absurd (omega (arith, h))
    out (l ∷ c) zero h =
        sym (ap (λ b. if b then others (λ k. suc k == 0) c else l ∷ others (λ k. suc k == 0) c) (eq-eqb 0 0 refl)
        ∙ others_same (λ k. suc k == 0) (λ _. false) c zero_test ∙ none_out c)
    out (l ∷ c) (suc a) h =
        let same : others (λ k. k == a) c ≡ others (λ k. suc k == suc a) c = others_same (λ k. k == a) (λ k. suc k == suc a) c (λ k. sym (suc_test k a)) in
        ap₂ (λ b d. if b then d else l ∷ d) (sym (ne_eqb 0 (suc a) (λ e. absurd (omega (arith, e))))) (out c a (omega (arith, h)) ∙ same)

-- what is put in is no larger than the clause
put_argument : (new : ℕ) (change : Tree → Tree) (ts : Trees) (k : ℕ) (v : Tree) → argument ts k ≡ Some v → ((u : Tree) → argument ts k ≡ Some u → new ≤ size_of (change u)) → new ≤ sizes_of (with_argument change ts k)
put_argument new change none k v e h = absurd (cc)
put_argument new change (more t ts) k v e h = by (k == 1) (put_argument new change ts (k - 1) v) e h
  where
    by : (b : Bool) → (argument ts (k - 1) ≡ Some v → ((u : Tree) → argument ts (k - 1) ≡ Some u → new ≤ size_of (change u)) → new ≤ sizes_of (with_argument change ts (k - 1)))
        → (if b then Some t else argument ts (k - 1)) ≡ Some v → ((u : Tree) → (if b then Some t else argument ts (k - 1)) ≡ Some u → new ≤ size_of (change u))
        → new ≤ sizes_of (if b then more (change t) ts else more t (with_argument change ts (k - 1)))
    by true rest e h = let le = h t refl in omega (arith, le)
    by false rest e h = let le = rest e h in omega (arith, le)

some_part : (o : Option Tree) (f : Tree → Option Tree) (t : Tree) → option_and_then f o ≡ Some t → (v : Tree) × (o ≡ Some v)
some_part None f t e = absurd (cc)
some_part (Some v) f t e = (v, refl)

pub put_size : (t : Tree) (path : List ℕ) (old new : Tree) → subterm_at t path ≡ Some old → size_of new ≤ size_of (replaced t path new)
put_size t [] old new e = omega arith
put_size (var x) (k ∷ path) old new e = absurd (cc)
put_size (elem n) (k ∷ path) old new e = absurd (cc)
put_size (app f ts) (k ∷ path) old new e =
    let found = some_part (argument ts k) (λ u. subterm_at u path) old e in
    let le : size_of new ≤ sizes_of (with_argument (λ u. replaced u path new) ts k) =
    put_argument (size_of new) (λ u. replaced u path new) ts k found.0 found.1 (λ u at. put_size u path old new (sym (ap (option_and_then (λ w. subterm_at w path)) at) ∙ e)) in
    omega (arith, le)

atom_size : (c : ClauseTree) (a : ℕ) (t : Tree) → a < length c → size_of t ≤ clause_size (with_atom c a t)
atom_size [] a t h = absurd (omega (arith, h))
atom_size (l ∷ c) zero t h = omega arith
atom_size (l ∷ c) (suc a) t h = let le = atom_size c a t (omega (arith, h)) in omega (arith, le)

below_at : (t : Tree) (path : List ℕ) (old : Tree) → below t path ≡ Some old → subterm_at t path ≡ Some old
below_at t [] old e = absurd (cc)
below_at t (k ∷ path) old e = e

large_or : (a b : Bool) → b ≡ true → (a || b) ≡ true
large_or true b e = refl
large_or false b e = e

pub put_too_large : (c : ClauseTree) (a : ℕ) (path : List ℕ) (t u : Tree) → IsTrue (has_place c a) → below (atom_at c a) path ≡ Some t → 16777216 < size_of u → is_too_large (with_part c a path u) ≡ true
put_too_large c a path t u place at lt =
    let made = with_part c a path u in
    let part : size_of u ≤ size_of (replaced (atom_at c a) path u) = put_size (atom_at c a) path t u (below_at (atom_at c a) path t at) in
    let whole : size_of (replaced (atom_at c a) path u) ≤ clause_size made = atom_size c a (replaced (atom_at c a) path u) (place_within c a place) in
    large_or (nat_lt 1000 (clause_depth made)) (nat_lt 1000000 (clause_size made)) (lt-ltb 1000000 (clause_size made) (omega (arith, part, whole, lt)))

-- a rule put in
module _ (c : ClauseTree) (a : ℕ) (path : List ℕ) (left right t : Tree) (at : below (atom_at c a) path ≡ Some t) where
  pub put_differs : IsExchanged left right t made.Differs → PutAs is_too_large c a path left right c put.Differs
  put_differs is = (t, at, is, refl)

  pub put_large : IsTrue (has_place c a) → IsExchanged left right t made.TooLarge → PutAs is_too_large c a path left right c put.TooLarge
  put_large place is = (t, is.0, at, is.1, put_too_large c a path t is.0 place at is.2, refl)

-- sides that are the same, or not
pub same_sides : (b : Bool) (atom s t : Tree) → AreSides atom s t → IsTrue b ↔ (s ≡ t) → b ≡ same_tree (left_of atom) (right_of atom)
same_sides b atom s t sides same = by b same ∙ ap₂ same_tree sides.left_is sides.right_is
  where
    by : (b : Bool) → IsTrue b ↔ (s ≡ t) → b ≡ same_tree s t
    by true same = sym (subst (λ u. IsTrue (same_tree s u)) (same.0 refl) (same_itself s))
    by false same = sym (not_same (same_tree s t) refl)
      where
        not_same : (a : Bool) → same_tree s t ≡ a → a ≡ false
        not_same true e = absurd (false≢true (same.1 (tree_same s t e)))
        not_same false e = refl
