-- Variables looked up with their nodes.
use Rattle.std.specs.BTreeMap.{is_at}
use Rattle.std.specs.Map.{lookup}
use Rattle.std.specs.Ordering.{nat_cmp}
use Rattle.std.proofs.Common.{◌≡◌, ℕ, ◌+◌, ◌<◌, ◌≤◌, Bool, true, false, cond, refl, sym, ap, ◌∙◌, List, [], ◌∷◌, ◌++◌, length, get_or, drop, suc, arith, add-one, Some, None, drop-cons}
use Rattle.std.proofs.lemmas.Bool.Decides.{nat_tests}
use Rattle.std.proofs.lemmas.List.{drop_all}

at_same : (x k : ℕ) → x ≡ k → is_at (nat_cmp x) k ≡ true
at_same x k h = grind (arith, nat_tests)

at_apart : (x k : ℕ) → (x ≡ k → ⊥) → is_at (nat_cmp x) k ≡ false
at_apart x k h = grind (arith, nat_tests)

at_back : (x q : ℕ) → is_at (nat_cmp x) q ≡ false → is_at (nat_cmp q) x ≡ false
at_back x q h = grind (arith, nat_tests)

next : (es : List (ℕ × ℕ)) (i : ℕ) (e : ℕ × ℕ) → i < length es → e ≡ get_or es i e → drop i es ≡ e ∷ drop (i + 1) es
next es i e h is = rw (add-one, drop-cons es i e) (ap (λ t. t ∷ drop (suc i) es) (sym is))

-- a variable at a place of a list, behind it, and in none
pub look_here : (x : ℕ) (es : List (ℕ × ℕ)) (i : ℕ) (e : ℕ × ℕ) → i < length es → e ≡ get_or es i e → x ≡ e.0 → Some e.1 ≡ lookup (is_at (nat_cmp x)) (drop i es)
look_here x es i e h is same = sym (ap (lookup (is_at (nat_cmp x))) (next es i e h is) ∙ ap (λ b. cond b (Some e.1) (lookup (is_at (nat_cmp x)) (drop (i + 1) es))) (at_same x e.0 same))

pub look_behind : (x : ℕ) (es : List (ℕ × ℕ)) (i : ℕ) (e : ℕ × ℕ) → i < length es → e ≡ get_or es i e → (x ≡ e.0 → ⊥)
    → lookup (is_at (nat_cmp x)) (drop i es) ≡ lookup (is_at (nat_cmp x)) (drop (i + 1) es)
look_behind x es i e h is apart = ap (lookup (is_at (nat_cmp x))) (next es i e h is) ∙ ap (λ b. cond b (Some e.1) (lookup (is_at (nat_cmp x)) (drop (i + 1) es))) (at_apart x e.0 apart)

pub look_end : (x : ℕ) (es : List (ℕ × ℕ)) (i : ℕ) → length es ≤ i → None ≡ lookup (is_at (nat_cmp x)) (drop i es)
look_end x es i h = sym (ap (lookup (is_at (nat_cmp x))) (drop_all i es h))

-- in the first of two lists, and behind it
pub found_first : (x n : ℕ) (es fs : List (ℕ × ℕ)) → Some n ≡ lookup (is_at (nat_cmp x)) es → Some n ≡ lookup (is_at (nat_cmp x)) (es ++ fs)
found_first x n [] fs h = cc
found_first x n (e ∷ es) fs h = by (λ g. found_first x n es fs g) (is_at (nat_cmp x) e.0) h
  where
    by : (Some n ≡ lookup (is_at (nat_cmp x)) es → Some n ≡ lookup (is_at (nat_cmp x)) (es ++ fs)) → (b : Bool) → Some n ≡ cond b (Some e.1) (lookup (is_at (nat_cmp x)) es) → Some n ≡ cond b (Some e.1) (lookup (is_at (nat_cmp x)) (es ++ fs))
    by rest true g = g
    by rest false g = rest g

pub found_behind : (x : ℕ) (es fs : List (ℕ × ℕ)) → None ≡ lookup (is_at (nat_cmp x)) es → lookup (is_at (nat_cmp x)) fs ≡ lookup (is_at (nat_cmp x)) (es ++ fs)
found_behind x [] fs h = refl
found_behind x (e ∷ es) fs h = by (λ g. found_behind x es fs g) (is_at (nat_cmp x) e.0) h
  where
    by : (None ≡ lookup (is_at (nat_cmp x)) es → lookup (is_at (nat_cmp x)) fs ≡ lookup (is_at (nat_cmp x)) (es ++ fs)) → (b : Bool)
        → None ≡ cond b (Some e.1) (lookup (is_at (nat_cmp x)) es) → lookup (is_at (nat_cmp x)) fs ≡ cond b (Some e.1) (lookup (is_at (nat_cmp x)) (es ++ fs))
    by rest true g = cc
    by rest false g = rest g

-- a variable more at the end of the first list
last_here : (x n : ℕ) (es fs : List (ℕ × ℕ)) → lookup (is_at (nat_cmp x)) (es ++ fs) ≡ None → lookup (is_at (nat_cmp x)) ((es ++ (x, n) ∷ []) ++ fs) ≡ Some n
last_here x n [] fs h = ap (λ b. cond b (Some n) (lookup (is_at (nat_cmp x)) fs)) (at_same x x refl)
last_here x n (e ∷ es) fs h = by (λ g. last_here x n es fs g) (is_at (nat_cmp x) e.0) h
  where
    by : (lookup (is_at (nat_cmp x)) (es ++ fs) ≡ None → lookup (is_at (nat_cmp x)) ((es ++ (x, n) ∷ []) ++ fs) ≡ Some n) → (b : Bool)
        → cond b (Some e.1) (lookup (is_at (nat_cmp x)) (es ++ fs)) ≡ None → cond b (Some e.1) (lookup (is_at (nat_cmp x)) ((es ++ (x, n) ∷ []) ++ fs)) ≡ Some n
    by rest true g = cc
    by rest false g = rest g

pub pushed_here : (x n : ℕ) (es new fs : List (ℕ × ℕ)) → lookup (is_at (nat_cmp x)) (es ++ fs) ≡ None → new ≡ es ++ (x, n) ∷ [] → lookup (is_at (nat_cmp x)) (new ++ fs) ≡ Some n
pushed_here x n es new fs h is = ap (λ l. lookup (is_at (nat_cmp x)) (l ++ fs)) is ∙ last_here x n es fs h

last_others : (x n q : ℕ) (es fs : List (ℕ × ℕ)) → is_at (nat_cmp x) q ≡ false → lookup (is_at (nat_cmp q)) ((es ++ (x, n) ∷ []) ++ fs) ≡ lookup (is_at (nat_cmp q)) (es ++ fs)
last_others x n q [] fs apart = ap (λ b. cond b (Some n) (lookup (is_at (nat_cmp q)) fs)) (at_back x q apart)
last_others x n q (e ∷ es) fs apart = ap (cond (is_at (nat_cmp q) e.0) (Some e.1)) (last_others x n q es fs apart)

pub pushed_others : (x n q : ℕ) (es new fs : List (ℕ × ℕ)) → is_at (nat_cmp x) q ≡ false → new ≡ es ++ (x, n) ∷ [] → lookup (is_at (nat_cmp q)) (new ++ fs) ≡ lookup (is_at (nat_cmp q)) (es ++ fs)
pushed_others x n q es new fs apart is = ap (λ l. lookup (is_at (nat_cmp q)) (l ++ fs)) is ∙ last_others x n q es fs apart

-- or in the second one
pub inserted_here : (x n : ℕ) (es fs gs : List (ℕ × ℕ)) → lookup (is_at (nat_cmp x)) (es ++ fs) ≡ None → lookup (is_at (nat_cmp x)) gs ≡ Some n → lookup (is_at (nat_cmp x)) (es ++ gs) ≡ Some n
inserted_here x n [] fs gs h is = is
inserted_here x n (e ∷ es) fs gs h is = by (λ g. inserted_here x n es fs gs g is) (is_at (nat_cmp x) e.0) h
  where
    by : (lookup (is_at (nat_cmp x)) (es ++ fs) ≡ None → lookup (is_at (nat_cmp x)) (es ++ gs) ≡ Some n) → (b : Bool)
        → cond b (Some e.1) (lookup (is_at (nat_cmp x)) (es ++ fs)) ≡ None → cond b (Some e.1) (lookup (is_at (nat_cmp x)) (es ++ gs)) ≡ Some n
    by rest true g = cc
    by rest false g = rest g

pub inserted_others : (q : ℕ) (es fs gs : List (ℕ × ℕ)) → lookup (is_at (nat_cmp q)) gs ≡ lookup (is_at (nat_cmp q)) fs → lookup (is_at (nat_cmp q)) (es ++ gs) ≡ lookup (is_at (nat_cmp q)) (es ++ fs)
inserted_others q [] fs gs h = h
inserted_others q (e ∷ es) fs gs h = ap (cond (is_at (nat_cmp q) e.0) (Some e.1)) (inserted_others q es fs gs h)
