-- Arguments by their numbers, as places of a list.
use Rattle.std.proofs.Common.{◌≡◌, ℕ, zero, suc, ◌+◌, ◌-◌, ◌<◌, ◌≤◌, ◌==◌, Bool, true, false, if◌then◌else◌, List, [], ◌∷◌, ◌++◌, length, slice_get, get_or, take, drop, Option, Some, None, option_map, unwrap_or, refl, sym, ap, ap₂, ◌∙◌, arith}
use Rattle.std.proofs.lemmas.Bool.{ne_eqb}
use Rattle.std.proofs.lemmas.Option.{slice_get-map}
use Rattle.std.proofs.lemmas.List.{take-map, drop-map, length-map, length-drop, take_all}
use Rattle.fol_core.specs.TermView.{tree_of, tree_list}
use Rattle.fol_core.specs.declared.term.Term.{Term}
use Rattle.std.specs.Option.{option_and_then}
use Rattle.fol_core.specs.Tree.{Tree, var, elem, app, Trees, none, more, trees_of}
use Rattle.substitutions.specs.Paths.{argument, part_at, subterm_at, with_argument, with_part, replaced}

pub argument_zero : (ts : Trees) → argument ts 0 ≡ None
argument_zero none = refl
argument_zero (more t ts) = argument_zero ts

-- the argument of a number stands at the place before it
pub argument_before : (ts : List Tree) (k : ℕ) → 0 < k → argument (trees_of ts) k ≡ slice_get ts (k - 1)
argument_before [] k h = refl
argument_before (t ∷ ts) zero h = absurd (omega arith)
argument_before (t ∷ ts) (suc zero) h = refl
argument_before (t ∷ ts) (suc (suc k)) h =
    ap (λ b. if b then Some t else argument (trees_of ts) (suc (suc k) - 1)) (ne_eqb (suc (suc k)) 1 (omega arith))
    ∙ ap (argument (trees_of ts)) less ∙ argument_before ts (suc k) (omega arith) ∙ ap (slice_get ts) again ∙ ap (slice_get (t ∷ ts)) (sym less)
  where
    less : suc (suc k) - 1 ≡ suc k
    less = omega arith

    again : suc k - 1 ≡ k
    again = omega arith

-- the arguments with one of them changed to another
pub with_argument_before : (new : Tree) (ts : List Tree) (k : ℕ) → 0 < k → k ≤ length ts
    → with_argument (λ _. new) (trees_of ts) k ≡ trees_of ((take (k - 1) ts ++ new ∷ []) ++ drop k ts)
with_argument_before new [] k h le = absurd (omega arith)
with_argument_before new (t ∷ ts) zero h le = absurd (omega arith)
with_argument_before new (t ∷ ts) (suc zero) h le = refl
with_argument_before new (t ∷ ts) (suc (suc k)) h le =
    ap (λ b. if b then more new (trees_of ts) else more t (with_argument (λ _. new) (trees_of ts) (suc (suc k) - 1))) (ne_eqb (suc (suc k)) 1 (omega arith))
    ∙ ap (λ n. more t (with_argument (λ _. new) (trees_of ts) n)) less ∙ ap (more t) (with_argument_before new ts (suc k) (omega arith) (omega arith))
    ∙ ap (λ n. more t (trees_of ((take n ts ++ new ∷ []) ++ drop (suc k) ts))) again ∙ ap (λ n. trees_of ((take n (t ∷ ts) ++ new ∷ []) ++ drop (suc k) ts)) (sym less)
  where
    less : suc (suc k) - 1 ≡ suc k
    less = omega arith

    again : suc k - 1 ≡ k
    again = omega arith

-- a number without an argument changes none
pub with_argument_past : (change : Tree → Tree) (ts : List Tree) (k : ℕ) → length ts < k → with_argument change (trees_of ts) k ≡ trees_of ts
with_argument_past change [] k h = refl
with_argument_past change (t ∷ ts) k h =
    ap (λ b. if b then more (change t) (trees_of ts) else more t (with_argument change (trees_of ts) (k - 1))) (ne_eqb k 1 (omega arith))
    ∙ ap (more t) (with_argument_past change ts (k - 1) (omega arith))

pub with_argument_zero : (change : Tree → Tree) (ts : Trees) → with_argument change ts 0 ≡ ts
with_argument_zero change none = refl
with_argument_zero change (more t ts) = ap (more t) (with_argument_zero change ts)

-- how an argument is changed matters at that one alone
pub with_argument_at : (change : Tree → Tree) (ts : Trees) (k : ℕ) (u : Tree) → argument ts k ≡ Some u → with_argument (λ _. change u) ts k ≡ with_argument change ts k
with_argument_at change none k u h = refl
with_argument_at change (more t ts) k u h = by (k == 1) h (with_argument_at change ts (k - 1) u)
  where
    by : (b : Bool) → (if b then Some t else argument ts (k - 1)) ≡ Some u → (argument ts (k - 1) ≡ Some u → with_argument (λ _. change u) ts (k - 1) ≡ with_argument change ts (k - 1))
        → (if b then more (change u) ts else more t (with_argument (λ _. change u) ts (k - 1))) ≡ (if b then more (change t) ts else more t (with_argument change ts (k - 1)))
    by true h rest = ap (λ o. more (change (unwrap_or o t)) ts) (sym h)
    by false h rest = ap (more t) (rest h)

-- the same for terms of the code
pub argument_item : (ts : List Term) (k : ℕ) (d : Term) → 0 < k → k ≤ length ts → argument (trees_of (tree_list ts)) k ≡ Some (tree_of (get_or ts (k - 1) d))
argument_item ts k d h le = argument_before (tree_list ts) k h ∙ slice_get-map tree_of ts (k - 1) ∙ ap (option_map tree_of) (there ts (k - 1) (omega arith))
  where
    there : (us : List Term) (n : ℕ) → n < length us → slice_get us n ≡ Some (get_or us n d)
    there [] n lt = absurd (omega arith)
    there (u ∷ us) zero lt = refl
    there (u ∷ us) (suc n) lt = there us n (omega arith)

pub argument_past : (ts : List Tree) (k : ℕ) → length ts < k → argument (trees_of ts) k ≡ None
argument_past [] k h = refl
argument_past (t ∷ ts) k h = ap (λ b. if b then Some t else argument (trees_of ts) (k - 1)) (ne_eqb k 1 (omega arith)) ∙ argument_past ts (k - 1) (omega arith)

-- copies of the arguments before and after it, with another one between
pub with_argument_made : (new : Tree) (ts : List Term) (k : ℕ) (made : List Tree) → 0 < k → k ≤ length ts
    → made ≡ (tree_list (take (k - 1) ts) ++ new ∷ []) ++ tree_list (drop k ts) → trees_of made ≡ with_argument (λ _. new) (trees_of (tree_list ts)) k
with_argument_made new ts k made h le is = ap trees_of (is ∙ by) ∙ sym (with_argument_before new (tree_list ts) k h (omega (arith, length-map ts tree_of)))
  where
    by : (tree_list (take (k - 1) ts) ++ new ∷ []) ++ tree_list (drop k ts) ≡ (take (k - 1) (tree_list ts) ++ new ∷ []) ++ drop k (tree_list ts)
    by = ap₂ (λ a b. (a ++ new ∷ []) ++ b) (sym (take-map tree_of (k - 1) ts)) (sym (drop-map tree_of k ts))

-- to replace at a path is to replace at the rest of it in the part
pub replaced_part : (t : Tree) (k : ℕ) (path : List ℕ) (new u : Tree) → part_at t k ≡ Some u
    → with_part (λ _. replaced u path new) t k ≡ replaced t (k ∷ path) new
replaced_part (var x) k path new u h = refl
replaced_part (elem x) k path new u h = refl
replaced_part (app f ts) k path new u h = ap (app f) (with_argument_at (λ v. replaced v path new) ts k u h)

pub replaced_next : (t : Tree) (path : List ℕ) (k : ℕ) (rest : List ℕ) (new u v made : Tree) → path ≡ k ∷ rest → part_at t k ≡ Some u
    → Some v ≡ option_map (λ _. replaced u rest new) (subterm_at u rest) → made ≡ with_part (λ _. v) t k → Some made ≡ option_map (λ _. replaced t path new) (subterm_at t path)
replaced_next t path k rest new u v made is there changed put =
    by (subterm_at u rest) changed
    ∙ sym (ap (λ o. option_map (λ _. replaced t (k ∷ rest) new) (option_and_then (λ w. subterm_at w rest) o)) there)
    ∙ sym (ap (λ p. option_map (λ _. replaced t p new) (subterm_at t p)) is)
  where
    by : (o : Option Tree) → Some v ≡ option_map (λ _. replaced u rest new) o → Some made ≡ option_map (λ _. replaced t (k ∷ rest) new) o
    by None e = cc
    by (Some w) e =
        let same : v ≡ replaced u rest new = cc in
        ap (λ x. Some x) (put ∙ ap (λ y. with_part (λ _. y) t k) same ∙ replaced_part t k rest new u there)

-- the terms behind a place, as a range of a slice
pub behind : (ts : List Term) (k : ℕ) → 0 < k → take (length ts - (k - 1 + 1)) (drop (k - 1 + 1) ts) ≡ drop k ts
behind ts k h =
    let e : k - 1 + 1 ≡ k = omega arith in
    ap (λ n. take (length ts - n) (drop n ts)) e ∙ take_all (length ts - k) (drop k ts) (omega (arith, length-drop k ts))
