-- Items of a stack.
use Rattle.std.proofs.Common.{◌≡◌, ℕ, suc, ◌-◌, ◌<◌, Some, slice_get, List, [], ◌∷◌, ◌++◌, length, reverse, take, drop, get_or, sym, ap, ◌∙◌, append_assoc, arith}
use Rattle.std.proofs.Math.Seq.{take-suc, drop-cons}
use Rattle.std.proofs.lemmas.List.{reverse-append, take-append-drop, take_all}
use Rattle.std.proofs.lemmas.Option.{get_or_from_slice_get, slice_get_within}

pub latest : {X : Type 0} → (xs : List X) (k : ℕ) (d : X) → length xs ≡ suc k → reverse xs ≡ get_or xs k d ∷ reverse (take k xs)
latest {X = X} xs k d e =
    let fits : k < length xs = omega (arith, e) in
    let whole : take (suc k) xs ≡ xs = take_all (suc k) xs (omega (arith, e)) in
    ap (λ (ys : List X). reverse ys) (sym whole ∙ take-suc xs k d fits) ∙ reverse-append (take k xs) (get_or xs k d ∷ [])

-- the latest item, where one was found there
pub got : {X : Type 0} → (xs : List X) (x : X) → slice_get xs (length xs - 1) ≡ Some x → reverse xs ≡ x ∷ reverse (take (length xs - 1) xs)
got {X = X} xs x e =
    let k = length xs - 1 in
    let within : k < length xs = slice_get_within xs k x e in
    latest xs k x (omega (arith, within)) ∙ ap (λ (y : X). y ∷ reverse (take k xs)) (get_or_from_slice_get xs k x x e)

-- an item with those after it and those before it
pub one_of : {X : Type 0} → (xs : List X) (i : ℕ) (d : X) → i < length xs → reverse xs ≡ reverse (drop (suc i) xs) ++ get_or xs i d ∷ reverse (take i xs)
one_of {X = X} xs i d h =
    let x = get_or xs i d in
    let split : take i xs ++ x ∷ drop (suc i) xs ≡ xs = ap (λ (ys : List X). take i xs ++ ys) (sym (drop-cons xs i d h)) ∙ take-append-drop i xs in
    ap (λ (ys : List X). reverse ys) (sym split) ∙ reverse-append (take i xs) (x ∷ drop (suc i) xs)
    ∙ ap (λ (ys : List X). ys ++ reverse (take i xs)) (reverse-append (x ∷ []) (drop (suc i) xs)) ∙ append_assoc (reverse (drop (suc i) xs)) (x ∷ []) (reverse (take i xs))
