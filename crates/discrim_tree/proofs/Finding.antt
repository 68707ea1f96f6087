-- One element more of a list, and one less.
use Rattle.std.proofs.Common.{◌≡◌, ℕ, zero, suc, inl, inr, arith, ◌+◌, ◌<◌, refl, List, [], ◌∷◌, ◌++◌, take, drop, length, get_or, add-one, drop-cons}
use Rattle.std.proofs.Math.Seq.{take-suc}
use Rattle.discrim_tree.specs.Nodes.{IsIn}

pub take_next : {X : Type 0} (xs : List X) (i : ℕ) (d : X) → i < length xs → take (i + 1) xs ≡ take i xs ++ get_or xs i d ∷ []
take_next xs i d h = rw (add-one, take-suc xs i d h) refl

pub drop_next : {X : Type 0} (xs : List X) (i : ℕ) (d : X) → i < length xs → drop i xs ≡ get_or xs i d ∷ drop (i + 1) xs
drop_next xs i d h = rw (add-one, drop-cons xs i d h) refl

pub item_in : (xs : List ℕ) (i n : ℕ) → i < length xs → n ≡ get_or xs i 0 → IsIn n xs
item_in [] i n h is = absurd (omega (arith, h))
item_in (x ∷ xs) zero n h is = inl is
item_in (x ∷ xs) (suc i) n h is = inr (item_in xs i n (omega (arith, h)) is)
