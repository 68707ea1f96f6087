-- Lists changed in their place, from the left.
use Rattle.std.proofs.Common.{◌≡◌, ◌<◌, ◌≤◌, ◌+◌, ◌∙◌, ℕ, zero, suc, List, [], ◌∷◌, ◌++◌, length, map, take, drop, set, get_or, refl, sym, ap, ap₂, arith, add-one}
use Rattle.std.proofs.lemmas.List.{append-nil, drop_all, take_all}

next : {X Y : Type 0} (f g : X → Y) (ys : List X) (i : ℕ) (u : Y) (d : X) → i < length ys → u ≡ f (get_or ys i d)
    → set (map f (take i ys) ++ map g (drop i ys)) i u ≡ map f (take (suc i) ys) ++ map g (drop (suc i) ys)
next f g [] i u d h is = absurd (omega (arith, h))
next f g (y ∷ ys) zero u d h is = ap (λ v. v ∷ map g ys) is
next f g (y ∷ ys) (suc i) u d h is = ap (λ vs. f y ∷ vs) (next f g ys i u d (omega (arith, h)) is)

mapped_set : {X Y : Type 0} (g : X → Y) (xs : List X) (i : ℕ) (x : X) → map g (set xs i x) ≡ set (map g xs) i (g x)
mapped_set g [] i x = refl
mapped_set g (y ∷ ys) zero x = refl
mapped_set g (y ∷ ys) (suc i) x = ap (λ vs. g y ∷ vs) (mapped_set g ys i x)

set_long : {X : Type 0} (xs : List X) (i : ℕ) (x : X) → length (set xs i x) ≡ length xs
set_long [] i x = refl
set_long (y ∷ ys) zero x = refl
set_long (y ∷ ys) (suc i) x = ap suc (set_long ys i x)

set_other : {X : Type 0} (xs : List X) (i k : ℕ) (x d : X) → i < k → get_or (set xs i x) k d ≡ get_or xs k d
set_other [] i k x d h = refl
set_other (y ∷ ys) zero zero x d h = absurd (omega (arith, h))
set_other (y ∷ ys) zero (suc k) x d h = refl
set_other (y ∷ ys) (suc i) zero x d h = absurd (omega (arith, h))
set_other (y ∷ ys) (suc i) (suc k) x d h = set_other ys i k x d (omega (arith, h))

-- one more of a list is changed
pub changed_next : {X Y : Type 0} (f g : X → Y) (xs ys : List X) (i : ℕ) (x d : X) → i < length ys → map g xs ≡ map f (take i ys) ++ map g (drop i ys) → g x ≡ f (get_or ys i d)
    → map g (set xs i x) ≡ map f (take (i + 1) ys) ++ map g (drop (i + 1) ys)
changed_next f g xs ys i x d h before is =
    mapped_set g xs i x ∙ ap (λ vs. set vs i (g x)) before ∙ next f g ys i (g x) d h is
    ∙ ap (λ n. map f (take n ys) ++ map g (drop n ys)) (sym (add-one i))

pub still_long : {X : Type 0} (xs ys : List X) (i : ℕ) (x : X) → length xs ≡ length ys → length (set xs i x) ≡ length ys
still_long xs ys i x h = set_long xs i x ∙ h

pub still_unvisited : {X : Type 0} (xs ys : List X) (i : ℕ) (x : X) → ((k : ℕ) (d : X) → i ≤ k → get_or xs k d ≡ get_or ys k d)
    → (k : ℕ) (d : X) → i + 1 ≤ k → get_or (set xs i x) k d ≡ get_or ys k d
still_unvisited xs ys i x h k d le =
    let lower : i < k = omega (arith, le) in
    let within : i ≤ k = omega (arith, le) in
    set_other xs i k x d lower ∙ h k d within

-- all of it
pub all_changed : {X Y : Type 0} (f g : X → Y) (ys : List X) (i : ℕ) → length ys ≤ i → map f (take i ys) ++ map g (drop i ys) ≡ map f ys
all_changed f g ys i h = ap₂ (λ us vs. map f us ++ map g vs) (take_all i ys h) (drop_all i ys h) ∙ append-nil (map f ys)

-- one change behind another
pub map_twice : {X Y Z : Type 0} (f : Y → Z) (g : X → Y) (xs : List X) → map (λ x. f (g x)) xs ≡ map f (map g xs)
map_twice f g [] = refl
map_twice f g (x ∷ xs) = ap (λ vs. f (g x) ∷ vs) (map_twice f g xs)
