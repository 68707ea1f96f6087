-- Lists gone through: what is made so far, with what comes of the next element.
use Rattle.std.proofs.Common.{◌≡◌, ℕ, zero, suc, ◌+◌, ◌<◌, ◌≤◌, Bool, true, false, if◌then◌else◌, List, [], ◌∷◌, ◌++◌, length, get_or, map, filter, flat_map, take, refl, sym, ap, ap₂, ◌∙◌, arith, add-zero, append_assoc}
use Rattle.std.proofs.lemmas.List.{take_all, take_more, append-nil}
use Rattle.std.proofs.lemmas.Grind.{flat_map-append}
use Rattle.std.specs.Borrow.{Bor}
use Rattle.fol_core.specs.Literals.{ClauseTree}
use Rattle.held_clauses.specs.Holding.{lent}
use Rattle.prover_steps.specs.Clashing.{Held, places_from, places_of}

-- nothing is added
pub nothing_added : {A : Type 0} (old more : List A) → more ≡ [] → old ≡ old ++ more
nothing_added old more e = sym (append-nil old) ∙ ap (λ ys. old ++ ys) (sym e)

-- or something is, by a test
pub tried_none : {A : Type 0} (test : Bool) (old more : List A) → test ≡ false → old ≡ old ++ (if test then more else [])
tried_none test old more e = nothing_added old (if test then more else []) (ap (λ b. if b then more else []) e)

pub tried_some : {A : Type 0} (test : Bool) (old more new : List A) → test ≡ true → new ≡ old ++ more → new ≡ old ++ (if test then more else [])
tried_some test old more new e is = is ∙ ap (λ ys. old ++ ys) (sym (ap (λ b. if b then more else []) e))

-- what comes of the elements that pass a test
pub flat_kept : {X A : Type 0} (test : X → Bool) (f : X → List A) (xs : List X) → flat_map f (filter test xs) ≡ flat_map (λ x. if test x then f x else []) xs
flat_kept test f [] = refl
flat_kept test f (x ∷ xs) = by (test x) (flat_kept test f xs)
  where
    by : (b : Bool) → flat_map f (filter test xs) ≡ flat_map (λ x. if test x then f x else []) xs
        → flat_map f (if b then x ∷ filter test xs else filter test xs) ≡ (if b then f x else []) ++ flat_map (λ x. if test x then f x else []) xs
    by true rest = ap (λ ys. f x ++ ys) rest
    by false rest = rest

pub flat_same : {X A : Type 0} (f g : X → List A) (xs : List X) → ((x : X) → f x ≡ g x) → flat_map f xs ≡ flat_map g xs
flat_same f g [] h = refl
flat_same f g (x ∷ xs) h = ap₂ (λ ys zs. ys ++ zs) (h x) (flat_same f g xs h)

pub flat_none : {X A : Type 0} (f : X → List A) (xs : List X) → ((x : X) → f x ≡ []) → flat_map f xs ≡ []
flat_none f [] h = refl
flat_none f (x ∷ xs) h = ap₂ (λ ys zs. ys ++ zs) (h x) (flat_none f xs h)

pub flat_mapped : {X Y A : Type 0} (f : Y → List A) (g : X → Y) (xs : List X) → flat_map f (map g xs) ≡ flat_map (λ x. f (g x)) xs
flat_mapped f g [] = refl
flat_mapped f g (x ∷ xs) = ap (λ ys. f (g x) ++ ys) (flat_mapped f g xs)

pub flat_flat : {X Y A : Type 0} (f : Y → List A) (g : X → List Y) (xs : List X) → flat_map f (flat_map g xs) ≡ flat_map (λ x. flat_map f (g x)) xs
flat_flat f g [] = refl
flat_flat f g (x ∷ xs) = flat_map-append f (g x) (flat_map g xs) ∙ ap (λ ys. flat_map f (g x) ++ ys) (flat_flat f g xs)

-- one more element
pub flat_added : {X A : Type 0} (f : X → List A) (xs : List X) (i : ℕ) (x : X) (old made new : List A) → i < length xs → x ≡ get_or xs i x
    → made ≡ old ++ flat_map f (take i xs) → new ≡ made ++ f x → new ≡ old ++ flat_map f (take (i + 1) xs)
flat_added f xs i x old made new h is was e =
    e ∙ ap (λ ys. ys ++ f x) was ∙ append_assoc old (flat_map f (take i xs)) (f x)
    ∙ ap (λ ys. old ++ ys)
    (ap (λ ys. flat_map f (take i xs) ++ ys) (sym (append-nil (f x))) ∙ sym (flat_map-append f (take i xs) (x ∷ []))
    ∙ ap (flat_map f) (ap (λ y. take i xs ++ y ∷ []) is ∙ sym (take_more xs i x h)))

pub flat_all : {X A : Type 0} (f : X → List A) (xs : List X) (i : ℕ) (old made : List A) → length xs ≤ i → made ≡ old ++ flat_map f (take i xs) → made ≡ old ++ flat_map f xs
flat_all f xs i old made h was = was ∙ ap (λ ys. old ++ flat_map f ys) (take_all i xs h)

-- the places of a clause
pub length_places : (n : ℕ) (c : ClauseTree) → length (places_from n c) ≡ length c
length_places n [] = refl
length_places n (l ∷ c) = ap suc (length_places (suc n) c)

pub place_at : (n : ℕ) (c : ClauseTree) (i d : ℕ) → i < length c → get_or (places_from n c) i d ≡ n + i
place_at n [] i d h = absurd (omega arith)
place_at n (l ∷ c) zero d h = sym (add-zero n)
place_at n (l ∷ c) (suc i) d h = let e : suc n + i ≡ n + suc i = omega arith in place_at (suc n) c i d (omega arith) ∙ e

pub place_added : {A : Type 0} (f : ℕ → List A) (c : ClauseTree) (i : ℕ) (old made new : List A) → i < length c
    → made ≡ old ++ flat_map f (take i (places_of c)) → new ≡ made ++ f i → new ≡ old ++ flat_map f (take (i + 1) (places_of c))
place_added f c i old made new h was e =
    let at : 0 + i ≡ i = omega arith in
    flat_added f (places_of c) i i old made new (omega (arith, length_places 0 c)) (sym (place_at 0 c i i h ∙ at)) was e

pub places_added : {A : Type 0} (f : ℕ → List A) (c : ClauseTree) (i : ℕ) (old made : List A) → length c ≤ i
    → made ≡ old ++ flat_map f (take i (places_of c)) → made ≡ old ++ flat_map f (places_of c)
places_added f c i old made h was = flat_all f (places_of c) i old made (omega (arith, length_places 0 c)) was

-- places that pass a test
pub place_kept : {A : Type 0} (test : ℕ → Bool) (f : ℕ → List A) (c : ClauseTree) (i : ℕ) (old made : List A) → length c ≤ i
    → made ≡ old ++ flat_map (λ k. if test k then f k else []) (take i (places_of c)) → made ≡ old ++ flat_map f (filter test (places_of c))
place_kept test f c i old made h was = places_added (λ k. if test k then f k else []) c i old made h was ∙ ap (λ ys. old ++ ys) (sym (flat_kept test f (places_of c)))

-- clauses that are lent
pub lent_added : {A : Type 0} (f : Held → List A) (hs : List (Bor Held)) (i : ℕ) (h : Bor Held) (old made new : List A) → i < length hs → h ≡ get_or hs i h
    → made ≡ old ++ flat_map f (lent (take i hs)) → new ≡ made ++ f h.now → new ≡ old ++ flat_map f (lent (take (i + 1) hs))
lent_added f hs i h old made new lt is was e =
    flat_added (λ (k : Bor Held). f k.now) hs i h old made new lt is (was ∙ ap (λ ys. old ++ ys) (flat_mapped f (λ (k : Bor Held). k.now) (take i hs))) e
    ∙ ap (λ ys. old ++ ys) (sym (flat_mapped f (λ (k : Bor Held). k.now) (take (i + 1) hs)))

pub lent_all : {A : Type 0} (f : Held → List A) (hs : List (Bor Held)) (i : ℕ) (old made : List A) → length hs ≤ i → made ≡ old ++ flat_map f (lent (take i hs)) → made ≡ old ++ flat_map f (lent hs)
lent_all f hs i old made end was = was ∙ ap (λ ks. old ++ flat_map f (lent ks)) (take_all i hs end)
