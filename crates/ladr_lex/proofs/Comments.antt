-- Words in bytes.
use Rattle.std.proofs.Common.{◌≡◌, ℕ, suc, ◌+◌, ◌-◌, ◌≤◌, ◌<◌, true, false, List, [], ◌∷◌, ◌++◌, length, take, drop, Option, Some, None, refl, sym, ap, ◌∙◌, arith, inl, inr, eqb}
use Rattle.std.specs.Option.{option_map}
use Rattle.std.specs.List.{starts_with}
use Rattle.std.proofs.lemmas.Bool.{cases_Bool, cases_lt}
use Rattle.std.proofs.lemmas.Bool.Decides.{nat_tests}
use Rattle.std.proofs.lemmas.List.{drop_more, take-append-drop, length-take-le}
use Rattle.ladr_lex.specs.Comments.{begins_with, up_to}

-- what `starts_with` tells
pub begins_is : (word bytes : List ℕ) → starts_with eqb bytes word ≡ begins_with word bytes
begins_is [] bytes = refl
begins_is (c ∷ cs) [] = refl
begins_is (c ∷ cs) (b ∷ bs) = let e = begins_is cs bs in grind (arith, nat_tests)

-- from a place where the word doesn't begin it is looked for from the next
option_shift : (n m : ℕ) (o : Option ℕ) → m ≡ n + 1 → option_map (λ k. n + k) (option_map suc o) ≡ option_map (λ k. m + k) o
option_shift n m None h = refl
option_shift n m (Some k) h = ap Some (omega arith)

pub up_to_next : (word bytes : List ℕ) (from at : ℕ) → from ≤ at → at < length bytes → begins_with word (drop at bytes) ≡ false →
    option_map (λ k. at + 1 - from + k) (up_to word (drop (at + 1) bytes)) ≡ option_map (λ k. at - from + k) (up_to word (drop at bytes))
up_to_next word bytes from at f h e =
    let here = drop_more bytes at 0 h in
    sym (ap (λ (l : List ℕ). option_map (λ k. at - from + k) (up_to word l)) here ∙ rw (ap (begins_with word) (sym here) ∙ e) (option_shift (at - from) (at + 1 - from) (up_to word (drop (at + 1) bytes)) (omega arith)))

-- a word in front stays with more bytes behind
pub begins_more : (word m r : List ℕ) → begins_with word m ≡ true → begins_with word (m ++ r) ≡ true
begins_more [] m r h = refl
begins_more (c ∷ cs) [] r h = cc
begins_more (c ∷ cs) (b ∷ m) r h = let rest : begins_with cs m ≡ true = grind arith in let more = begins_more cs m r rest in grind (arith, nat_tests)

-- a word in front of more bytes than it has is in front of the first of them
pub begins_long : (word m r : List ℕ) → begins_with word (m ++ r) ≡ true → length word ≤ length m → begins_with word m ≡ true
begins_long [] m r h l = refl
begins_long (c ∷ cs) [] r h l = absurd (omega arith)
begins_long (c ∷ cs) (b ∷ m) r h l = let rest : begins_with cs (m ++ r) ≡ true = grind arith in let more = begins_long cs m r rest (omega arith) in grind (arith, nat_tests)

pub begins_split : (word m : List ℕ) → begins_with word m ≡ true → m ≡ word ++ drop (length word) m
begins_split [] m h = refl
begins_split (c ∷ cs) [] h = cc
begins_split (c ∷ cs) (b ∷ m) h =
    let same : b ≡ c = grind (arith, nat_tests) in
    let rest : begins_with cs m ≡ true = grind arith in
    λ i. same i ∷ begins_split cs m rest i

pub begins_length : (word m : List ℕ) → begins_with word m ≡ true → length word ≤ length m
begins_length [] m h = omega arith
begins_length (c ∷ cs) [] h = cc
begins_length (c ∷ cs) (b ∷ m) h = omega (arith, begins_length cs m (grind arith))

-- one byte more in front
pub data Finds (word : List ℕ) (b : ℕ) (bs : List ℕ) : Type 0 where
  here : begins_with word (b ∷ bs) ≡ true → up_to word (b ∷ bs) ≡ Some (length word) → Finds word b bs
  later : begins_with word (b ∷ bs) ≡ false → up_to word (b ∷ bs) ≡ option_map suc (up_to word bs) → Finds word b bs

pub finds : (word : List ℕ) (b : ℕ) (bs : List ℕ) → Finds word b bs
finds word b bs =
    elim (cases_Bool (begins_with word (b ∷ bs))) [
      | inl y ↦ here y (rw y refl)
      | inr y ↦ later y (rw y refl)
    ]

-- one more than what is found
pub data Found (o : Option ℕ) (n : ℕ) : Type 0 where
  found : (m : ℕ) → o ≡ Some m → suc m ≡ n → Found o n

found_of : (o : Option ℕ) (n : ℕ) → option_map suc o ≡ Some n → Found o n
found_of None n h = cc
found_of (Some m) n h = found m refl (cc)

none_of : (o : Option ℕ) → option_map suc o ≡ None → o ≡ None
none_of None h = refl
none_of (Some m) h = cc

pub up_to_length : (word bs : List ℕ) (n : ℕ) → up_to word bs ≡ Some n → (length word ≤ n) × (n ≤ length bs)
up_to_length word [] n h = cc
up_to_length word (b ∷ bs) n h =
    elim (finds word b bs) [
      | here y e ↦ (let g : length word ≡ n = cc in (omega arith, omega (arith, begins_length word (b ∷ bs) y)))
      | later y e ↦ elim (found_of (up_to word bs) n (sym e ∙ h)) [
        | found m f g ↦ (let r = up_to_length word bs m f in (omega (arith, r.0), omega (arith, r.1)))
      ]
    ]

-- more bytes behind don't change where a word ends
pub up_to_more : (word m r : List ℕ) (n : ℕ) → up_to word m ≡ Some n → up_to word (m ++ r) ≡ Some n
up_to_more word [] r n h = cc
up_to_more word (b ∷ m) r n h =
    elim (finds word b m) [
      | here y e ↦ elim (finds word b (m ++ r)) [
        | here z f ↦ f ∙ sym e ∙ h
        | later z f ↦ absurd (let k = begins_more word (b ∷ m) r y in cc)
      ]
      | later y e ↦ elim (finds word b (m ++ r)) [
        | here z f ↦ absurd (let long = up_to_length word (b ∷ m) n h in let k = begins_long word (b ∷ m) r z (omega (arith, long.0, long.1)) in cc)
        | later z f ↦ elim (found_of (up_to word m) n (sym e ∙ h)) [
          | found k g s ↦ f ∙ ap (option_map suc) (up_to_more word m r k g) ∙ ap Some s
        ]
      ]
    ]

-- a word that isn't in a front of bytes ends behind it
pub up_to_behind : (word m r : List ℕ) (n : ℕ) → 0 < length word → up_to word m ≡ None → up_to word (m ++ r) ≡ Some n → length m < n
up_to_behind word [] r n w h e = omega (arith, (up_to_length word r n e).0)
up_to_behind word (b ∷ m) r n w h e =
    elim (finds word b m) [
      | here y f ↦ cc
      | later y f ↦ elim (finds word b (m ++ r)) [
        | later z g ↦ elim (found_of (up_to word (m ++ r)) n (sym g ∙ e)) [
          | found j k s ↦ omega (arith, up_to_behind word m r j w (none_of (up_to word m) (sym f ∙ h)) k)
        ]
        | here z g ↦ elim (cases_lt (length (b ∷ m)) (length word)) [
          | inr short ↦ absurd (let k = begins_long word (b ∷ m) r z short in cc)
          | inl long ↦ (let k : length word ≡ n = cc in omega arith)
        ]
      ]
    ]

-- the bytes up to a word end with it
pub up_to_front : (word bs : List ℕ) (n : ℕ) → 0 < length word → up_to word bs ≡ Some n → up_to word (take n bs) ≡ Some n
up_to_front word bs n w h = at (up_to word (take n bs)) refl
  where
    split : up_to word (take n bs ++ drop n bs) ≡ Some n
    split = ap (up_to word) (take-append-drop n bs) ∙ h

    at : (o : Option ℕ) → up_to word (take n bs) ≡ o → up_to word (take n bs) ≡ Some n
    at (Some k) e = e ∙ sym (up_to_more word (take n bs) (drop n bs) k e) ∙ split
    at None e = absurd (omega (arith, up_to_behind word (take n bs) (drop n bs) n w e split, length-take-le n bs (up_to_length word bs n h).1))
