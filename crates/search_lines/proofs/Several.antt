-- What holds of each element of a list.
use Rattle.std.proofs.Common.{◌≡◌, Bool, true, false, List, [], ◌∷◌, map, filter, if◌then◌else◌, refl}
use Rattle.std.specs.List.{AllByRecursion}

-- what is kept passes the test
pub kept_pass : {X : Type 0} (test : X → Bool) (xs : List X) → AllByRecursion (λ x. test x ≡ true) (filter test xs)
kept_pass test [] = tt
kept_pass test (x ∷ xs) = by (test x) refl (kept_pass test xs)
  where
    by : (b : Bool) → test x ≡ b → AllByRecursion (λ x. test x ≡ true) (filter test xs) → AllByRecursion (λ x. test x ≡ true) (if b then x ∷ filter test xs else filter test xs)
    by true e rest = (e, rest)
    by false e rest = rest

pub all_mapped_each : {X A : Type 0} (P : A → Type 0) (f : X → A) → ((x : X) → P (f x)) → (xs : List X) → AllByRecursion P (map f xs)
all_mapped_each P f each [] = tt
all_mapped_each P f each (x ∷ xs) = (each x, all_mapped_each P f each xs)
