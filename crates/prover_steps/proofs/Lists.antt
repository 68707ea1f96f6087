-- What holds of each element of lists that are put together.
use Rattle.std.proofs.Common.{◌≡◌, Bool, true, false, List, [], ◌∷◌, ◌++◌, map, filter, flat_map, if◌then◌else◌, refl}
use Rattle.std.specs.List.{AllByRecursion}

module _ {X : Type 0} (P : X → Type 0) where
  pub all_append : (xs ys : List X) → AllByRecursion P xs → AllByRecursion P ys → AllByRecursion P (xs ++ ys)
  all_append [] ys all more = more
  all_append (x ∷ xs) ys all more = (all.0, all_append xs ys all.1 more)

  pub all_kept : (test : X → Bool) (xs : List X) → AllByRecursion P xs → AllByRecursion P (filter test xs)
  all_kept test [] all = all
  all_kept test (x ∷ xs) all = by (test x) (all_kept test xs all.1)
    where
      by : (b : Bool) → AllByRecursion P (filter test xs) → AllByRecursion P (if b then x ∷ filter test xs else filter test xs)
      by true rest = (all.0, rest)
      by false rest = rest

  -- what is kept passes the test
  pub all_pass : (test : X → Bool) (xs : List X) → AllByRecursion P xs → AllByRecursion (λ x. P x × (test x ≡ true)) (filter test xs)
  all_pass test [] all = all
  all_pass test (x ∷ xs) all = by (test x) refl (all_pass test xs all.1)
    where
      by : (b : Bool) → test x ≡ b → AllByRecursion (λ x. P x × (test x ≡ true)) (filter test xs) → AllByRecursion (λ x. P x × (test x ≡ true)) (if b then x ∷ filter test xs else filter test xs)
      by true e rest = ((all.0, e), rest)
      by false e rest = rest

module _ {X : Type 0} (P Q : X → Type 0) where
  pub all_both : (xs : List X) → AllByRecursion P xs → AllByRecursion Q xs → AllByRecursion (λ x. P x × Q x) xs
  all_both [] all more = tt
  all_both (x ∷ xs) all more = ((all.0, more.0), all_both xs all.1 more.1)

module _ {X A : Type 0} (Q : X → Type 0) (P : A → Type 0) where
  pub all_flat : (f : X → List A) → ((x : X) → Q x → AllByRecursion P (f x)) → (xs : List X) → AllByRecursion Q xs → AllByRecursion P (flat_map f xs)
  all_flat f each [] all = tt
  all_flat f each (x ∷ xs) all = all_append P (f x) (flat_map f xs) (each x all.0) (all_flat f each xs all.1)

  pub all_mapped : (f : X → A) → ((x : X) → Q x → P (f x)) → (xs : List X) → AllByRecursion Q xs → AllByRecursion P (map f xs)
  all_mapped f each [] all = tt
  all_mapped f each (x ∷ xs) all = (each x all.0, all_mapped f each xs all.1)

module _ {X A : Type 0} (P : A → Type 0) where
  pub all_flat_each : (f : X → List A) → ((x : X) → AllByRecursion P (f x)) → (xs : List X) → AllByRecursion P (flat_map f xs)
  all_flat_each f each [] = tt
  all_flat_each f each (x ∷ xs) = all_append P (f x) (flat_map f xs) (each x) (all_flat_each f each xs)

module _ {X : Type 0} (P Q : X → Type 0) (each : (x : X) → P x → Q x) where
  pub all_so : (xs : List X) → AllByRecursion P xs → AllByRecursion Q xs
  all_so [] all = tt
  all_so (x ∷ xs) all = (each x all.0, all_so xs all.1)
