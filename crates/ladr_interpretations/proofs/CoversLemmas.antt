-- The test tells what covering says.
use Rattle.std.proofs.Common.{◌≡◌, ℕ, ◌+◌, ◌<◌, ◌==◌, nat_lt, Bool, true, false, ◌||◌, ◌&&◌, IsTrue, MatchBool, refl, arith}
use Rattle.std.proofs.lemmas.Bool.{and_parts, or_left, or_right}
use Rattle.std.proofs.lemmas.Bool.Decides.{nat_tests}
use Rattle.fol_core.specs.Bound.{has_symbol, have_symbol, uses_symbol}
use Rattle.fol_core.specs.Fol.{Fol, verum, falsum, equal, atom, negation, conjunction, disjunction, implication, equivalence, forall, exists}
use Rattle.fol_core.specs.Occurs.{names_in, names_in_any, names}
use Rattle.fol_core.specs.Tree.{Tree, var, elem, app, Trees, none, more}
use Rattle.model_tables.specs.Tables.{Finite, has}
use Rattle.ladr_interpretations.specs.Covers.{Covers, covers_term, covers_terms, covers}

module _ (t : Finite) where
  -- the symbols that pass a test have entries, and the numbers that pass another name elements
  abbrev AreThere : (ℕ → Bool) → (ℕ → Bool) → Type 0
  AreThere p q = ((s : ℕ) → IsTrue (p s) → IsTrue (has t s)) × ((k : ℕ) → IsTrue (q k) → k < t.top + 1)

  -- and an answer tells whether it is so
  record Tells (b : Bool) (p q : ℕ → Bool) : Type 0 where
    pub there : b ≡ true → AreThere p q
    pub told : AreThere p q → b ≡ true

  tells_nothing : Tells true (λ s. false) (λ k. false)
  tells_nothing = record { there = λ e. (λ s i. absurd cc, λ k i. absurd cc); told = λ h. refl }

  same_entry : (f s : ℕ) → has t f ≡ true → (s == f) ≡ true → has t s ≡ true
  same_entry f s e i = let same : s ≡ f = grind (arith, nat_tests) in rw same e

  tells_symbol : (f : ℕ) → Tells (has t f) (λ s. s == f) (λ k. false)
  tells_symbol f = record {
    there = λ e. (λ s i. same_entry f s e i, λ k i. absurd cc);
    told = λ h. h.0 f (grind (arith, nat_tests));
  }

  tells_number : (k : ℕ) → Tells (nat_lt k (t.top + 1)) (λ s. false) (λ n. n == k)
  tells_number k = record {
    there = λ e. (λ s i. absurd cc, λ n i. grind (arith, nat_tests));
    told = λ h. let l : k < t.top + 1 = h.1 k (grind (arith, nat_tests)) in grind (arith, nat_tests);
  }

  and_is : (a b : Bool) → a ≡ true → b ≡ true → (a && b) ≡ true
  and_is true true e h = refl
  and_is true false e h = h
  and_is false b e h = e

  of_either : (a b : Bool) {C : Type 0} → (a ≡ true → C) → (b ≡ true → C) → (a || b) ≡ true → C
  of_either true b f g i = f refl
  of_either false b f g i = g i

  tells_both : (a b : Bool) (p q r s : ℕ → Bool) → Tells a p q → Tells b r s → Tells (a && b) (λ n. p n || r n) (λ n. q n || s n)
  tells_both a b p q r s h k = record {
    there = λ e.
        let parts = and_parts a b e in
        let left = h.there parts.0 in
        let right = k.there parts.1 in
        (λ n i. of_either (p n) (r n) (left.0 n) (right.0 n) i, λ n i. of_either (q n) (s n) (left.1 n) (right.1 n) i);
    told = λ all.
        and_is a b
        (h.told (λ n i. all.0 n (or_left (p n) (r n) i), λ n i. all.1 n (or_left (q n) (s n) i)))
        (k.told (λ n i. all.0 n (or_right (p n) (r n) i), λ n i. all.1 n (or_right (q n) (s n) i)));
  }

  mutual
    tells_term : (u : Tree) → Tells (covers_term t u) (λ s. has_symbol s u) (λ k. names_in k u)
    tells_term (var x) = tells_nothing
    tells_term (elem k) = tells_number k
    tells_term (app f us) = tells_both (has t f) (covers_terms t us) (λ s. s == f) (λ k. false) (λ s. have_symbol s us) (λ k. names_in_any k us) (tells_symbol f) (tells_terms us)

    tells_terms : (us : Trees) → Tells (covers_terms t us) (λ s. have_symbol s us) (λ k. names_in_any k us)
    tells_terms none = tells_nothing
    tells_terms (more u us) = tells_both (covers_term t u) (covers_terms t us) (λ s. has_symbol s u) (λ k. names_in k u) (λ s. have_symbol s us) (λ k. names_in_any k us) (tells_term u) (tells_terms us)

  tells_two : (f g : Fol) → Tells (covers t f) (λ s. uses_symbol s f) (λ k. names k f) → Tells (covers t g) (λ s. uses_symbol s g) (λ k. names k g)
      → Tells (covers t f && covers t g) (λ s. uses_symbol s f || uses_symbol s g) (λ k. names k f || names k g)
  tells_two f g h k = tells_both (covers t f) (covers t g) (λ s. uses_symbol s f) (λ k. names k f) (λ s. uses_symbol s g) (λ k. names k g) h k

  tells : (f : Fol) → Tells (covers t f) (λ s. uses_symbol s f) (λ k. names k f)
  tells verum = tells_nothing
  tells falsum = tells_nothing
  tells (equal u v) = tells_both (covers_term t u) (covers_term t v) (λ s. has_symbol s u) (λ k. names_in k u) (λ s. has_symbol s v) (λ k. names_in k v) (tells_term u) (tells_term v)
  tells (atom r us) = tells_both (has t r) (covers_terms t us) (λ s. s == r) (λ k. false) (λ s. have_symbol s us) (λ k. names_in_any k us) (tells_symbol r) (tells_terms us)
  tells (negation f) = tells f
  tells (conjunction f g) = tells_two f g (tells f) (tells g)
  tells (disjunction f g) = tells_two f g (tells f) (tells g)
  tells (implication f g) = tells_two f g (tells f) (tells g)
  tells (equivalence f g) = tells_two f g (tells f) (tells g)
  tells (forall x f) = tells f
  tells (exists x f) = tells f

  decided : (b : Bool) (p q : ℕ → Bool) → Tells b p q → MatchBool b (AreThere p q) (¬ AreThere p q)
  decided true p q h = h.there refl
  decided false p q h = λ all. let e = h.told all in cc

  pub test_tells : (f : Fol) → MatchBool (covers t f) (Covers t f) (¬ Covers t f)
  test_tells f = decided (covers t f) (λ s. uses_symbol s f) (λ k. names k f) (tells f)
