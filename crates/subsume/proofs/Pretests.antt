-- What a clause has that subsumes another: at most as many literals, and for each of them one that it matches.
use Rattle.std.proofs.Common.{◌≡◌, ℕ, zero, suc, ◌<◌, ◌≤◌, Bool, true, false, ◌==◌, ◌&&◌, ◌||◌, if◌then◌else◌, length, List, [], ◌∷◌, Some, None, is_some, slice_get, refl, sym, ap, subst, ◌∙◌, eq-eqb, arith}
use Rattle.std.proofs.lemmas.Bool.{or_right, false≢true}
use Rattle.std.proofs.lemmas.Option.{slice_get_within}
use Rattle.std.specs.List.{list_all, list_any}
use Rattle.fol_core.specs.Literals.{Lit, ClauseTree}
use Rattle.fol_core.specs.Substitutions.{Substitution, substitute}
use Rattle.substitutions.specs.Bindings.{Binding}
use Rattle.substitutions.specs.Instances.{substitute_literal}
use Rattle.unifiers.specs.Laws.{MatchesMake, MatchesAreFound}
use Rattle.unifiers.specs.Matching.{matched, Agrees}
use Rattle.derivation.specs.Places.{same_sign, others}
use Rattle.prover_steps.specs.Subsuming.{matched_literal, subsumes}
use Rattle.subsume.specs.Unused.{matches_in}
use Rattle.prover_steps.proofs.Subsumption.{Takes, with_none_takes, get_other, behind_gap}

-- a literal of the clause without one place is a literal of the clause
some_other : (test : Lit → Bool) (d : ClauseTree) (a : ℕ) (k : Lit) → slice_get d a ≡ Some k → test k ≡ true → list_any test d ≡ true
some_other test [] a k there h = cc
some_other test (l ∷ d) zero k there h = let e : l ≡ k = cc in ap (λ b. b || list_any test d) (ap test e ∙ h)
some_other test (l ∷ d) (suc a) k there h = or_right (test l) _ (some_other test d a k there h)

matches_own : MatchesAreFound → (s : Substitution) (l : Lit) → is_some (matched_literal l (substitute_literal s l) []) ≡ true
matches_own found s l = by l.positive (found l.atom (substitute s l.atom) s refl)
  where
    by : (b : Bool) → (cs : List Binding) × (matched l.atom (substitute s l.atom) [] ≡ Some cs) × Agrees s cs → is_some (if same_sign b b then matched l.atom (substitute s l.atom) [] else None) ≡ true
    by true (cs, e, agrees) = ap is_some e
    by false (cs, e, agrees) = ap is_some e

abbrev pub Holds : ClauseTree → ClauseTree → Type 0
Holds e d = (a : ℕ) (k : Lit) → slice_get e a ≡ Some k → (b : ℕ) × (slice_get d b ≡ Some k)

takes_match : MatchesAreFound → (s : Substitution) (c e d : ClauseTree) → Holds e d → Takes s c e → list_all (matches_in d) c ≡ true
takes_match found s [] e d holds takes = refl
takes_match found s (l ∷ c) e d holds (a, there, takes) =
    let (b, is) = holds a (substitute_literal s l) there in
    ap (λ t. t && list_all (matches_in d) c) (some_other (λ k. is_some (matched_literal l k [])) d b (substitute_literal s l) is (matches_own found s l))
    ∙ takes_match found s c (others (λ k. k == a) e) d (λ m k h. holds (behind_gap a m) k (sym (get_other a e m) ∙ h)) takes

pub must_match : MatchesMake → MatchesAreFound → (c d : ClauseTree) → list_all (matches_in d) c ≡ false → subsumes c d ≡ false
must_match makes found c d h = by (subsumes c d) refl
  where
    by : (b : Bool) → subsumes c d ≡ b → b ≡ false
    by false e = refl
    by true e = let (s, takes) = with_none_takes makes c d e in absurd (false≢true (sym h ∙ takes_match found s c d d (λ a k is. (a, is)) takes))

at_most : (test : ℕ → Bool) (d : ClauseTree) → length (others test d) ≤ length d
at_most test [] = omega arith
at_most test (k ∷ d) = by (test 0) (at_most (λ j. test (suc j)) d)
  where
    by : (b : Bool) → length (others (λ j. test (suc j)) d) ≤ length d → length (if b then others (λ j. test (suc j)) d else k ∷ others (λ j. test (suc j)) d) ≤ suc (length d)
    by true h = omega (arith, h)
    by false h = omega (arith, h)

shorter_at : (test : ℕ → Bool) (a : ℕ) (d : ClauseTree) → ((k : ℕ) → k ≡ a → test k ≡ true) → a < length d → suc (length (others test d)) ≤ length d
shorter_at test a [] hits within = absurd (omega (arith, within))
shorter_at test zero (k ∷ d) hits within =
    let e : others test (k ∷ d) ≡ others (λ j. test (suc j)) d = ap (λ b. if b then others (λ j. test (suc j)) d else k ∷ others (λ j. test (suc j)) d) (hits 0 refl) in
    let fewer : length (others (λ j. test (suc j)) d) ≤ length d = at_most (λ j. test (suc j)) d in
    subst (λ f. suc (length f) ≤ suc (length d)) (sym e) (omega (arith, fewer))
shorter_at test (suc a) (k ∷ d) hits within = by (test 0) (shorter_at (λ j. test (suc j)) a d (λ j e. hits (suc j) (ap suc e)) (omega (arith, within)))
  where
    by : (b : Bool) → suc (length (others (λ j. test (suc j)) d)) ≤ length d → suc (length (if b then others (λ j. test (suc j)) d else k ∷ others (λ j. test (suc j)) d)) ≤ suc (length d)
    by true h = omega (arith, h)
    by false h = omega (arith, h)

takes_fit : (s : Substitution) (c d : ClauseTree) → Takes s c d → length c ≤ length d
takes_fit s [] d takes = omega arith
takes_fit s (l ∷ c) d (a, there, takes) =
    let rest : length c ≤ length (others (λ k. k == a) d) = takes_fit s c (others (λ k. k == a) d) takes in
    let gone : suc (length (others (λ k. k == a) d)) ≤ length d = shorter_at (λ k. k == a) a d (λ k e. eq-eqb k a e) (slice_get_within d a _ there) in omega (arith, rest, gone)

pub must_fit : MatchesMake → (c d : ClauseTree) → length d < length c → subsumes c d ≡ false
must_fit makes c d h = by (subsumes c d) refl
  where
    by : (b : Bool) → subsumes c d ≡ b → b ≡ false
    by false e = refl
    by true e = let (s, takes) = with_none_takes makes c d e in let fits : length c ≤ length d = takes_fit s c d takes in absurd (omega (arith, fits, h))
