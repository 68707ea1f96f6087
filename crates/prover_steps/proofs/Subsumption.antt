-- Subsumption by matches, one literal after the other, is one substitution with different places.
use Rattle.std.proofs.Common.{◌≡◌, ℕ, zero, suc, ◌<◌, ◌+◌, ◌↔◌, ◌⊎◌, inl, inr, Bool, true, false, ◌==◌, ◌||◌, if◌then◌else◌, length, List, [], ◌∷◌, Option, Some, None, slice_get, refl, sym, ap, ◌∙◌, arith, eq-eqb, ne_eqb}
use Rattle.std.proofs.lemmas.Bool.{or_cases, or_right, false≢true}
use Rattle.std.proofs.lemmas.Option.{slice_get_within}
use Rattle.std.specs.List.{list_any}
use Rattle.std.specs.Option.{option_map_or, option_and_then}
use Rattle.fol_core.specs.Literals.{Lit, literal, ClauseTree}
use Rattle.fol_core.specs.Substitutions.{Substitution, substitute, substitute_all}
use Rattle.fol_core.specs.Tree.{Tree, app, Trees, none, more}
use Rattle.substitutions.specs.Bindings.{Binding, by_bindings}
use Rattle.substitutions.specs.Instances.{substitute_literal}
use Rattle.unifiers.specs.Laws.{MatchesMake, MatchesAreFound}
use Rattle.unifiers.specs.Matching.{matched, matched_all, Agrees}
use Rattle.derivation.specs.Places.{same_sign, others}
use Rattle.derivation.proofs.PlaceLemmas.{sign_same}
use Rattle.prover_steps.specs.Clashing.{places_from}
use Rattle.prover_steps.specs.SubsumeLaws.{TakesInto, IsTakenInto}
use Rattle.prover_steps.specs.Subsuming.{matched_literal, literal_matches, subsumes_with, subsumes}
use Rattle.prover_steps.proofs.Chains.{others_none}

-- where one of the places passes a test, and back
pub place_found : (test : ℕ → Bool) (n : ℕ) (d : ClauseTree) → list_any test (places_from n d) ≡ true → (a : ℕ) × (test a ≡ true)
place_found test n [] h = absurd (false≢true h)
place_found test n (k ∷ d) h = by (or_cases (test n) (list_any test (places_from (suc n) d)) h) (place_found test (suc n) d)
  where
    by : (test n ≡ true) ⊎ (list_any test (places_from (suc n) d) ≡ true) → (list_any test (places_from (suc n) d) ≡ true → (a : ℕ) × (test a ≡ true)) → (a : ℕ) × (test a ≡ true)
    by (inl e) rest = (n, e)
    by (inr e) rest = rest e

pub place_passes : (test : ℕ → Bool) (n a m : ℕ) (d : ClauseTree) (k : Lit) → m ≡ n + a → slice_get d a ≡ Some k → test m ≡ true → list_any test (places_from n d) ≡ true
place_passes test n a m [] k e there h = cc
place_passes test n zero m (l ∷ d) k e there h =
    let same : n ≡ m = omega (arith, e) in ap (λ b. b || list_any test (places_from (suc n) d)) (ap test same ∙ h)
place_passes test n (suc a) m (l ∷ d) k e there h = or_right (test n) _ (place_passes test (suc n) a m d k (omega (arith, e)) there h)

-- the atoms of a clause as arguments
abbrev pub atoms_in : ClauseTree → Trees
atoms_in [] = none
atoms_in (l ∷ c) = more l.atom (atoms_in c)

-- terms, with the signs of a clause's literals, are atoms of another clause, each at a place of its
-- own
abbrev pub Picks : ClauseTree → Trees → ClauseTree → Type 0
Picks [] ts d = ts ≡ none
Picks (l ∷ c) none d = ⊥
Picks (l ∷ c) (more t ts) d = (a : ℕ) × (slice_get d a ≡ Some (literal l.positive t)) × Picks c ts (others (λ k. k == a) d)

-- what a way finds
abbrev pub Chooses : List Binding → ClauseTree → ClauseTree → Type 0
Chooses bs c d = (ts : Trees) × (cs : List Binding) × (matched_all (atoms_in c) ts bs ≡ Some cs) × Picks c ts d

pub chooses : (bs : List Binding) (c d : ClauseTree) → subsumes_with bs c d ≡ true → Chooses bs c d
chooses bs [] d h = (none, bs, refl, refl)
chooses bs (l ∷ c) d h = by found.0 (slice_get d found.0) refl found.1 (λ more a. chooses more c (others (λ k. k == a) d))
  where
    found : (a : ℕ) × (option_map_or (λ more. subsumes_with more c (others (λ k. k == a) d)) (literal_matches l d a bs) false ≡ true)
    found = place_found (λ a. option_map_or (λ more. subsumes_with more c (others (λ k. k == a) d)) (literal_matches l d a bs) false) 0 d h

    then_all : (a : ℕ) (k : Lit) (es : List Binding) → slice_get d a ≡ Some k → same_sign l.positive k.positive ≡ true → matched l.atom k.atom bs ≡ Some es → Chooses es c (others (λ j. j == a) d) → Chooses bs (l ∷ c) d
    then_all a k es there sign e (ts, cs, m, picks) = (
      more k.atom ts,
      cs,
      ap (option_and_then (λ fs. matched_all (atoms_in c) ts fs)) e ∙ m,
      (a, there ∙ ap (λ b. Some (literal b k.atom)) (sym (sign_same l.positive k.positive sign)), picks),
    )

    matching : (a : ℕ) (k : Lit) → slice_get d a ≡ Some k → (o : Option (List Binding)) → matched l.atom k.atom bs ≡ o → same_sign l.positive k.positive ≡ true
        → option_map_or (λ more. subsumes_with more c (others (λ j. j == a) d)) o false ≡ true
        → ((es : List Binding) (n : ℕ) → subsumes_with es c (others (λ j. j == n) d) ≡ true → Chooses es c (others (λ j. j == n) d)) → Chooses bs (l ∷ c) d
    matching a k there None e sign t rest = absurd (false≢true t)
    matching a k there (Some es) e sign t rest = then_all a k es there sign e (rest es a t)

    signed : (a : ℕ) (k : Lit) → slice_get d a ≡ Some k → (b : Bool) → same_sign l.positive k.positive ≡ b
        → option_map_or (λ more. subsumes_with more c (others (λ j. j == a) d)) (if b then matched l.atom k.atom bs else None) false ≡ true
        → ((es : List Binding) (n : ℕ) → subsumes_with es c (others (λ j. j == n) d) ≡ true → Chooses es c (others (λ j. j == n) d)) → Chooses bs (l ∷ c) d
    signed a k there false sign t rest = absurd (false≢true t)
    signed a k there true sign t rest = matching a k there (matched l.atom k.atom bs) refl sign t rest

    by : (a : ℕ) (o : Option Lit) → slice_get d a ≡ o
        → option_map_or (λ more. subsumes_with more c (others (λ j. j == a) d)) (option_map_or (λ k. matched_literal l k bs) o None) false ≡ true
        → ((es : List Binding) (n : ℕ) → subsumes_with es c (others (λ j. j == n) d) ≡ true → Chooses es c (others (λ j. j == n) d)) → Chooses bs (l ∷ c) d
    by a None there t rest = absurd (false≢true t)
    by a (Some k) there t rest = signed a k there (same_sign l.positive k.positive) refl t rest

-- one substitution takes the literals to others, each at a place of its own
abbrev pub Takes : Substitution → ClauseTree → ClauseTree → Type 0
Takes s [] d = Unit {0}
Takes s (l ∷ c) d = (a : ℕ) × (slice_get d a ≡ Some (substitute_literal s l)) × Takes s c (others (λ k. k == a) d)

picks_take : (s : Substitution) (c : ClauseTree) (ts : Trees) (d : ClauseTree) → Picks c ts d → substitute_all s (atoms_in c) ≡ ts → Takes s c d
picks_take s [] ts d picks e = tt
picks_take s (l ∷ c) none d picks e = absurd picks
picks_take s (l ∷ c) (more t ts) d (a, there, picks) e =
    let first : substitute s l.atom ≡ t = cc in
    let rest : substitute_all s (atoms_in c) ≡ ts = cc in
    (a, there ∙ ap (λ u. Some (literal l.positive u)) (sym first), picks_take s c ts (others (λ k. k == a) d) picks rest)

pub with_none_takes : MatchesMake → (c d : ClauseTree) → subsumes c d ≡ true → (s : Substitution) × Takes s c d
with_none_takes makes c d h =
    let (ts, cs, m, picks) = chooses [] c d h in
    let e : substitute (by_bindings cs) (app 0 (atoms_in c)) ≡ app 0 ts = makes (app 0 (atoms_in c)) (app 0 ts) cs m in
    let all : substitute_all (by_bindings cs) (atoms_in c) ≡ ts = cc in
    (by_bindings cs, picks_take (by_bindings cs) c ts d picks all)

-- places in a clause where one of its literals is left out
abbrev pub behind_gap : ℕ → ℕ → ℕ
behind_gap zero m = suc m
behind_gap (suc a) zero = zero
behind_gap (suc a) (suc m) = suc (behind_gap a m)

abbrev pub before_gap : ℕ → ℕ → ℕ
before_gap zero zero = zero
before_gap zero (suc m) = m
before_gap (suc a) zero = zero
before_gap (suc a) (suc m) = suc (before_gap a m)

gap_apart : (a m : ℕ) → a ≡ behind_gap a m → ⊥
gap_apart zero m h = cc
gap_apart (suc a) zero h = cc
gap_apart (suc a) (suc m) h = gap_apart a m (omega (arith, h))

gap_same : (a m n : ℕ) → behind_gap a m ≡ behind_gap a n → m ≡ n
gap_same zero m n h = omega (arith, h)
gap_same (suc a) zero zero h = refl
gap_same (suc a) zero (suc n) h = cc
gap_same (suc a) (suc m) zero h = cc
gap_same (suc a) (suc m) (suc n) h = ap suc (gap_same a m n (omega (arith, h)))

gap_back : (a m : ℕ) → (m ≡ a → ⊥) → behind_gap a (before_gap a m) ≡ m
gap_back zero zero other = absurd (other refl)
gap_back zero (suc m) other = refl
gap_back (suc a) zero other = refl
gap_back (suc a) (suc m) other = ap suc (gap_back a m (λ e. other (ap suc e)))

gap_at : (test : ℕ → Bool) (a : ℕ) (d : ClauseTree) → ((k : ℕ) → k ≡ a → test k ≡ true) → ((k : ℕ) → (k ≡ a → ⊥) → test k ≡ false) → (m : ℕ)
    → slice_get (others test d) m ≡ slice_get d (behind_gap a m)
gap_at test a [] hits misses m = by a m
  where
    by : (a m : ℕ) → slice_get {X = Lit} [] m ≡ slice_get {X = Lit} [] (behind_gap a m)
    by a m = refl
gap_at test zero (k ∷ d) hits misses m =
    ap (λ b. slice_get (if b then others (λ j. test (suc j)) d else k ∷ others (λ j. test (suc j)) d) m) (hits 0 refl)
    ∙ ap (λ e. slice_get e m) (others_none (λ j. test (suc j)) d (λ j. misses (suc j) (λ e. cc)))
gap_at test (suc a) (k ∷ d) hits misses m =
    ap (λ b. slice_get (if b then others (λ j. test (suc j)) d else k ∷ others (λ j. test (suc j)) d) m) (misses 0 (λ e. cc))
    ∙ by m (gap_at (λ j. test (suc j)) a d (λ j e. hits (suc j) (ap suc e)) (λ j other. misses (suc j) (λ e. other (omega (arith, e)))))
  where
    by : (m : ℕ) → ((n : ℕ) → slice_get (others (λ j. test (suc j)) d) n ≡ slice_get d (behind_gap a n)) → slice_get (k ∷ others (λ j. test (suc j)) d) m ≡ slice_get (k ∷ d) (behind_gap (suc a) m)
    by zero each = refl
    by (suc m) each = each m

pub get_other : (a : ℕ) (d : ClauseTree) (m : ℕ) → slice_get (others (λ k. k == a) d) m ≡ slice_get d (behind_gap a m)
get_other a d m = gap_at (λ k. k == a) a d (λ k e. eq-eqb k a e) (λ k other. ne_eqb k a other) m

-- the place of the first literal, and the others' behind its gap
abbrev placed_first : ℕ → (ℕ → ℕ) → ℕ → ℕ
placed_first a place zero = a
placed_first a place (suc b) = behind_gap a (place b)

takes_into : (s : Substitution) (c d : ClauseTree) → Takes s c d → (place : ℕ → ℕ) × TakesInto s place c d
takes_into s [] d takes = (λ a. a, record { literals = λ a l h. absurd (nothing h); apart = λ a b h k e. absurd (omega (arith, h)) })
  where
    nothing : {l : Lit} → None ≡ Some l → ⊥
    nothing h = cc
takes_into s (l ∷ c) d (a, there, takes) = by (takes_into s c (others (λ k. k == a) d) takes)
  where
    by : (place : ℕ → ℕ) × TakesInto s place c (others (λ k. k == a) d) → (place : ℕ → ℕ) × TakesInto s place (l ∷ c) d
    by (place, into) = (placed_first a place, record { literals = literals; apart = apart })
      where
        literals : (b : ℕ) (k : Lit) → slice_get (l ∷ c) b ≡ Some k → slice_get d (placed_first a place b) ≡ Some (substitute_literal s k)
        literals zero k h = let e : l ≡ k = cc in there ∙ ap (λ m. Some (substitute_literal s m)) e
        literals (suc b) k h = sym (get_other a d (place b)) ∙ into.literals b k h

        apart : (b n : ℕ) → b < length (l ∷ c) → n < length (l ∷ c) → placed_first a place b ≡ placed_first a place n → b ≡ n
        apart zero zero h k e = refl
        apart zero (suc n) h k e = absurd (gap_apart a (place n) e)
        apart (suc b) zero h k e = absurd (gap_apart a (place b) (sym e))
        apart (suc b) (suc n) h k e = ap suc (into.apart b n (omega (arith, h)) (omega (arith, k)) (gap_same a (place b) (place n) e))

into_takes : (s : Substitution) (place : ℕ → ℕ) (c d : ClauseTree) → TakesInto s place c d → Takes s c d
into_takes s place [] d into = tt
into_takes s place (l ∷ c) d into = (place 0, into.literals 0 l refl, into_takes s rest c (others (λ k. k == place 0) d) (record { literals = literals; apart = apart }))
  where
    rest : ℕ → ℕ
    rest b = before_gap (place 0) (place (suc b))

    other : (b : ℕ) → b < length c → place (suc b) ≡ place 0 → ⊥
    other b h e = let same : suc b ≡ 0 = into.apart (suc b) 0 (omega (arith, h)) (omega arith) e in cc

    literals : (b : ℕ) (k : Lit) → slice_get c b ≡ Some k → slice_get (others (λ j. j == place 0) d) (rest b) ≡ Some (substitute_literal s k)
    literals b k h =
        get_other (place 0) d (rest b) ∙ ap (slice_get d) (gap_back (place 0) (place (suc b)) (other b (slice_get_within c b k h))) ∙ into.literals (suc b) k h

    apart : (b n : ℕ) → b < length c → n < length c → rest b ≡ rest n → b ≡ n
    apart b n h k e =
        let same : place (suc b) ≡ place (suc n) = sym (gap_back (place 0) (place (suc b)) (other b h)) ∙ ap (behind_gap (place 0)) e ∙ gap_back (place 0) (place (suc n)) (other n k) in
        let next : suc b ≡ suc n = into.apart (suc b) (suc n) (omega (arith, h)) (omega (arith, k)) same in omega (arith, next)

-- a term behind others
abbrev pub then_term : Trees → Tree → Trees
then_term none t = more t none
then_term (more s ss) t = more s (then_term ss t)

match_last : (s : Substitution) (ss : Trees) (t : Tree) (bs : List Binding)
    → matched_all (then_term ss t) (substitute_all s (then_term ss t)) bs ≡ option_and_then (λ es. matched t (substitute s t) es) (matched_all ss (substitute_all s ss) bs)
match_last s none t bs = by (matched t (substitute s t) bs)
  where
    by : (o : Option (List Binding)) → option_and_then (λ cs. matched_all none none cs) o ≡ o
    by None = refl
    by (Some cs) = refl
match_last s (more u us) t bs = by (matched u (substitute s u) bs) (match_last s us t)
  where
    by : (o : Option (List Binding))
        → ((cs : List Binding) → matched_all (then_term us t) (substitute_all s (then_term us t)) cs ≡ option_and_then (λ es. matched t (substitute s t) es) (matched_all us (substitute_all s us) cs))
        → option_and_then (λ cs. matched_all (then_term us t) (substitute_all s (then_term us t)) cs) o
        ≡ option_and_then (λ es. matched t (substitute s t) es) (option_and_then (λ cs. matched_all us (substitute_all s us) cs) o)
    by None each = refl
    by (Some cs) each = each cs

sign_itself : (b : Bool) → same_sign b b ≡ true
sign_itself true = refl
sign_itself false = refl

takes_found : MatchesAreFound → (s : Substitution) (front : Trees) (bs : List Binding) (c d : ClauseTree) → matched_all front (substitute_all s front) [] ≡ Some bs → Takes s c d
    → subsumes_with bs c d ≡ true
takes_found found s front bs [] d e takes = refl
takes_found found s front bs (l ∷ c) d e (a, there, takes) =
    by (found (app 0 (then_term front l.atom)) (app 0 (substitute_all s (then_term front l.atom))) s refl) (λ cs last. takes_found found s (then_term front l.atom) cs c (others (λ k. k == a) d) last takes)
  where
    goes : ℕ → Bool
    goes n = option_map_or (λ more. subsumes_with more c (others (λ k. k == n) d)) (literal_matches l d n bs) false

    by : (cs : List Binding) × (matched (app 0 (then_term front l.atom)) (app 0 (substitute_all s (then_term front l.atom))) [] ≡ Some cs) × Agrees s cs
        → ((cs : List Binding) → matched_all (then_term front l.atom) (substitute_all s (then_term front l.atom)) [] ≡ Some cs → subsumes_with cs c (others (λ k. k == a) d) ≡ true)
        → list_any goes (places_from 0 d) ≡ true
    by (cs, all, agrees) rest =
        let this : matched l.atom (substitute s l.atom) bs ≡ Some cs =
        sym (ap (option_and_then (λ es. matched l.atom (substitute s l.atom) es)) e) ∙ sym (match_last s front l.atom []) ∙ all
        in place_passes goes 0 a a d (substitute_literal s l) (omega arith) there
        (ap (λ o. option_map_or (λ more. subsumes_with more c (others (λ k. k == a) d)) (option_map_or (λ k. matched_literal l k bs) o None) false) there
        ∙ ap (λ b. option_map_or (λ more. subsumes_with more c (others (λ k. k == a) d)) (if b then matched l.atom (substitute s l.atom) bs else None) false) (sign_itself l.positive)
        ∙ ap (λ o. option_map_or (λ more. subsumes_with more c (others (λ k. k == a) d)) o false) this ∙ rest cs all)

pub subsumption_found : MatchesMake → MatchesAreFound → (c d : ClauseTree) → (subsumes c d ≡ true) ↔ IsTakenInto c d
subsumption_found makes found c d = (there, back)
  where
    there : subsumes c d ≡ true → IsTakenInto c d
    there h = let (s, takes) = with_none_takes makes c d h in let (place, into) = takes_into s c d takes in (s, place, into)

    back : IsTakenInto c d → subsumes c d ≡ true
    back (s, place, into) = takes_found found s none [] c d refl (into_takes s place c d into)
