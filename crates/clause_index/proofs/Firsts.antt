-- What a clause subsumes has an instance of its first literal.
use Rattle.std.proofs.Common.{◌≡◌, ℕ, ◌<◌, length, get_or, map, arith, zero, suc, Bool, true, false, IsTrue, ◌==◌, ◌&&◌, ◌||◌, if◌then◌else◌, is_some, slice_get, List, [], ◌∷◌, Option, Some, None, filter, refl, sym, ap, ◌∙◌}
use Rattle.std.specs.List.{AllByRecursion, Contains, list_any}
use Rattle.std.specs.Option.{option_map_or}
use Rattle.clause_index.specs.Finding.{has_atom_such}
use Rattle.clause_index.specs.Subsumers.{BeginsWith, is_below, HasAllBelow}
use Rattle.derivation.specs.Places.{same_sign, others}
use Rattle.discrim_tree.specs.Terms.{has_instance}
use Rattle.fol_core.specs.ClauseView.{literal_of}
use Rattle.fol_core.specs.Literals.{Lit, ClauseTree}
use Rattle.fol_core.specs.declared.clause.Literal.{Literal}
use Rattle.prover_steps.specs.Clashing.{Held, places_of}
use Rattle.prover_steps.specs.Subsuming.{matched_literal, literal_matches, subsumes_with, subsumes}
use Rattle.substitutions.specs.Bindings.{Binding}
use Rattle.unifiers.specs.Matching.{matched}

pub false_is : false ≡ true → {A : Type 0} → A
false_is e = cc

or_true : (a : Bool) → (a || true) ≡ true
or_true true = refl
or_true false = refl

pub any_so : {X : Type 0} (p q : X → Bool) → ((x : X) → p x ≡ true → q x ≡ true) → (xs : List X) → list_any p xs ≡ true → list_any q xs ≡ true
any_so p q each [] e = e
any_so p q each (x ∷ xs) e = by (p x) refl e (any_so p q each xs)
  where
    by : (a : Bool) → p x ≡ a → (a || list_any p xs) ≡ true → (list_any p xs ≡ true → list_any q xs ≡ true) → (q x || list_any q xs) ≡ true
    by true f g rest = ap (λ b. b || list_any q xs) (each x f)
    by false f g rest = ap (λ b. q x || b) (rest g) ∙ or_true (q x)

some_place : {A : Type 0} (f : ℕ → Bool) → ((a : ℕ) → f a ≡ true → A) → (ns : List ℕ) → list_any f ns ≡ true → A
some_place {A = A} f each [] e = false_is e
some_place {A = A} f each (n ∷ ns) e = by (f n) refl e (some_place f each ns)
  where
    by : (b : Bool) → f n ≡ b → (b || list_any f ns) ≡ true → (list_any f ns ≡ true → A) → A
    by true g h rest = each n g
    by false g h rest = rest h

some_there : (test : Lit → Bool) (d : ClauseTree) (a : ℕ) (k : Lit) → slice_get d a ≡ Some k → test k ≡ true → list_any test d ≡ true
some_there test [] a k there h = cc
some_there test (l ∷ d) zero k there h = let e : l ≡ k = cc in ap (λ b. b || list_any test d) (ap test e ∙ h)
some_there test (l ∷ d) (suc a) k there h = ap (λ b. test l || b) (some_there test d a k there h) ∙ or_true (test l)

-- the first literal of a clause that subsumes another matches one of its literals
pub first_matches : (l : Lit) (c d : ClauseTree) → subsumes (l ∷ c) d ≡ true → list_any (λ k. is_some (matched_literal l k [])) d ≡ true
first_matches l c d e = some_place at each (places_of d) e
  where
    way : ℕ → Option (List Binding) → Bool
    way a o = option_map_or (λ more. subsumes_with more c (others (λ k. k == a) d)) o false

    at : ℕ → Bool
    at a = way a (literal_matches l d a [])

    by_match : (a : ℕ) (k : Lit) → slice_get d a ≡ Some k → (o : Option (List Binding)) → matched_literal l k [] ≡ o → way a o ≡ true → list_any (λ j. is_some (matched_literal l j [])) d ≡ true
    by_match a k there None f g = false_is g
    by_match a k there (Some bs) f g = some_there (λ j. is_some (matched_literal l j [])) d a k there (ap is_some f)

    by_place : (a : ℕ) (o : Option Lit) → slice_get d a ≡ o → way a (option_map_or (λ k. matched_literal l k []) o None) ≡ true → list_any (λ j. is_some (matched_literal l j [])) d ≡ true
    by_place a None there g = false_is g
    by_place a (Some k) there g = by_match a k there (matched_literal l k []) refl g

    each : (a : ℕ) → at a ≡ true → list_any (λ k. is_some (matched_literal l k [])) d ≡ true
    each a g = by_place a (slice_get d a) refl g

-- of its sign, and with its atom
pub same_signed : (l k : Lit) → is_some (matched_literal l k []) ≡ true → (same_sign l.positive k.positive && has_instance l.atom k.atom) ≡ true
same_signed l k e = by (same_sign l.positive k.positive) (matched l.atom k.atom []) e
  where
    by : (b : Bool) (o : Option (List Binding)) → is_some (if b then o else None) ≡ true → (b && is_some o) ≡ true
    by true o f = f
    by false o f = false_is f

-- a weaker test first
pub kept_again : (p q : Held → Bool) → ((d : Held) → p d ≡ true → q d ≡ true) → (hs : List Held) → filter p (filter q hs) ≡ filter p hs
kept_again p q so [] = refl
kept_again p q so (h ∷ hs) = by (p h) refl (q h) refl (kept_again p q so hs)
  where
    by : (a : Bool) → p h ≡ a → (b : Bool) → q h ≡ b → filter p (filter q hs) ≡ filter p hs
        → filter p (if b then h ∷ filter q hs else filter q hs) ≡ (if a then h ∷ filter p hs else filter p hs)
    by true e true f rest = ap (λ (c : Bool). if c then h ∷ filter p (filter q hs) else filter p (filter q hs)) e ∙ ap (λ ks. h ∷ ks) rest
    by true e false f rest = false_is (sym f ∙ so h e)
    by false e true f rest = ap (λ (c : Bool). if c then h ∷ filter p (filter q hs) else filter p (filter q hs)) e ∙ rest
    by false e false f rest = rest

first_there : (l : Lit) (c : ClauseTree) (h : Held) → is_below (l ∷ c) h ≡ true → has_atom_such (has_instance l.atom) l.positive h ≡ true
first_there l c h e = any_so (λ k. is_some (matched_literal l k [])) (λ k. same_sign l.positive k.positive && has_instance l.atom k.atom) (λ k d. same_signed l k d) h.clause (first_matches l c h.clause e)

-- so it is found by that
pub first_kept : (l : Lit) (c : ClauseTree) (found hs : List Held) → BeginsWith c l → found ≡ filter (has_atom_such (has_instance l.atom) l.positive) hs
    → filter (is_below c) found ≡ filter (is_below c) hs
first_kept l [] found hs begins e = cc
first_kept l (k ∷ c) found hs begins e =
    let same : k ≡ l = cc in
    ap (filter (is_below (k ∷ c))) e ∙ kept_again (is_below (k ∷ c)) (has_atom_such (has_instance l.atom) l.positive) (λ h d. first_there l c h (ap (λ j. is_below (j ∷ c) h) (sym same) ∙ d)) hs

pub first_covered : (l : Lit) (c : ClauseTree) (ns : List ℕ) (hs : List Held) → BeginsWith c l → AllByRecursion (λ h. IsTrue (has_atom_such (has_instance l.atom) l.positive h) → Contains ns h.number) hs → HasAllBelow c hs ns
first_covered l [] ns hs begins all = let none : None ≡ Some l = begins in cc
first_covered l (k ∷ c) ns [] begins all = tt
first_covered l (k ∷ c) ns (h ∷ hs) begins all =
    let same : k ≡ l = cc in
    ((λ d. all.0 (first_there l c h (ap (λ j. is_below (j ∷ c) h) (sym same) ∙ d))), first_covered l (k ∷ c) ns hs begins all.1)

pub begins : (c : ClauseTree) (ls : List Literal) (l : Literal) → 0 < length ls → l ≡ get_or ls 0 l → map literal_of ls ≡ c → BeginsWith c (literal_of l)
begins c [] l some is same = absurd (omega (arith, some))
begins c (k ∷ ls) l some is same = ap (λ d. slice_get d 0) (sym same) ∙ ap (λ m. Some (literal_of m)) (sym is)
