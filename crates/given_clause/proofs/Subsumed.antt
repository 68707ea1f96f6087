-- A clause with literals is subsumed by a short one that has one of those as an instance, or by a longer one.
use Rattle.std.proofs.Common.{◌≡◌, ◌≢◌, ℕ, suc, Bool, true, false, not, ◌&&◌, ◌||◌, if◌then◌else◌, is_some, length, slice_get, List, [], ◌∷◌, Option, Some, None, filter, refl, sym, ap, ap₂, ◌∙◌, arith}
use Rattle.std.specs.Borrow.{Bor}
use Rattle.std.specs.List.{list_any}
use Rattle.std.specs.Option.{option_map_or}
use Rattle.clause_index.proofs.Firsts.{false_is, any_so, first_matches}
use Rattle.clause_index.specs.Entries.{is_short, is_short_above}
use Rattle.clause_index.specs.Subsumers.{is_long_above}
use Rattle.derivation.specs.Places.{same_sign, atom_at, has_literal}
use Rattle.discrim_tree.specs.Terms.{has_instance}
use Rattle.fol_core.specs.Literals.{Lit, ClauseTree}
use Rattle.given_clause.specs.Acting.{has_short_above}
use Rattle.held_clauses.specs.Holding.{lent}
use Rattle.prover_steps.proofs.Subsumption.{place_passes}
use Rattle.prover_steps.specs.Clashing.{Held}
use Rattle.prover_steps.specs.Subsuming.{matched_literal, subsumes}
use Rattle.substitutions.specs.Bindings.{Binding}
use Rattle.unifiers.specs.Matching.{matched}

-- tests
or_none : (a : Bool) → (a || false) ≡ a
or_none true = refl
or_none false = refl

same_tests : (a b : Bool) → (a ≡ true → b ≡ true) → (b ≡ true → a ≡ true) → a ≡ b
same_tests true b to back = sym (to refl)
same_tests false true to back = false_is (back refl)
same_tests false false to back = refl

any_or : {X : Type 0} (p q : X → Bool) (xs : List X) → list_any (λ x. p x || q x) xs ≡ (list_any p xs || list_any q xs)
any_or p q [] = refl
any_or p q (x ∷ xs) = by (p x) (q x) (list_any p xs) (list_any q xs) (any_or p q xs)
  where
    by : (a b c d : Bool) → list_any (λ y. p y || q y) xs ≡ (c || d) → ((a || b) || list_any (λ y. p y || q y) xs) ≡ ((a || c) || (b || d))
    by true b c d e = refl
    by false true true d e = refl
    by false true false d e = refl
    by false false c d e = e

any_never : {X : Type 0} (xs : List X) → list_any (λ (x : X). false) xs ≡ false
any_never [] = refl
any_never (x ∷ xs) = any_never xs

-- whether some clause passes is whether there is one of those that pass
any_kept : (p : Held → Bool) (hs : List Held) → list_any p (filter p hs) ≡ list_any p hs
any_kept p [] = refl
any_kept p (h ∷ hs) = by (p h) refl (any_kept p hs)
  where
    by : (b : Bool) → p h ≡ b → list_any p (filter p hs) ≡ list_any p hs → list_any p (if b then h ∷ filter p hs else filter p hs) ≡ (b || list_any p hs)
    by true e rest = ap (λ a. a || list_any p (filter p hs)) e
    by false e rest = rest

-- clauses that are lent
lent_any : (test : Held → Bool) (bs : List (Bor Held)) → list_any (λ b. test b.now) bs ≡ list_any test (lent bs)
lent_any test [] = refl
lent_any test (b ∷ bs) = ap (λ a. test b.now || a) (lent_any test bs)

pub found_long : (d : ClauseTree) (hs : List Held) (bs : List (Bor Held)) → filter (is_long_above d) (lent bs) ≡ filter (is_long_above d) hs
    → list_any (λ b. is_long_above d b.now) bs ≡ list_any (is_long_above d) hs
found_long d hs bs e =
    lent_any (is_long_above d) bs ∙ sym (any_kept (is_long_above d) (lent bs)) ∙ ap (list_any (is_long_above d)) e ∙ any_kept (is_long_above d) hs

-- whether a clause begins with a literal of which another one is an instance, or has none
abbrev begins : ClauseTree → Lit → Bool
begins c k = not (has_literal (not k.positive) c 0) && has_instance (atom_at c 0) k.atom

begins_with : (l : Lit) (c : ClauseTree) (k : Lit) → is_some (matched_literal l k []) ≡ true → begins (l ∷ c) k ≡ true
begins_with l c k e = by l.positive k.positive e
  where
    by : (p q : Bool) → is_some (if same_sign p q then matched l.atom k.atom [] else None) ≡ true → (not (same_sign (not q) p) && is_some (matched l.atom k.atom [])) ≡ true
    by true true f = f
    by true false f = false_is f
    by false true f = false_is f
    by false false f = f

some_begins : (c d : ClauseTree) → (length d ≢ 0) → subsumes c d ≡ true → list_any (begins c) d ≡ true
some_begins [] [] more e = absurd (more refl)
some_begins [] (k ∷ d) more e = refl
some_begins (l ∷ c) d more e = any_so (λ k. is_some (matched_literal l k [])) (begins (l ∷ c)) (begins_with l c) d (first_matches l c d e)

-- such a literal is matched
matches_back : (l k : Lit) (c : ClauseTree) → begins (l ∷ c) k ≡ true → is_some (matched_literal l k []) ≡ true
matches_back l k c e = by l.positive k.positive e
  where
    by : (p q : Bool) → (not (same_sign (not q) p) && is_some (matched l.atom k.atom [])) ≡ true → is_some (if same_sign p q then matched l.atom k.atom [] else None) ≡ true
    by true true f = f
    by true false f = false_is f
    by false true f = false_is f
    by false false f = f

one_way : (o : Option (List Binding)) → is_some o ≡ true → option_map_or (λ (more : List Binding). true) o false ≡ true
one_way None e = false_is e
one_way (Some bs) e = refl

-- and if there is no other one the clause subsumes
short_subsumes : (c d : ClauseTree) (a : ℕ) (k : Lit) → slice_get d a ≡ Some k → begins c k ≡ true → is_short c ≡ true → subsumes c d ≡ true
short_subsumes [] d a k there e short = refl
short_subsumes (l ∷ []) d a k there e short = place_passes at 0 a a d k (omega arith) there (ap way there ∙ one_way (matched_literal l k []) (matches_back l k [] e))
  where
    way : Option Lit → Bool
    way o = option_map_or (λ (more : List Binding). true) (option_map_or (λ j. matched_literal l j []) o None) false

    at : ℕ → Bool
    at n = way (slice_get d n)
short_subsumes (l ∷ j ∷ c) d a k there e short = false_is short

some_literal : {A : Type 0} (test : Lit → Bool) (d : ClauseTree) → ((a : ℕ) (k : Lit) → slice_get d a ≡ Some k → test k ≡ true → A) → list_any test d ≡ true → A
some_literal test [] each e = false_is e
some_literal {A = A} test (l ∷ d) each e = by (test l) refl e (some_literal test d (λ a k there f. each (suc a) k there f))
  where
    by : (b : Bool) → test l ≡ b → (b || list_any test d) ≡ true → (list_any test d ≡ true → A) → A
    by true f g rest = each 0 l refl f
    by false f g rest = rest g

-- so a short clause subsumes one with literals exactly if it begins so with one of them
short_is : (c d : ClauseTree) → (length d ≢ 0) → is_short c ≡ true → list_any (begins c) d ≡ subsumes c d
short_is c d more short =
    same_tests (list_any (begins c) d) (subsumes c d) (λ e. some_literal (begins c) d (λ a k there f. short_subsumes c d a k there f short) e) (some_begins c d more)

-- one clause subsumes as a short one or as a longer one
either : (h : Held) (d : ClauseTree) → (length d ≢ 0) → (list_any (λ k. is_short_above k.positive k.atom h) d || is_long_above d h) ≡ subsumes h.clause d
either h d more = by (is_short h.clause) refl
  where
    all : Bool → Bool
    all b = list_any (λ k. (b && not (has_literal (not k.positive) h.clause 0)) && has_instance (atom_at h.clause 0) k.atom) d || (not b && subsumes h.clause d)

    by : (b : Bool) → is_short h.clause ≡ b → all (is_short h.clause) ≡ subsumes h.clause d
    by true e = ap all e ∙ or_none (list_any (begins h.clause) d) ∙ short_is h.clause d more e
    by false e = ap all e ∙ ap (λ b. b || subsumes h.clause d) (any_never d)

regrouped : (a b c d : Bool) → ((a || b) || (c || d)) ≡ ((a || c) || (b || d))
regrouped true b c d = refl
regrouped false true true d = refl
regrouped false true false d = refl
regrouped false false c d = refl

-- and so do clauses
short_or_long : (hs : List Held) (d : ClauseTree) → (length d ≢ 0) → (list_any (has_short_above hs) d || list_any (is_long_above d) hs) ≡ list_any (λ h. subsumes h.clause d) hs
short_or_long [] d more = ap (λ b. b || false) (any_never d)
short_or_long (h ∷ hs) d more =
    ap (λ b. b || (is_long_above d h || list_any (is_long_above d) hs)) (any_or (λ k. is_short_above k.positive k.atom h) (has_short_above hs) d)
    ∙ regrouped (list_any (λ k. is_short_above k.positive k.atom h) d) (list_any (has_short_above hs) d) (is_long_above d h) (list_any (is_long_above d) hs)
    ∙ ap₂ (λ a b. a || b) (either h d more) (short_or_long hs d more)

pub by_short : (hs : List Held) (d : ClauseTree) → (length d ≢ 0) → list_any (has_short_above hs) d ≡ true → list_any (λ h. subsumes h.clause d) hs ≡ true
by_short hs d more e = sym (short_or_long hs d more) ∙ ap (λ b. b || list_any (is_long_above d) hs) e

pub by_long : (hs : List Held) (d : ClauseTree) → (length d ≢ 0) → list_any (has_short_above hs) d ≡ false → list_any (is_long_above d) hs ≡ list_any (λ h. subsumes h.clause d) hs
by_long hs d more e = sym (ap (λ b. b || list_any (is_long_above d) hs) e) ∙ short_or_long hs d more

-- a longer clause subsumes no short one
never_more : (o : Option (List Binding)) → (option_map_or (λ (more : List Binding). false) o false || false) ≡ false
never_more None = refl
never_more (Some bs) = refl

long_never : (c d : ClauseTree) → is_short d ≡ true → (not (is_short c) && subsumes c d) ≡ false
long_never [] d short = refl
long_never (l ∷ []) d short = refl
long_never (l ∷ k ∷ c) [] short = refl
long_never (l ∷ k ∷ c) (j ∷ []) short = never_more (matched_literal l j [])
long_never (l ∷ k ∷ c) (j ∷ i ∷ d) short = false_is short

pub none_long : (hs : List Held) (d : ClauseTree) → is_short d ≡ true → list_any (is_long_above d) hs ≡ false
none_long [] d short = refl
none_long (h ∷ hs) d short = ap (λ b. b || list_any (is_long_above d) hs) (long_never h.clause d short) ∙ none_long hs d short
