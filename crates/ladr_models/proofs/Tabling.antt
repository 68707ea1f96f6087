-- The tables that the entries of an interpretation give.
use Rattle.std.proofs.Common.{◌≡◌, ℕ, suc, ◌^◌, ◌≤◌, ◌==◌, Bool, true, false, cond, if◌then◌else◌, List, [], ◌∷◌, ◌++◌, length, map, Option, Some, None, is_some, inl, inr, refl, sym, ap₂, ◌∙◌, arith}
use Rattle.std.specs.Prelude.{not, ◌&&◌, nat_lt, slice_get}
use Rattle.std.specs.List.{list_all}
use Rattle.std.specs.Option.{option_map}
use Rattle.std.specs.Str.{bytes_eq}
use Rattle.std.proofs.lemmas.Bool.{cases_Bool, and_parts, and_from, not_from_false, both_ways, eqb-true}
use Rattle.std.proofs.lemmas.Bool.Decides.{nat_tests}
use Rattle.std.proofs.lemmas.Slice.Eq.{bytes_eq-Decides}
use Rattle.fol_core.specs.SymbolTable.{Symbol, symbol, is_called, is_same_kind, first_place, number_of, FindsEach}
use Rattle.fol_core.specs.declared.symbols.Kind.{Kind}
use Rattle.fol_core.specs.declared.symbols.Kind.TheVariants.{Function, Relation}
use Rattle.ladr_commands.specs.ByName.{NamedTable, table}
use Rattle.ladr_models.proofs.Entries.{named, ArePlain}
use Rattle.ladr_models.specs.ReadsBack.{AreRows}
use Rattle.ladr_problem.specs.Names.{is_name, are_named}
use Rattle.ladr_interpretations.specs.Good.{is_filled, are_new, heads_of, values_for, listing_for}
use Rattle.model_tables.specs.Size.{AllBelow, IsListing, bound_of, cells_for}
use Rattle.model_tables.specs.Tables.{Listing, listing}

-- symbols of which none has this one's name and arity; and each differs from those behind it
abbrev pub differ : Symbol → List Symbol → Bool
differ s us = list_all (λ u. not (is_called u.name u.arity s)) us

abbrev pub all_differ : List Symbol → Bool
all_differ [] = true
all_differ (s ∷ ss) = differ s ss && all_differ ss

found_later : (b : Bool) (o : Option ℕ) (j : ℕ) → cond b (Some 0) (option_map suc o) ≡ Some (suc j) → (b ≡ false) × (o ≡ Some j)
found_later true o j e = absurd (cc)
found_later false None j e = absurd (cc)
found_later false (Some k) j e = (refl, cc)

differ_from : (s : Symbol) (us : List Symbol) → ((j : ℕ) (u : Symbol) → slice_get us j ≡ Some u → is_called u.name u.arity s ≡ false) → differ s us ≡ true
differ_from s [] h = refl
differ_from s (u ∷ us) h = and_from _ _ (not_from_false _ (h 0 u refl)) (differ_from s us (λ j v e. h (suc j) v e))

pub found_differ : (ss : List Symbol) → FindsEach ss → all_differ ss ≡ true
found_differ [] h = refl
found_differ (s ∷ ss) h =
    and_from _ _ (differ_from s ss (λ j u e. (found_later (is_called u.name u.arity s) (number_of ss u.name u.arity) j (h (suc j) u e)).0))
    (found_differ ss (λ j u e. (found_later (is_called u.name u.arity s) (number_of ss u.name u.arity) j (h (suc j) u e)).1))

from_not : (b : Bool) → not b ≡ true → b ≡ false
from_not true h = absurd (cc)
from_not false h = refl

-- the other way round
called_back : (s u : Symbol) → is_called s.name s.arity u ≡ true → is_called u.name u.arity s ≡ true
called_back s u h =
    let parts = and_parts (bytes_eq s.name u.name) (s.arity == u.arity) h in
    and_from _ _ ((bytes_eq-Decides u.name s.name).1 (sym ((bytes_eq-Decides s.name u.name).0 parts.0))) (grind (arith, nat_tests))

turned : (s u : Symbol) → not (is_called u.name u.arity s) ≡ true → is_called s.name s.arity u ≡ false
turned s u h = elim (cases_Bool (is_called s.name s.arity u)) [
  | inl y ↦ absurd (both_ways (is_called u.name u.arity s) (from_not _ h) (called_back s u y))
  | inr n ↦ n
]

own_called : (s : Symbol) → is_called s.name s.arity s ≡ true
own_called s = and_from _ _ ((bytes_eq-Decides s.name s.name).1 refl) (grind (arith, nat_tests))

-- a symbol that has no entry
skipped : (b : Bool) (s u : Symbol) (l : Listing) (es : List NamedTable) → is_called s.name s.arity u ≡ false → values_for es s ≡ []
    → values_for (if b then es else table l.kind u.name u.arity l.values ∷ es) s ≡ []
skipped true s u l es n h = h
skipped false s u l es n h = rw n h

no_values : (s : Symbol) (ss : List Symbol) (ls : List Listing) → differ s ss ≡ true → values_for (named ss ls) s ≡ []
no_values s [] ls d = refl
no_values s (u ∷ us) [] d = refl
no_values s (u ∷ us) (l ∷ ls) d =
    let parts = and_parts (not (is_called u.name u.arity s)) (differ s us) d in
    skipped (length l.values == 0) s u l (named us ls) (turned s u parts.0) (no_values s us ls parts.1)

-- other symbols have the values that they have without an entry
same_without : (s : Symbol) (l : Listing) (es : List NamedTable) (us : List Symbol) → differ s us ≡ true
    → map (listing_for (table l.kind s.name s.arity l.values ∷ es)) us ≡ map (listing_for es) us
same_without s l es [] d = refl
same_without s l es (u ∷ us) d =
    let parts = and_parts (not (is_called u.name u.arity s)) (differ s us) d in
    let n : is_called u.name u.arity s ≡ false = from_not _ parts.0 in
    ap₂ (λ (x : Listing) (xs : List Listing). x ∷ xs) (rw n refl) (same_without s l es us parts.1)

nothing : (xs : List ℕ) → length xs ≡ 0 → xs ≡ []
nothing [] h = refl
nothing (x ∷ xs) h = absurd (omega arith)

same_kind : (k : Kind) → is_same_kind k k ≡ true
same_kind Function = refl
same_kind Relation = refl

-- the rows come back
one_row : (b : Bool) (s : Symbol) (l : Listing) (es : List NamedTable) (us : List Symbol) (ls : List Listing) → (length l.values == 0) ≡ b → l.kind ≡ s.kind
    → values_for es s ≡ [] → differ s us ≡ true → map (listing_for es) us ≡ ls
    → map (listing_for (if b then es else table l.kind s.name s.arity l.values ∷ es)) (s ∷ us) ≡ l ∷ ls
one_row true s l es us ls z k none d h =
    let e : values_for es s ≡ l.values = none ∙ sym (nothing l.values (eqb-true (length l.values) 0 z)) in
    ap₂ (λ (x : Listing) (xs : List Listing). x ∷ xs) (ap₂ listing (sym k) e) h
one_row false s l es us ls z k none d h =
    let own : is_called s.name s.arity (symbol s.name s.arity l.kind) ≡ true = own_called s in
    let kind : is_same_kind l.kind s.kind ≡ true = rw k (same_kind s.kind) in
    ap₂ (λ (x : Listing) (xs : List Listing). x ∷ xs) (ap₂ listing (sym k) (rw (own, kind) refl)) (same_without s l es us d ∙ h)

pub rows_back : (n : ℕ) (ss : List Symbol) (ls : List Listing) → AreRows n ss ls → all_differ ss ≡ true → map (listing_for (named ss ls)) ss ≡ ls
rows_back n [] [] a d = refl
rows_back n [] (l ∷ ls) a d = absurd a
rows_back n (s ∷ ss) [] a d = absurd a
rows_back n (s ∷ ss) (l ∷ ls) a d =
    let parts = and_parts (differ s ss) (all_differ ss) d in
    one_row (length l.values == 0) s l (named ss ls) ss ls refl a.0.1.0 (no_values s ss ls parts.0) parts.0 (rows_back n ss ls a.1 parts.1)

-- no symbol has two entries
not_found : (test : Symbol → Bool) (xs : List Symbol) (x : Symbol) → is_some (first_place test xs) ≡ false → test x ≡ false → is_some (first_place test (xs ++ x ∷ [])) ≡ false
not_found test [] x h n = rw n refl
not_found test (y ∷ ys) x h n = by (test y) (first_place test ys) (first_place test (ys ++ x ∷ [])) h (λ e. not_found test ys x e n)
  where
    by : (b : Bool) (o p : Option ℕ) → is_some (cond b (Some 0) (option_map suc o)) ≡ false → (is_some o ≡ false → is_some p ≡ false) → is_some (cond b (Some 0) (option_map suc p)) ≡ false
    by true o p e f = e
    by false None None e f = refl
    by false None (Some m) e f = absurd (let g = f refl in cc)
    by false (Some j) p e f = absurd (cc)

-- none of these has a number in a table
abbrev new_to : List Symbol → List Symbol → Bool
new_to before us = list_all (λ u. not (is_some (number_of before u.name u.arity))) us

still_new : (before : List Symbol) (s : Symbol) (kind : Kind) (us : List Symbol) → new_to before us ≡ true → differ s us ≡ true → new_to (before ++ symbol s.name s.arity kind ∷ []) us ≡ true
still_new before s kind [] h d = refl
still_new before s kind (u ∷ us) h d =
    let parts = and_parts (not (is_some (number_of before u.name u.arity))) (new_to before us) h in
    let others = and_parts (not (is_called u.name u.arity s)) (differ s us) d in
    and_from _ _ (not_from_false _ (not_found (is_called u.name u.arity) before (symbol s.name s.arity kind) (from_not _ parts.0) (from_not _ others.0))) (still_new before s kind us parts.1 others.1)

one_new : (b : Bool) (before : List Symbol) (s : Symbol) (l : Listing) (es : List NamedTable) → not (is_some (number_of before s.name s.arity)) ≡ true
    → are_new before (heads_of es) ≡ true → are_new (before ++ symbol s.name s.arity l.kind ∷ []) (heads_of es) ≡ true
    → are_new before (heads_of (if b then es else table l.kind s.name s.arity l.values ∷ es)) ≡ true
one_new true before s l es n h i = h
one_new false before s l es n h i = and_from _ _ n i

entries_new : (before ss : List Symbol) (ls : List Listing) → new_to before ss ≡ true → all_differ ss ≡ true → are_new before (heads_of (named ss ls)) ≡ true
entries_new before [] ls h d = refl
entries_new before (s ∷ ss) [] h d = refl
entries_new before (s ∷ ss) (l ∷ ls) h d =
    let parts = and_parts (differ s ss) (all_differ ss) d in
    let news = and_parts (not (is_some (number_of before s.name s.arity))) (new_to before ss) h in
    one_new (length l.values == 0) before s l (named ss ls) news.0 (entries_new before ss ls news.1 parts.1)
    (entries_new (before ++ symbol s.name s.arity l.kind ∷ []) ss ls (still_new before s l.kind ss news.1 parts.0) parts.1)

new_to_none : (us : List Symbol) → new_to [] us ≡ true
new_to_none [] = refl
new_to_none (u ∷ us) = new_to_none us

pub all_new : (ss : List Symbol) (ls : List Listing) → all_differ ss ≡ true → are_new [] (heads_of (named ss ls)) ≡ true
all_new ss ls d = entries_new [] ss ls (new_to_none ss) d

-- each entry has its values
below : (b : ℕ) (xs : List ℕ) → AllBelow b xs → list_all (λ v. nat_lt v b) xs ≡ true
below b [] h = refl
below b (x ∷ xs) h = and_from _ _ (let l = h.0 in grind (arith, nat_tests)) (below b xs h.1)

full : (n arity : ℕ) (used : Bool) (len : ℕ) → len ≡ cells_for n arity used → (len == 0) ≡ false → len ≡ n ^ arity
full n arity true len e z = e
full n arity false len e z = absurd (grind (arith, nat_tests))

one_filled : (b : Bool) (n : ℕ) (s : Symbol) (used : Bool) (l : Listing) (es : List NamedTable) → (length l.values == 0) ≡ b → IsListing n s used l → list_all (is_filled n) es ≡ true
    → list_all (is_filled n) (if b then es else table l.kind s.name s.arity l.values ∷ es) ≡ true
one_filled true n s used l es z i h = h
one_filled false n s used l es z i h =
    let size = full n s.arity used (length l.values) i.1 z in
    let under : AllBelow (bound_of n l.kind) l.values = rw i.0 i.2 in
    and_from _ _ (and_from _ _ (grind (arith, nat_tests)) (below (bound_of n l.kind) l.values under)) h

pub all_filled : (n : ℕ) (ss : List Symbol) (ls : List Listing) → AreRows n ss ls → list_all (is_filled n) (named ss ls) ≡ true
all_filled n [] ls a = refl
all_filled n (s ∷ ss) [] a = refl
all_filled n (s ∷ ss) (l ∷ ls) a = one_filled (length l.values == 0) n s a.0.0 l (named ss ls) refl a.0.1 (all_filled n ss ls a.1)

-- and can be printed
pub small_bound : (n : ℕ) (kind : Kind) → n ≤ 200 → bound_of n kind ≤ 1000000000
small_bound n Function h = omega (arith, h)
small_bound n Relation h = omega arith

pub all_small : (b : ℕ) (xs : List ℕ) → b ≤ 1000000000 → AllBelow b xs → AllBelow 1000000000 xs
all_small b [] l h = tt
all_small b (x ∷ xs) l h = (omega (arith, h.0, l), all_small b xs l h.1)

one_plain : (b : Bool) (n : ℕ) (s : Symbol) (used : Bool) (l : Listing) (es : List NamedTable) → n ≤ 200 → (length l.values == 0) ≡ b → IsListing n s used l → is_name s.name ≡ true → ArePlain es
    → ArePlain (if b then es else table l.kind s.name s.arity l.values ∷ es)
one_plain true n s used l es m z i w h = h
one_plain false n s used l es m z i w h =
    (record { name = w; some = grind (arith, nat_tests); small = all_small (bound_of n s.kind) l.values (small_bound n s.kind m) i.2 }, h)

pub all_plain : (n : ℕ) (ss : List Symbol) (ls : List Listing) → n ≤ 200 → AreRows n ss ls → are_named ss ≡ true → ArePlain (named ss ls)
all_plain n [] ls m a w = tt
all_plain n (s ∷ ss) [] m a w = tt
all_plain n (s ∷ ss) (l ∷ ls) m a w =
    let parts = and_parts (is_name s.name) (are_named ss) w in
    one_plain (length l.values == 0) n s a.0.0 l (named ss ls) m refl a.0.1 parts.0 (all_plain n ss ls m a.1 parts.1)
