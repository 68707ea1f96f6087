-- The operators of the texts of clauses.
use Rattle.std.proofs.Common.{◌≡◌, ℕ, zero, suc, ◌+◌, ◌^◌, ◌<◌, ◌≤◌, length, take, Bool, true, false, List, [], ◌∷◌, Option, Some, None, unwrap_or, slice_index_or, inl, inr, refl, sym, ap, ◌∙◌, arith}
use Rattle.std.specs.Prelude.{not, ◌&&◌, ◌||◌, ◌==◌, nat_le, slice_get, if◌then◌else◌, codes}
use Rattle.std.specs.Fmt.{decimal}
use Rattle.std.specs.List.{list_all, list_any}
use Rattle.std.specs.Str.{bytes_eq}
use Rattle.std.proofs.lemmas.Bool.{cases_Bool, and_from, and_parts, or_left, or_right, both_ways, not-true, eq-eqb, cases_lt}
use Rattle.std.proofs.lemmas.Bool.Decides.{nat_tests}
use Rattle.std.proofs.lemmas.List.{take_all}
use Rattle.std.proofs.lemmas.Option.{slice_get-get_or}
use Rattle.std.proofs.lemmas.Slice.Eq.{bytes_eq-Decides}
use Rattle.ladr_lex.specs.ClauseNames.{lettered, clause_variable, is_numbered, is_further, is_letter, is_clause_variable, is_clause_name, clause_operator, FreesVariables}
use Rattle.ladr_lex.specs.Numeral.{is_numeral, value}
use Rattle.ladr_lex.specs.OperatorView.{row_list}
use Rattle.ladr_lex.specs.Operators.{OperatorRow, operator_of, if_prefix, is_prefix, has_precedence, are_lawful, is_lawful_row, is_fixed, fixed, with_operator_row}
use Rattle.ladr_lex.specs.declared.operators.Operator.{Operator}
use Rattle.ladr_lex.proofs.Numerals.{numeral_decimal, value_decimal}
use Rattle.ladr_lex.proofs.OperatorLemmas.{operator_put}

-- a row of the code's table
pub row_entry : (names : List (List ℕ)) (os : List (Option Operator)) (i : ℕ) (name : List ℕ) → length names ≡ length os → slice_get names i ≡ Some name
    → slice_get (row_list names os) i ≡ Some (record { name = name; operator = unwrap_or (slice_get os i) None })
row_entry [] os i name h is = cc
row_entry (n ∷ ns) [] i name h is = absurd (omega (arith, h))
row_entry (n ∷ ns) (o ∷ os) zero name h is = ap (λ p. Some (record { name = unwrap_or p n; operator = o })) is
row_entry (n ∷ ns) (o ∷ os) (suc i) name h is = row_entry ns os i name (omega (arith, h)) is

pub row_at : (names : List (List ℕ)) (os : List (Option Operator)) (i : ℕ) (name : List ℕ) (o : Option Operator) → length names ≡ length os → slice_get names i ≡ Some name
    → i < length os → o ≡ slice_index_or os i o → slice_get (row_list names os) i ≡ Some (record { name = name; operator = o })
row_at names os i name o h is within there =
    row_entry names os i name h is ∙ ap (λ p. Some (record { name = name; operator = unwrap_or p None })) (slice_get-get_or os i o within)
    ∙ ap (λ p. Some (record { name = name; operator = p })) (sym there)

pub row_lawful : (rows : List OperatorRow) (i : ℕ) (r : OperatorRow) → are_lawful rows ≡ true → slice_get rows i ≡ Some r → is_lawful_row r ≡ true
row_lawful [] i r l h = cc
row_lawful (s ∷ rs) zero r l h = ap (λ (x : OperatorRow). is_lawful_row x) (let e : r ≡ s = cc in e) ∙ (and_parts _ _ (and_parts _ _ l).0).0
row_lawful (s ∷ rs) (suc i) r l h = row_lawful rs i r (and_parts _ _ l).1 h

-- the rows before it have other names
others_of : (s : OperatorRow) (rs : List OperatorRow) (i : ℕ) (r : OperatorRow) → list_all (λ t. not (bytes_eq s.name t.name)) rs ≡ true → slice_get rs i ≡ Some r → bytes_eq s.name r.name ≡ false
others_of s [] i r a h = cc
others_of s (t ∷ rs) zero r a h =
    let e : r ≡ t = cc in
    ap (λ (x : OperatorRow). bytes_eq s.name x.name) e ∙ elim (cases_Bool (bytes_eq s.name t.name)) [
      | inl y ↦ absurd (both_ways (not (bytes_eq s.name t.name)) (ap not y) (and_parts (not (bytes_eq s.name t.name)) (list_all (λ u. not (bytes_eq s.name u.name)) rs) a).0)
      | inr n ↦ n
    ]
others_of s (t ∷ rs) (suc i) r a h = others_of s rs i r (and_parts (not (bytes_eq s.name t.name)) (list_all (λ u. not (bytes_eq s.name u.name)) rs) a).1 h

-- the rows with one row more
pub row_more : (rows : List OperatorRow) (i : ℕ) (r : OperatorRow) (x : List ℕ) → are_lawful rows ≡ true → slice_get rows i ≡ Some r
    → operator_of (take (suc i) rows) x ≡ (if bytes_eq x r.name then r.operator else operator_of (take i rows) x)
row_more [] i r x l h = cc
row_more (s ∷ rs) zero r x l h = let e : s ≡ r = cc in ap (λ (t : OperatorRow). if bytes_eq x t.name then t.operator else None) e
row_more (s ∷ rs) (suc i) r x l h =
    let parts = and_parts _ _ l in
    let rest = row_more rs i r x parts.1 h in
    elim (cases_Bool (bytes_eq x s.name)) [
      | inl y ↦ (let e = (bytes_eq-Decides x s.name).0 y in
          let n : bytes_eq x r.name ≡ false = ap (λ (t : List ℕ). bytes_eq t r.name) e ∙ others_of s rs i r (and_parts _ _ parts.0).1 h in
          rw (y, n) refl)
      | inr n ↦ rw n rest
    ]

pub kept_precedence : (prolog : Bool) (name : List ℕ) (o : Option Operator) → has_precedence o ≡ true → has_precedence (clause_operator prolog name o) ≡ true
kept_precedence prolog name None h = refl
kept_precedence prolog name (Some o) h =
    elim (cases_Bool (is_prefix o.kind && is_clause_name prolog name)) [ inl y ↦ rw y refl | inr n ↦ rw n h ]

-- one more row is put
pub next_put : (prolog : Bool) (rows old new : List OperatorRow) (i : ℕ) (r : OperatorRow) → are_lawful rows ≡ true → slice_get rows i ≡ Some r
    → new ≡ with_operator_row r.name (clause_operator prolog r.name r.operator) old → ((x : List ℕ) → operator_of old x ≡ clause_operator prolog x (operator_of (take i rows) x))
    → (x : List ℕ) → operator_of new x ≡ clause_operator prolog x (operator_of (take (i + 1) rows) x)
next_put prolog rows old new i r l h made before x =
    let more : operator_of (take (i + 1) rows) x ≡ (if bytes_eq x r.name then r.operator else operator_of (take i rows) x) =
    ap (λ (n : ℕ). operator_of (take n rows) x) {x = i + 1} {y = suc i} (omega arith) ∙ row_more rows i r x l h in
    ap (λ (rs : List OperatorRow). operator_of rs x) made ∙ operator_put old r.name (clause_operator prolog r.name r.operator) x
    ∙ elim (cases_Bool (bytes_eq x r.name)) [
      | inl y ↦ (let e = (bytes_eq-Decides x r.name).0 y in
          let m : operator_of (take (i + 1) rows) x ≡ r.operator = more ∙ rw y refl in
          rw y ((λ j. clause_operator prolog (sym e j) r.operator) ∙ ap (clause_operator prolog x) (sym m)))
      | inr n ↦ (let m : operator_of (take (i + 1) rows) x ≡ operator_of (take i rows) x = more ∙ rw n refl in
          rw n (before x ∙ ap (clause_operator prolog x) (sym m)))
    ]

-- all rows are put
pub all_of : (prolog : Bool) (rows ops : List OperatorRow) (i : ℕ) → length rows ≤ i → ((x : List ℕ) → operator_of ops x ≡ clause_operator prolog x (operator_of (take i rows) x))
    → (x : List ℕ) → operator_of ops x ≡ clause_operator prolog x (operator_of rows x)
all_of prolog rows ops i h all x = all x ∙ ap (λ (rs : List OperatorRow). clause_operator prolog x (operator_of rs x)) (take_all i rows h)

pub length_rows : (names : List (List ℕ)) (os : List (Option Operator)) → length names ≡ length os → length (row_list names os) ≡ length os
length_rows [] [] h = refl
length_rows [] (o ∷ os) h = absurd (omega (arith, h))
length_rows (n ∷ ns) [] h = refl
length_rows (n ∷ ns) (o ∷ os) h = ap suc (length_rows ns os (omega (arith, h)))

-- the name of a clause's variable is one
first_letter : (ls : List ℕ) (n : ℕ) (other : List ℕ) → n < length ls → is_letter ls (lettered (slice_get ls n) other) ≡ true
first_letter [] n other h = absurd (omega arith)
first_letter (l ∷ ls) zero other h = or_left (l == l) _ (eq-eqb l l refl)
first_letter (l ∷ ls) (suc n) other h = more (slice_get ls n) (there ls n (omega arith)) (first_letter ls n other (omega arith))
  where
    there : (ks : List ℕ) (k : ℕ) → k < length ks → (c : ℕ) × (slice_get ks k ≡ Some c)
    there [] k h = absurd (omega arith)
    there (c ∷ ks) zero h = (c, refl)
    there (c ∷ ks) (suc k) h = there ks k (omega arith)

    more : (o : Option ℕ) → (c : ℕ) × (o ≡ Some c) → is_letter ls (lettered o other) ≡ true → is_letter (l ∷ ls) (lettered o other) ≡ true
    more None s a = absurd (cc s.1)
    more (Some c) s a = or_right (c == l) _ a

past : (ls : List ℕ) (n : ℕ) → length ls ≤ n → slice_get ls n ≡ None
past [] n h = refl
past (l ∷ ls) zero h = absurd (omega arith)
past (l ∷ ls) (suc n) h = past ls n (omega arith)

further : (l n : ℕ) → 5 ≤ n → n < 2 ^ 64 → is_further (l ∷ []) (l ∷ decimal n) ≡ true
further l n h m =
    and_from ((l == l || false) && is_numeral (decimal n)) (nat_le 5 (value (decimal n)))
    (and_from (l == l || false) (is_numeral (decimal n)) (or_left (l == l) false (eq-eqb l l refl)) (numeral_decimal n m))
    (ap (nat_le 5) (value_decimal n m) ∙ grind (arith, nat_tests))

named : (ls : List ℕ) (l n : ℕ) → length ls ≡ 5 → n < 2 ^ 64 → (is_letter ls (lettered (slice_get ls n) (l ∷ decimal n)) || is_further (l ∷ []) (lettered (slice_get ls n) (l ∷ decimal n))) ≡ true
named ls l n five m =
    elim (cases_lt n 5) [
      | inl small ↦ or_left _ _ (first_letter ls n (l ∷ decimal n) (omega arith))
      | inr great ↦ (let none = past ls n (omega arith) in rw none (or_right (is_letter ls (l ∷ decimal n)) _ (further l n great m)))
    ]

is_variable : (prolog : Bool) (n : ℕ) → n < 2 ^ 64 → is_clause_variable prolog (clause_variable prolog n) ≡ true
is_variable true n h = named (codes "ABCDE") 86 n refl h
is_variable false n h = named (codes "xyzuw") 118 n refl h

no_prefix : (prolog : Bool) (name : List ℕ) (o : Option Operator) → is_clause_name prolog name ≡ true → if_prefix (clause_operator prolog name o) ≡ None
no_prefix prolog name None h = refl
no_prefix prolog name (Some o) h =
    elim (cases_Bool (is_prefix o.kind)) [
      | inl y ↦ rw (y, h) refl
      | inr n ↦ rw (n, n) refl
    ]

pub frees : (prolog : Bool) (rows ops : List OperatorRow) → ((x : List ℕ) → operator_of ops x ≡ clause_operator prolog x (operator_of rows x)) → FreesVariables prolog ops
frees prolog rows ops h n small =
    let x = clause_variable prolog n in
    ap if_prefix (h x) ∙ no_prefix prolog x (operator_of rows x) (or_left (is_clause_variable prolog x || is_numbered 99 x) _ (or_left _ _ (is_variable prolog n small)))

-- no fixed symbol is named so
of_each : (p : List ℕ → Bool) (name : List ℕ) (fs : List (List ℕ)) → list_all p fs ≡ true → list_any (λ f. bytes_eq f name) fs ≡ true → p name ≡ true
of_each p name [] all any = cc
of_each p name (f ∷ fs) all any =
    let parts = and_parts (p f) (list_all p fs) all in
    elim (cases_Bool (bytes_eq f name)) [
      | inl y ↦ ap p (sym ((bytes_eq-Decides f name).0 y)) ∙ parts.0
      | inr n ↦ of_each p name fs parts.1 (sym (rw n refl) ∙ any)
    ]

unnamed : (prolog : Bool) → list_all (λ f. not (is_clause_name prolog f)) fixed ≡ true
unnamed true = refl
unnamed false = refl

keeps : (prolog : Bool) (name : List ℕ) (o : Option Operator) → is_clause_name prolog name ≡ false → clause_operator prolog name o ≡ o
keeps prolog name None h = refl
keeps prolog name (Some o) h =
    elim (cases_Bool (is_prefix o.kind)) [
      | inl y ↦ rw (y, h) refl
      | inr n ↦ rw n refl
    ]

pub keeps_fixed : (prolog : Bool) (rows ops : List OperatorRow) → ((x : List ℕ) → operator_of ops x ≡ clause_operator prolog x (operator_of rows x))
    → (name : List ℕ) → is_fixed name ≡ true → operator_of ops name ≡ operator_of rows name
keeps_fixed prolog rows ops h name f = h name ∙ keeps prolog name (operator_of rows name) (not-true _ (of_each (λ x. not (is_clause_name prolog x)) name fixed (unnamed prolog) f))
