-- Tables of operators.
use Rattle.std.proofs.Common.{◌≡◌, ℕ, suc, ◌+◌, ◌<◌, length, drop, get_or, Bor, Bool, true, false, ◌||◌, List, [], ◌∷◌, ◌++◌, Option, Some, None, is_some, unwrap_or, slice_get, slice_set, slice_index_or, inl, inr, refl, sym, ap, ◌∙◌, arith}
use Rattle.std.specs.Prelude.{not, if◌then◌else◌}
use Rattle.std.specs.List.{list_all}
use Rattle.std.specs.Option.{option_map}
use Rattle.std.specs.Str.{bytes_eq}
use Rattle.std.proofs.lemmas.Bool.{cases_Bool, and_from, and_parts, or_parts, both_ways, not-true}
use Rattle.std.proofs.lemmas.List.{drop_more, length-append}
use Rattle.std.proofs.lemmas.Option.{slice_get_within}
use Rattle.std.proofs.lemmas.Slice.Eq.{bytes_eq-Decides}
use Rattle.fol_core.specs.NamesOnce.{is_in, with_name, place_in}
use Rattle.fol_core.specs.SymbolTable.{first_place}
use Rattle.fol_core.proofs.Places.{first_place_is_position, first_place-any, first_place-found}
use Rattle.ladr_lex.specs.Cuts.{is_plain_symbol, is_quoted}
use Rattle.ladr_lex.specs.OperatorView.{row_list, begins_usually, are_unusual, with_rows, may_be_put}
use Rattle.ladr_lex.specs.Operators.{OperatorRow, operator_of, is_quantifier_word, is_precedence, has_precedence, are_lawful, is_fixed, unquoted, is_unfit_symbol, declared, with_operator_row}
use Rattle.ladr_lex.specs.declared.operators.Operator.{Operator}
use Rattle.ladr_lex.specs.declared.operators.OperatorKind.{OperatorKind}
use Rattle.ladr_lex.specs.declared.token.TokenKind.{TokenKind}
use Rattle.ladr_lex.specs.declared.token.TokenKind.TheVariants.{Open, Close, LeftSquare, RightSquare, Comma, Stop, Ordinary, Quoted, Special, Unreadable}
use Rattle.ladr_lex.proofs.Wholes.{symbol_by_kind, quoted_by_kind, is_symbol_kind, is_quoted_kind}

-- the rows once the name at a place has another operator
put_first : (name : List ℕ) (o : Option Operator) (names : List (List ℕ)) (os : List (Option Operator)) (place : ℕ) → length names ≡ length os
    → first_place (λ n. bytes_eq name n) names ≡ Some place → row_list names (slice_set os place o) ≡ with_operator_row name o (row_list names os)
put_first name o [] os place h is = cc
put_first name o (n ∷ ns) [] place h is = absurd (omega (arith, h))
put_first name o (n ∷ ns) (p ∷ os) place h is = by (bytes_eq name n) (first_place (λ m. bytes_eq name m) ns) (λ m e. put_first name o ns os m (omega (arith, h)) e) is
  where
    by : (b : Bool) (found : Option ℕ) → ((m : ℕ) → found ≡ Some m → row_list ns (slice_set os m o) ≡ with_operator_row name o (row_list ns os))
        → (if b then Some 0 else option_map suc found) ≡ Some place
        → row_list (n ∷ ns) (slice_set (p ∷ os) place o) ≡ (if b then record { name = n; operator = o } ∷ row_list ns os else record { name = n; operator = p } ∷ with_operator_row name o (row_list ns os))
    by true found rest e = ap (λ q. row_list (n ∷ ns) (slice_set (p ∷ os) (unwrap_or q 0) o)) (sym e)
    by false None rest e = cc
    by false (Some m) rest e = ap (λ q. row_list (n ∷ ns) (slice_set (p ∷ os) (unwrap_or q 0) o)) (sym e) ∙ ap (λ rs. record { name = n; operator = p } ∷ rs) (rest m refl)

pub put_there : (name : List ℕ) (o : Option Operator) (names : List (List ℕ)) (os : List (Option Operator)) (place : ℕ) → length names ≡ length os
    → place_in name names ≡ Some place → row_list names (slice_set os place o) ≡ with_operator_row name o (row_list names os)
put_there name o names os place h is = put_first name o names os place h (first_place_is_position (λ n. bytes_eq name n) names ∙ is)

-- and those with a new name
put_last : (name : List ℕ) (o : Option Operator) (names : List (List ℕ)) (os : List (Option Operator)) → length names ≡ length os → is_in name names ≡ false
    → row_list (names ++ name ∷ []) (os ++ o ∷ []) ≡ with_operator_row name o (row_list names os)
put_last name o [] [] h new = refl
put_last name o [] (p ∷ os) h new = absurd (omega (arith, h))
put_last name o (n ∷ ns) [] h new = absurd (omega (arith, h))
put_last name o (n ∷ ns) (p ∷ os) h new =
    elim (cases_Bool (bytes_eq name n)) [
      | inl y ↦ absurd (let e : true ≡ false = sym (ap (λ b. b || is_in name ns) y) ∙ new in cc)
      | inr y ↦ rw y (ap (λ rs. record { name = n; operator = p } ∷ rs) (put_last name o ns os (omega (arith, h)) (sym (ap (λ b. b || is_in name ns) y) ∙ new)))
    ]

-- a name that has no place isn't there
pub absent : (name : List ℕ) (names : List (List ℕ)) → place_in name names ≡ None → is_in name names ≡ false
absent name names is = sym (first_place-any (λ n. bytes_eq name n) names) ∙ ap is_some (first_place_is_position (λ n. bytes_eq name n) names ∙ is)

pub put_new : (name : List ℕ) (o : Option Operator) (names : List (List ℕ)) (os : List (Option Operator)) → length names ≡ length os → place_in name names ≡ None
    → row_list (with_name name names) (os ++ o ∷ []) ≡ with_operator_row name o (row_list names os)
put_new name o names os h is =
    let new : is_in name names ≡ false = absent name names is in
    ap (λ b. row_list (if b then names else names ++ name ∷ []) (os ++ o ∷ [])) new ∙ put_last name o names os h new

-- the place of a name is one of the list
pub place_within : (name : List ℕ) (names : List (List ℕ)) (place : ℕ) → place_in name names ≡ Some place → place < length names
place_within name names place is =
    let found = first_place-found (λ n. bytes_eq name n) names place (first_place_is_position (λ n. bytes_eq name n) names ∙ is) in
    slice_get_within names place found.0 found.1

-- a list with one more at its end
pub length_more : {X : Type 0} {n : ℕ} (xs : List X) (x : X) → length xs ≡ n → length (xs ++ x ∷ []) ≡ suc n
length_more xs x h = length-append xs (x ∷ []) ∙ omega (arith, h)

-- and with a name that had no place
pub one_more : (name : List ℕ) (names : List (List ℕ)) → place_in name names ≡ None → length (with_name name names) ≡ suc (length names)
one_more name names is = ap (λ b. length (if b then names else names ++ name ∷ [])) (absent name names is) ∙ length_more names name refl

-- what the table has under a name
found_first : (name : List ℕ) (names : List (List ℕ)) (os : List (Option Operator)) (place : ℕ) → length names ≡ length os
    → first_place (λ n. bytes_eq name n) names ≡ Some place → operator_of (row_list names os) name ≡ unwrap_or (slice_get os place) None
found_first name [] os place h is = cc
found_first name (n ∷ ns) [] place h is = absurd (omega (arith, h))
found_first name (n ∷ ns) (p ∷ os) place h is = by (bytes_eq name n) (first_place (λ m. bytes_eq name m) ns) (λ m e. found_first name ns os m (omega (arith, h)) e) is
  where
    by : (b : Bool) (found : Option ℕ) → ((m : ℕ) → found ≡ Some m → operator_of (row_list ns os) name ≡ unwrap_or (slice_get os m) None)
        → (if b then Some 0 else option_map suc found) ≡ Some place
        → (if b then p else operator_of (row_list ns os) name) ≡ unwrap_or (slice_get (p ∷ os) place) None
    by true found rest e = ap (λ q. unwrap_or (slice_get (p ∷ os) (unwrap_or q 0)) None) e
    by false None rest e = cc
    by false (Some m) rest e = rest m refl ∙ ap (λ q. unwrap_or (slice_get (p ∷ os) (unwrap_or q 0)) None) e

pub found_row : (name : List ℕ) (names : List (List ℕ)) (os : List (Option Operator)) (place : ℕ) → length names ≡ length os
    → place_in name names ≡ Some place → operator_of (row_list names os) name ≡ unwrap_or (slice_get os place) None
found_row name names os place h is = found_first name names os place h (first_place_is_position (λ n. bytes_eq name n) names ∙ is)

pub no_row : (name : List ℕ) (names : List (List ℕ)) (os : List (Option Operator)) → place_in name names ≡ None → operator_of (row_list names os) name ≡ None
no_row name names os is = by names os (absent name names is)
  where
    by : (ns : List (List ℕ)) (ps : List (Option Operator)) → is_in name ns ≡ false → operator_of (row_list ns ps) name ≡ None
    by [] ps new = refl
    by (n ∷ ns) [] new = refl
    by (n ∷ ns) (p ∷ ps) new =
        elim (cases_Bool (bytes_eq name n)) [
          | inl y ↦ absurd (let e : true ≡ false = sym (ap (λ b. b || is_in name ns) y) ∙ new in cc)
          | inr y ↦ rw y (by ns ps (sym (ap (λ b. b || is_in name ns) y) ∙ new))
        ]

-- names that pass a test go on passing it
all_put : (p : List ℕ → Bool) (name : List ℕ) (o : Option Operator) (rs : List OperatorRow) → p name ≡ true → list_all (λ (r : OperatorRow). p r.name) rs ≡ true → list_all (λ (r : OperatorRow). p r.name) (with_operator_row name o rs) ≡ true
all_put p name o [] h a = and_from (p name) true h refl
all_put p name o (r ∷ rs) h a =
    let parts = and_parts (p r.name) _ a in
    elim (cases_Bool (bytes_eq name r.name)) [
      | inl y ↦ rw y a
      | inr y ↦ rw y (and_from (p r.name) _ parts.0 (all_put p name o rs h parts.1))
    ]

other_name : (name x : List ℕ) → bytes_eq name x ≡ false → not (bytes_eq x name) ≡ true
other_name name x h =
    elim (cases_Bool (bytes_eq x name)) [
      | inl y ↦ absurd (let e = (bytes_eq-Decides name x).1 (sym ((bytes_eq-Decides x name).0 y)) in cc)
      | inr y ↦ ap not y
    ]

-- a name that begins as none of them does has no operator
pub none_usual : (rs : List OperatorRow) (name : List ℕ) → are_unusual rs ≡ true → begins_usually name ≡ true → operator_of rs name ≡ None
none_usual [] name h b = refl
none_usual (r ∷ rs) name h b =
    let parts = and_parts (not (begins_usually r.name)) _ h in
    elim (cases_Bool (bytes_eq name r.name)) [
      | inl y ↦ absurd (both_ways (begins_usually r.name) (not-true _ parts.0) (ap (λ n. begins_usually n) (sym ((bytes_eq-Decides name r.name).0 y)) ∙ b))
      | inr y ↦ rw y (none_usual rs name parts.1 b)
    ]

-- names stay unusual
pub unusual_put : (name : List ℕ) (o : Option Operator) (rs : List OperatorRow) → begins_usually name ≡ false → are_unusual rs ≡ true → are_unusual (with_operator_row name o rs) ≡ true
unusual_put name o rs h a = all_put (λ x. not (begins_usually x)) name o rs (ap not h) a

-- a table stays lawful
pub lawful_put : (name : List ℕ) (o : Option Operator) (rs : List OperatorRow) → is_plain_symbol name ≡ true → is_quantifier_word name ≡ false → has_precedence o ≡ true → are_lawful rs ≡ true → are_lawful (with_operator_row name o rs) ≡ true
lawful_put name o [] s w p h = and_from _ true (and_from _ true (and_from _ _ (and_from _ _ s (ap not w)) p) refl) refl
lawful_put name o (r ∷ rs) s w p h =
    let outer = and_parts _ _ h in
    let inner = and_parts _ _ outer.0 in
    let row = and_parts _ _ inner.0 in
    elim (cases_Bool (bytes_eq name r.name)) [
      | inl y ↦ rw y (and_from _ _ (and_from _ _ (and_from _ _ row.0 p) inner.1) outer.1)
      | inr y ↦ rw y (and_from _ _ (and_from _ _ inner.0 (all_put (λ x. not (bytes_eq r.name x)) name o rs (other_name name r.name y) inner.1)) (lawful_put name o rs s w p outer.1))
    ]

-- a name has what it was given, and each other what it had
pub operator_put : (rs : List OperatorRow) (name : List ℕ) (o : Option Operator) (x : List ℕ) → operator_of (with_operator_row name o rs) x ≡ (if bytes_eq x name then o else operator_of rs x)
operator_put [] name o x = refl
operator_put (r ∷ rs) name o x =
    elim (cases_Bool (bytes_eq name r.name)) [
      | inl y ↦ (let same : name ≡ r.name = (bytes_eq-Decides name r.name).0 y in
          rw y (elim (cases_Bool (bytes_eq x r.name)) [
            | inl z ↦ (let k : bytes_eq x name ≡ true = ap (bytes_eq x) same ∙ z in rw (z, k) refl)
            | inr z ↦ (let k : bytes_eq x name ≡ false = ap (bytes_eq x) same ∙ z in rw (z, k) refl)
          ]))
      | inr y ↦ rw y (elim (cases_Bool (bytes_eq x r.name)) [
        | inl z ↦ (let k : bytes_eq x name ≡ false = other x r.name name ((bytes_eq-Decides x r.name).0 z) y in rw (z, k) refl)
        | inr z ↦ rw z (operator_put rs name o x)
      ])
    ]
  where
    other : (x s n : List ℕ) → x ≡ s → bytes_eq n s ≡ false → bytes_eq x n ≡ false
    other x s n e h =
        elim (cases_Bool (bytes_eq x n)) [
          | inl k ↦ absurd (let f = (bytes_eq-Decides n s).1 (sym ((bytes_eq-Decides x n).0 k) ∙ e) in cc)
          | inr k ↦ k
        ]

-- a quoted symbol is no name of the table
no_symbol : (text name : List ℕ) → is_quoted text ≡ true → is_plain_symbol name ≡ true → bytes_eq text name ≡ false
no_symbol text name q s =
    elim (cases_Bool (bytes_eq text name)) [
      | inl y ↦ absurd (let e = (bytes_eq-Decides text name).0 y in apart _ (sym (quoted_by_kind text) ∙ q) (sym (symbol_by_kind text) ∙ ap (λ t. is_plain_symbol t) e ∙ s))
      | inr y ↦ y
    ]
  where
    apart : (k : Option TokenKind) → is_quoted_kind k ≡ true → is_symbol_kind k ≡ true → ⊥
    apart (Some Quoted) a b = cc
    apart None a b = cc
    apart (Some Ordinary) a b = cc
    apart (Some Special) a b = cc
    apart (Some Open) a b = cc
    apart (Some Close) a b = cc
    apart (Some LeftSquare) a b = cc
    apart (Some RightSquare) a b = cc
    apart (Some Comma) a b = cc
    apart (Some Stop) a b = cc
    apart (Some Unreadable) a b = cc

pub quoted_none : (rs : List OperatorRow) (text : List ℕ) → are_lawful rs ≡ true → is_quoted text ≡ true → operator_of rs text ≡ None
quoted_none [] text h q = refl
quoted_none (r ∷ rs) text h q =
    let outer = and_parts _ _ h in
    let row = and_parts _ _ (and_parts _ _ (and_parts _ _ outer.0).0).0 in
    rw (no_symbol text r.name q row.0) (quoted_none rs text outer.1 q)

-- the next of the rows that are put
abbrev Put : Type 0
Put = Bor (List ℕ) × ℕ × OperatorKind

pub record Next (rows : List Put) (i : ℕ) (e : Put) (rs : List OperatorRow) : Type 0 where
  pub symbol : is_plain_symbol e.0.now ≡ true
  pub word : is_quantifier_word e.0.now ≡ false
  pub precedence : is_precedence e.1 ≡ true
  pub rest : with_rows (drop i rows) rs ≡ with_rows (drop (i + 1) rows) (with_operator_row e.0.now (Some (record { precedence = e.1; kind = e.2 })) rs)
  pub good : may_be_put (drop (i + 1) rows) ≡ true

pub next_row : (rows : List Put) (i : ℕ) (d : Put) (rs : List OperatorRow) → i < length rows → may_be_put (drop i rows) ≡ true → Next rows i (get_or rows i d) rs
next_row rows i d rs h good =
    let here = drop_more rows i d h in
    let parts = and_parts _ _ (ap may_be_put (sym here) ∙ good) in
    let e = and_parts _ _ parts.0 in
    let n = and_parts _ _ e.0 in
    record { symbol = n.0; word = not-true _ n.1; precedence = e.1; rest = ap (λ (l : List Put). with_rows l rs) here; good = parts.1 }

pub put_next : (rows : List Put) (i : ℕ) (d : Put) (o : Option Operator) (rs new whole : List OperatorRow) → i < length rows → may_be_put (drop i rows) ≡ true →
    o ≡ Some (record { precedence = (get_or rows i d).1; kind = (get_or rows i d).2 }) → new ≡ with_operator_row (get_or rows i d).0.now o rs → with_rows (drop i rows) rs ≡ whole →
    (with_rows (drop (i + 1) rows) new ≡ whole) × (may_be_put (drop (i + 1) rows) ≡ true)
put_next rows i d o rs new whole h good e made all =
    let next = next_row rows i d rs h good in
    (ap (with_rows (drop (i + 1) rows)) (made ∙ ap (λ (p : Option Operator). with_operator_row (get_or rows i d).0.now p rs) e) ∙ sym next.rest ∙ all, next.good)

-- a fixed symbol can't be declared
pub fixed_kept : (rs : List OperatorRow) (p : ℕ) (type symbol name : List ℕ) → is_unfit_symbol symbol ≡ false → is_fixed name ≡ true → operator_of (declared p type symbol rs) name ≡ operator_of rs name
fixed_kept rs p type symbol name free fixed =
    let n = unquoted symbol in
    let other : bytes_eq name n ≡ false = elim (cases_Bool (bytes_eq name n)) [
      | inl y ↦ absurd (let e : is_fixed n ≡ true = ap (λ (l : List ℕ). is_fixed l) (sym ((bytes_eq-Decides name n).0 y)) ∙ fixed in both_ways (is_fixed n) (or_parts (is_fixed n) _ free).0 e)
      | inr y ↦ y
    ] in
    operator_put rs n _ name ∙ rw other refl
