-- The misuse of the least row that is met as a term is read is that of the least row that it breaks.
use Rattle.std.proofs.Common.{◌≡◌, ℕ, suc, ◌≤◌, ◌==◌, Bool, true, false, List, [], ◌∷◌, ◌++◌, length, Option, Some, None, refl, sym, ap, ◌∙◌, Result, Ok, Err, ltb-true, ltb-false, arith}
use Rattle.std.specs.Prelude.{not, ◌||◌, ◌&&◌, is_some, min, nat_lt, if◌then◌else◌, IfOk, codes}
use Rattle.std.specs.List.{list_any}
use Rattle.std.specs.Str.{bytes_eq}
use Rattle.std.proofs.lemmas.List.Folds.{list_any-append}
use Rattle.fol_core.specs.Fol.{Fol, verum, falsum, negation}
use Rattle.fol_core.specs.RawTree.{RawTree, named, quantified, RawTrees, no_raws, more_raws}
use Rattle.fol_core.specs.SymbolTable.{Symbol, symbol, is_clash, KeepsNumbers}
use Rattle.fol_core.specs.Tree.{Tree, elem, app, none}
use Rattle.fol_core.specs.declared.symbols.Kind.{Kind}
use Rattle.fol_core.specs.declared.symbols.Kind.TheVariants.{Function, Relation}
use Rattle.ladr_lex.specs.Misuses.{misuse_row, earlier}
use Rattle.ladr_lex.specs.Numeral.{is_numeral, limited_number_of}
use Rattle.ladr_lex.specs.declared.limits.TheConstants.{MOST_ELEMENT}
use Rattle.ladr_lex.specs.declared.misuse.Misuse.{Misuse}
use Rattle.ladr_lex.specs.declared.misuse.Misuse.TheVariants.{UnknownFlag, UnknownParameter, UnfitValue, UnknownList, UnfitOperator, UnfitSymbol, TooLate, UnmatchedIf, TwoKinds, VariableAsFormula, QuantifierInTerm, UnfitAttribute, UnfitHint, UnfitDemodulator, UnfitRule, UnfitNumeral, UnfitInterpretation, Uncovered, VariableAmongNames}
use Rattle.ladr_formulas.specs.Counting.{names_bound}
use Rattle.ladr_formulas.specs.Broken.{broken_if, broken_by_term, broken_by_terms, broken_by_relation, broken_by_compared, broken_by_formula, broken_by_symbols, broken, broken_outside, least_of}
use Rattle.ladr_formulas.specs.Formulas.{Reading, Made, Bound, Style, meets, bound_number, free_number, is_variable, with_variable, variable_number, reading_with_name, named_variable, with_symbol, symbol_number, arity_of, is_too_great, is_element, constant_as, term_of, terms_of, relation_of, sentence_as, equation_read, under, is_denial, connective_of, connective_read, joined_by, by_connective, comparison, formula_in, unread, formula_reading}
use Rattle.ladr_formulas.specs.Occurring.{stands_for_variable, symbols_of_term, symbols_of_terms, symbols_of_relation, symbols_compared, in_order, occurring}
use Rattle.ladr_formulas.specs.Whole.{IsWhole}
use Rattle.ladr_formulas.specs.declared.formulas.FormulaRead.{FormulaRead}
use Rattle.ladr_formulas.specs.declared.connectives.Connective.{Connective}
use Rattle.ladr_formulas.specs.declared.connectives.Connective.TheVariants.{And, Or, IfThen, ThenIf, IfAndOnlyIf}
use Rattle.ladr_formulas.proofs.Behind.{stands}
use Rattle.ladr_formulas.proofs.Growing.{Grows, grows_term, grows_terms, grows_formula}
use Rattle.ladr_formulas.proofs.OrderLemmas.{same_variable}

-- the row of a misuse, or a greater number
abbrev low : Option Misuse → ℕ
low None = 20
low (Some m) = misuse_row m

abbrev lowest : List Misuse → ℕ
lowest [] = 20
lowest (m ∷ ms) = min (misuse_row m) (lowest ms)

abbrev misuse_at : ℕ → Option Misuse
misuse_at n =
    if n == 1 then Some UnknownFlag
    else (if n == 2 then Some UnknownParameter
    else (if n == 3 then Some UnfitValue
    else (if n == 4 then Some UnknownList
    else (if n == 5 then Some UnfitOperator
    else (if n == 6 then Some UnfitSymbol
    else (if n == 7 then Some TooLate
    else (if n == 8 then Some UnmatchedIf
    else (if n == 9 then Some TwoKinds
    else (if n == 10 then Some VariableAsFormula
    else (if n == 11 then Some QuantifierInTerm
    else (if n == 12 then Some UnfitAttribute
    else (if n == 13 then Some UnfitHint
    else (if n == 14 then Some UnfitDemodulator
    else (if n == 15 then Some UnfitRule
    else (if n == 16 then Some UnfitNumeral
    else (if n == 17 then Some UnfitInterpretation
    else (if n == 18 then Some Uncovered
    else (if n == 19 then Some VariableAmongNames else None))))))))))))))))))

-- a misuse is told by its row
record IsAtRow (m : Misuse) : Type 0 where
  told : misuse_at (misuse_row m) ≡ Some m
  small : misuse_row m ≤ 19

at_row : (m : Misuse) → IsAtRow m
at_row UnknownFlag = record { told = refl; small = omega arith }
at_row UnknownParameter = record { told = refl; small = omega arith }
at_row UnfitValue = record { told = refl; small = omega arith }
at_row UnknownList = record { told = refl; small = omega arith }
at_row UnfitOperator = record { told = refl; small = omega arith }
at_row UnfitSymbol = record { told = refl; small = omega arith }
at_row TooLate = record { told = refl; small = omega arith }
at_row UnmatchedIf = record { told = refl; small = omega arith }
at_row TwoKinds = record { told = refl; small = omega arith }
at_row VariableAsFormula = record { told = refl; small = omega arith }
at_row QuantifierInTerm = record { told = refl; small = omega arith }
at_row UnfitAttribute = record { told = refl; small = omega arith }
at_row UnfitHint = record { told = refl; small = omega arith }
at_row UnfitDemodulator = record { told = refl; small = omega arith }
at_row UnfitRule = record { told = refl; small = omega arith }
at_row UnfitNumeral = record { told = refl; small = omega arith }
at_row UnfitInterpretation = record { told = refl; small = omega arith }
at_row Uncovered = record { told = refl; small = omega arith }
at_row VariableAmongNames = record { told = refl; small = omega arith }

low_told : (o : Option Misuse) → misuse_at (low o) ≡ o
low_told None = refl
low_told (Some m) = (at_row m).told

same_low : (a b : Option Misuse) → low a ≡ low b → a ≡ b
same_low a b e = sym (low_told a) ∙ ap misuse_at e ∙ low_told b

low_earlier : (m : Misuse) (o : Option Misuse) → misuse_row (earlier m o) ≡ min (misuse_row m) (low o)
low_earlier m None = let s = (at_row m).small in omega (arith, s)
low_earlier m (Some n) = by (nat_lt (misuse_row n) (misuse_row m)) refl
  where
    by : (c : Bool) → nat_lt (misuse_row n) (misuse_row m) ≡ c → misuse_row (if c then n else m) ≡ min (misuse_row m) (misuse_row n)
    by true e = let h = ltb-true (misuse_row n) (misuse_row m) e in omega (arith, h)
    by false e = let h = ltb-false (misuse_row n) (misuse_row m) e in omega (arith, h)

low_least : (ms : List Misuse) → low (least_of ms) ≡ lowest ms
low_least [] = refl
low_least (m ∷ ms) = low_earlier m (least_of ms) ∙ ap (min (misuse_row m)) (low_least ms)

lowest_small : (ms : List Misuse) → lowest ms ≤ 20
lowest_small [] = omega arith
lowest_small (m ∷ ms) = let s = lowest_small ms in omega (arith, s)

lowest_both : (ms ns : List Misuse) → lowest (ms ++ ns) ≡ min (lowest ms) (lowest ns)
lowest_both [] ns = let s = lowest_small ns in omega (arith, s)
lowest_both (m ∷ ms) ns = let e = lowest_both ms ns in omega (arith, e)

low_small : (o : Option Misuse) → low o ≤ 20
low_small None = omega arith
low_small (Some m) = let s = (at_row m).small in omega (arith, s)

low_met : (test : Bool) (row : Misuse) (s : Reading) → low (meets test row s).least ≡ min (low s.least) (lowest (broken_if test row))
low_met true row s =
    let e = low_earlier row s.least in
    let k = (at_row row).small in
    omega (arith, e, k)
low_met false row s = let k = low_small s.least in omega (arith, k)

-- a row where a test says so, and a greater number else
abbrev row_if : ℕ → Bool → ℕ
row_if n b = if b then n else 20

or_row : (n : ℕ) → n ≤ 20 → (a b : Bool) → row_if n (a || b) ≡ min (row_if n a) (row_if n b)
or_row n h true true = omega (arith, h)
or_row n h true false = omega (arith, h)
or_row n h false true = omega (arith, h)
or_row n h false false = omega arith

pair_is : (a b : Bool) → lowest (broken_if a UnfitAttribute ++ broken_if b TwoKinds) ≡ min (row_if 12 a) (row_if 9 b)
pair_is true true = refl
pair_is true false = refl
pair_is false true = refl
pair_is false false = refl

one_is : (a b : Bool) → min (row_if 12 (a || false)) (row_if 9 (b || false)) ≡ min (lowest (broken_if a UnfitAttribute)) (lowest (broken_if b TwoKinds))
one_is true true = refl
one_is true false = refl
one_is false true = refl
one_is false false = refl

-- what a name without arguments is, where it is a variable, breaks nothing
named_low : (scope : List Bound) (name : List ℕ) (s : Reading) → (reading_with_name scope name s).least ≡ s.least
named_low scope name s = by (is_some (bound_number scope name) || is_some (free_number 0 s.variables name))
  where
    by : (b : Bool) → (if b then s else with_variable name true s).least ≡ s.least
    by true = refl
    by false = refl

record IsNamed (st : Style) (scope : List Bound) (name : List ℕ) (s : Reading) (m : Made (Option ℕ)) : Type 0 where
  found : is_some m.tree ≡ stands_for_variable st (names_bound scope) name
  same : m.reading.least ≡ s.least

variable_named : (st : Style) (scope : List Bound) (name : List ℕ) (s : Reading) → IsNamed st scope name s (named_variable st scope name s)
unfolding named_variable
variable_named st scope name s = by (is_variable st scope name) (same_variable st scope name)
  where
    by : (b : Bool) → b ≡ stands_for_variable st (names_bound scope) name → IsNamed st scope name s (if b then record { tree = Some (variable_number scope name s); reading = reading_with_name scope name s } else record { tree = None; reading = s })
    by true e = record { found = e; same = named_low scope name s }
    by false e = record { found = e; same = refl }

-- a name that is no element's is not too great for one
not_too_great : (st : Style) (name : List ℕ) → is_element st name ≡ false → is_too_great st name ≡ false
not_too_great st name e = by st.elements (is_numeral name) (nat_lt MOST_ELEMENT (limited_number_of name)) e
  where
    by : (a b c : Bool) → (a && b) ≡ false → (a && b && c) ≡ false
    by true true c e = cc
    by true false c e = refl
    by false b c e = refl

-- up to a last table
module _ (st : Style) (T : List Symbol) where
  abbrev Kept : Reading → Type 0
  Kept s = KeepsNumbers s.symbols T

  kept_before : (a b : Reading) → Grows a b → Kept b → Kept a
  kept_before a b g k n s h = k n s (g.symbols n s h)

  abbrev by_symbols : List Symbol → ℕ
  by_symbols ss = lowest (broken_by_symbols T ss)

  abbrev is_hash : Symbol → Bool
  is_hash s = bytes_eq s.name (codes "#")

  abbrev clashes : Symbol → Bool
  clashes s = is_clash T s

  symbols_both : (xs ys : List Symbol) → by_symbols (xs ++ ys) ≡ min (by_symbols xs) (by_symbols ys)
  symbols_both xs ys =
      let a = pair_is (list_any is_hash xs) (list_any clashes xs) in
      let b = pair_is (list_any is_hash ys) (list_any clashes ys) in
      let c = pair_is (list_any is_hash (xs ++ ys)) (list_any clashes (xs ++ ys)) in
      let h = ap (row_if 12) (list_any-append is_hash xs ys) ∙ or_row 12 (omega arith) (list_any is_hash xs) (list_any is_hash ys) in
      let k = ap (row_if 9) (list_any-append clashes xs ys) ∙ or_row 9 (omega arith) (list_any clashes xs) (list_any clashes ys) in
      omega (arith, a, b, c, h, k)

  symbol_low : (name : List ℕ) (arity : ℕ) (kind : Kind) (s : Reading) → Kept (with_symbol name arity kind s) → low (with_symbol name arity kind s).least ≡ min (low s.least) (by_symbols (symbol name arity kind ∷ []))
  symbol_low name arity kind s k =
      let x : Symbol = symbol name arity kind in
      let one = low_met (is_clash s.symbols x) TwoKinds s in
      let two = low_met (is_hash x) UnfitAttribute (meets (is_clash s.symbols x) TwoKinds s) in
      let same = ap (λ (b : Bool). lowest (broken_if b TwoKinds)) (stands s.symbols T x k).clash in
      let all = pair_is (is_hash x || false) (clashes x || false) ∙ one_is (is_hash x) (clashes x) in
      omega (arith, one, two, same, all)

  constant_low : (name : List ℕ) (o : Option ℕ) (s : Reading) → Kept (constant_as st name o s).reading
      → low (constant_as st name o s).reading.least ≡ min (low s.least) (min (lowest (broken_if (not (is_some o) && is_too_great st name) UnfitNumeral)) (by_symbols (if is_some o || is_element st name then [] else symbol name 0 Function ∷ [])))
  constant_low name (Some n) s k = let h = low_small s.least in omega (arith, h)
  constant_low name None s k = by (is_element st name) refl k
    where
      made : Bool → Made Tree
      made b = if b then record { tree = elem (limited_number_of name); reading = meets (is_too_great st name) UnfitNumeral s } else record { tree = app (symbol_number name 0 (with_symbol name 0 Function s)) none; reading = with_symbol name 0 Function s }

      by : (b : Bool) → is_element st name ≡ b → Kept (made b).reading
          → low (made b).reading.least ≡ min (low s.least) (min (lowest (broken_if (is_too_great st name) UnfitNumeral)) (by_symbols (if b then [] else symbol name 0 Function ∷ [])))
      by true e k =
          let m = low_met (is_too_great st name) UnfitNumeral s in
          let h = lowest_small (broken_if (is_too_great st name) UnfitNumeral) in
          omega (arith, m, h)
      by false e k =
          let m = symbol_low name 0 Function s k in
          let h = ap (λ (c : Bool). lowest (broken_if c UnfitNumeral)) (not_too_great st name e) in
          let u = lowest_small (broken_by_symbols T (symbol name 0 Function ∷ [])) in
          omega (arith, m, h, u)

  mutual
    term_low : (b : List Bound) (s : Reading) (t : RawTree) → Kept (term_of st b s t).reading
        → low (term_of st b s t).reading.least ≡ min (low s.least) (min (lowest (broken_by_term st (names_bound b) t)) (by_symbols (symbols_of_term st (names_bound b) t)))
    term_low b s (quantified q x t) k =
        let m = low_met true QuantifierInTerm s in
        let e = term_low (record { name = x; number = length s.variables } ∷ b) (with_variable x false (meets true QuantifierInTerm s)) t k in
        omega (arith, m, e)
    term_low b s (named name no_raws) k =
        let v = named_variable st b name s in
        let is = variable_named st b name s in
        constant_low name v.tree v.reading k ∙
        (λ i. min (low (is.same i)) (min (lowest (broken_if (not (is.found i) && is_too_great st name) UnfitNumeral)) (by_symbols (if is.found i || is_element st name then [] else symbol name 0 Function ∷ []))))
    term_low b s (named name (more_raws t ts)) k =
        let met = meets (is_too_great st name) UnfitNumeral s in
        let after = with_symbol name (suc (arity_of ts)) Function met in
        let x : Symbol = symbol name (suc (arity_of ts)) Function in
        let m = low_met (is_too_great st name) UnfitNumeral s in
        let y = symbol_low name (suc (arity_of ts)) Function met (kept_before after _ (grows_terms st b after (more_raws t ts)) k) in
        let e = terms_low b after (more_raws t ts) k in
        let l = lowest_both (broken_if (is_too_great st name) UnfitNumeral) (broken_by_terms st (names_bound b) (more_raws t ts)) in
        let z = symbols_both (x ∷ []) (symbols_of_terms st (names_bound b) (more_raws t ts)) in
        omega (arith, m, y, e, l, z)

    terms_low : (b : List Bound) (s : Reading) (ts : RawTrees) → Kept (terms_of st b s ts).reading
        → low (terms_of st b s ts).reading.least ≡ min (low s.least) (min (lowest (broken_by_terms st (names_bound b) ts)) (by_symbols (symbols_of_terms st (names_bound b) ts)))
    terms_low b s no_raws k = let h = low_small s.least in omega (arith, h)
    terms_low b s (more_raws t ts) k =
        let first = term_of st b s t in
        let e = term_low b s t (kept_before first.reading _ (grows_terms st b first.reading ts) k) in
        let f = terms_low b first.reading ts k in
        let l = lowest_both (broken_by_term st (names_bound b) t) (broken_by_terms st (names_bound b) ts) in
        let z = symbols_both (symbols_of_term st (names_bound b) t) (symbols_of_terms st (names_bound b) ts) in
        omega (arith, e, f, l, z)

  -- what reads a formula breaks these rows, and others by these symbols
  abbrev Breaks : (Reading → Made Fol) → List Misuse → List Symbol → Type 0
  Breaks f ms ss = (s : Reading) → Kept (f s).reading → low (f s).reading.least ≡ min (low s.least) (min (lowest ms) (by_symbols ss))

  abbrev Reads : (Reading → Made Fol) → Type 0
  Reads f = (s : Reading) → Grows s (f s).reading

  relation_low : (b : List Bound) (name : List ℕ) (ts : RawTrees) → Breaks (relation_of st b name ts) (broken_by_relation st (names_bound b) name ts) (symbols_of_relation st (names_bound b) name ts)
  relation_low b name ts s k =
      let met = meets (is_element st name) UnfitNumeral s in
      let after = with_symbol name (arity_of ts) Relation met in
      let x : Symbol = symbol name (arity_of ts) Relation in
      let m = low_met (is_element st name) UnfitNumeral s in
      let y = symbol_low name (arity_of ts) Relation met (kept_before after _ (grows_terms st b after ts) k) in
      let e = terms_low b after ts k in
      let l = lowest_both (broken_if (is_element st name) UnfitNumeral) (broken_by_terms st (names_bound b) ts) in
      let z = symbols_both (x ∷ []) (symbols_of_terms st (names_bound b) ts) in
      omega (arith, m, y, e, l, z)

  -- a formula without arguments, with the option that says whether its name is a variable
  abbrev broken_as : Bool → List ℕ → List Misuse
  broken_as v name = if v then VariableAsFormula ∷ [] else (if bytes_eq name (codes "$T") || bytes_eq name (codes "$F") then [] else broken_if (is_element st name) UnfitNumeral)

  abbrev symbols_as : Bool → List ℕ → List Symbol
  symbols_as v name = if v || bytes_eq name (codes "$T") || bytes_eq name (codes "$F") then [] else symbol name 0 Relation ∷ []

  sentence_low : (b : List Bound) (name : List ℕ) (o : Option ℕ) → Breaks (sentence_as st b name o) (broken_as (is_some o) name) (symbols_as (is_some o) name)
  sentence_low b name (Some n) s k = let m = low_met true VariableAsFormula s in let h = low_small s.least in omega (arith, m, h)
  sentence_low b name None s k = by (bytes_eq name (codes "$T")) (bytes_eq name (codes "$F")) k
    where
      made : Bool → Bool → Made Fol
      made a c = if a then record { tree = verum; reading = s } else (if c then record { tree = falsum; reading = s } else relation_of st b name no_raws s)

      by : (a c : Bool) → Kept (made a c).reading
          → low (made a c).reading.least ≡ min (low s.least) (min (lowest (if a || c then [] else broken_if (is_element st name) UnfitNumeral)) (by_symbols (if a || c then [] else symbol name 0 Relation ∷ [])))
      by true c k = let h = low_small s.least in omega (arith, h)
      by false true k = let h = low_small s.least in omega (arith, h)
      by false false k =
          let e = relation_low b name no_raws s k in
          let l = lowest_both (broken_if (is_element st name) UnfitNumeral) [] in
          let h = lowest_small (broken_if (is_element st name) UnfitNumeral) in
          omega (arith, e, l, h)

  equation_low : (b : List Bound) (t u : RawTree) → Breaks (equation_read st b t u) (broken_by_term st (names_bound b) t ++ broken_by_term st (names_bound b) u) (symbols_of_term st (names_bound b) t ++ symbols_of_term st (names_bound b) u)
  equation_low b t u s k =
      let left = term_of st b s t in
      let e = term_low b s t (kept_before left.reading _ (grows_term st b left.reading u) k) in
      let f = term_low b left.reading u k in
      let l = lowest_both (broken_by_term st (names_bound b) t) (broken_by_term st (names_bound b) u) in
      let z = symbols_both (symbols_of_term st (names_bound b) t) (symbols_of_term st (names_bound b) u) in
      omega (arith, e, f, l, z)

  comparison_low : (b : List Bound) (name : List ℕ) (t u : RawTree) → Breaks (comparison st b name t u) (broken_by_compared st (names_bound b) name t u) (symbols_compared st (names_bound b) name t u)
  comparison_low b name t u s k = by (bytes_eq name (codes "=")) (bytes_eq name (codes "!=")) k
    where
      other : RawTrees
      other = more_raws t (more_raws u no_raws)

      made : Bool → Bool → Made Fol
      made a c = if a then equation_read st b t u s else (if c then under negation (equation_read st b t u s) else relation_of st b name other s)

      by : (a c : Bool) → Kept (made a c).reading
          → low (made a c).reading.least ≡ min (low s.least) (min (lowest (if a || c then broken_by_term st (names_bound b) t ++ broken_by_term st (names_bound b) u else broken_by_relation st (names_bound b) name other))
          (by_symbols (if a || c then symbols_of_term st (names_bound b) t ++ symbols_of_term st (names_bound b) u else symbols_of_relation st (names_bound b) name other)))
      by true c k = equation_low b t u s k
      by false true k = equation_low b t u s k
      by false false k = relation_low b name other s k

  joined_low : (join : Fol → Fol → Fol) (f g : Reading → Made Fol) (ms ns : List Misuse) (xs ys : List Symbol) → Reads g → Breaks f ms xs → Breaks g ns ys → Breaks (connective_read join f g) (ms ++ ns) (xs ++ ys)
  joined_low join f g ms ns xs ys r a b s k =
      let e = a s (kept_before (f s).reading _ (r (f s).reading) k) in
      let h = b (f s).reading k in
      let l = lowest_both ms ns in
      let z = symbols_both xs ys in
      omega (arith, e, h, l, z)

  connected_low : (o : Option Connective) (f g h : Reading → Made Fol) (ms ns ps : List Misuse) (xs ys zs : List Symbol) → Reads f → Reads g
      → Breaks f ms xs → Breaks g ns ys → Breaks h ps zs → Breaks (by_connective o f g h) (in_order o ms ns ps) (in_order o xs ys zs)
  connected_low None f g h ms ns ps xs ys zs p q a b c s k = c s k
  connected_low (Some And) f g h ms ns ps xs ys zs p q a b c s k = joined_low (joined_by And) f g ms ns xs ys q a b s k
  connected_low (Some Or) f g h ms ns ps xs ys zs p q a b c s k = joined_low (joined_by Or) f g ms ns xs ys q a b s k
  connected_low (Some IfThen) f g h ms ns ps xs ys zs p q a b c s k = joined_low (joined_by IfThen) f g ms ns xs ys q a b s k
  connected_low (Some ThenIf) f g h ms ns ps xs ys zs p q a b c s k = joined_low (joined_by ThenIf) g f ns ms ys xs p b a s k
  connected_low (Some IfAndOnlyIf) f g h ms ns ps xs ys zs p q a b c s k = joined_low (joined_by IfAndOnlyIf) f g ms ns xs ys q a b s k

  formula_low : (b : List Bound) (t : RawTree) → Breaks (λ s. formula_in st b s t) (broken_by_formula st (names_bound b) t) (occurring st (names_bound b) t)
  formula_low b (quantified q x t) s k = formula_low (record { name = x; number = length s.variables } ∷ b) t (with_variable x false s) k
  formula_low b (named name no_raws) s k =
      let v = named_variable st b name s in
      let is = variable_named st b name s in
      sentence_low b name v.tree v.reading k ∙
      (λ i. min (low (is.same i)) (min (lowest (broken_as (is.found i) name)) (by_symbols (symbols_as (is.found i) name))))
  formula_low b (named name (more_raws t no_raws)) s k = by (is_denial name) (formula_low b t s) k
    where
      made : Bool → Made Fol
      made c = if c then under negation (formula_in st b s t) else relation_of st b name (more_raws t no_raws) s

      by : (c : Bool) → (Kept (formula_in st b s t).reading → low (formula_in st b s t).reading.least ≡ min (low s.least) (min (lowest (broken_by_formula st (names_bound b) t)) (by_symbols (occurring st (names_bound b) t))))
          → Kept (made c).reading
          → low (made c).reading.least ≡ min (low s.least) (min (lowest (if c then broken_by_formula st (names_bound b) t else broken_by_relation st (names_bound b) name (more_raws t no_raws)))
          (by_symbols (if c then occurring st (names_bound b) t else symbols_of_relation st (names_bound b) name (more_raws t no_raws))))
      by true part k = part k
      by false part k = relation_low b name (more_raws t no_raws) s k
  formula_low b (named name (more_raws t (more_raws u no_raws))) s k =
      let names = names_bound b in
      connected_low (connective_of name) (λ r. formula_in st b r t) (λ r. formula_in st b r u) (comparison st b name t u)
      (broken_by_formula st names t) (broken_by_formula st names u) (broken_by_compared st names name t u)
      (occurring st names t) (occurring st names u) (symbols_compared st names name t u)
      (λ r. grows_formula st b t r) (λ r. grows_formula st b u r) (formula_low b t) (formula_low b u) (comparison_low b name t u) s k
  formula_low b (named name (more_raws t (more_raws u (more_raws v ts)))) s k = relation_low b name (more_raws t (more_raws u (more_raws v ts))) s k

-- the misuse of the least row that is met is that of the least row that is broken
pub reading_least : (st : Style) (table : List Symbol) (t : RawTree) → (formula_reading st table t).reading.least ≡ least_of (broken st (formula_reading st table t).reading.symbols t)
reading_least st table t =
    let T = (formula_reading st table t).reading.symbols in
    let e = formula_low st T [] t (unread table) (λ n s h. h) in
    let l = lowest_both (broken_by_formula st [] t) (broken_by_symbols T (occurring st [] t)) in
    let m = low_least (broken st T t) in
    let h = lowest_small (broken st T t) in
    same_low _ _ (omega (arith, e, l, m, h))

pub terms_least : (st : Style) (table : List Symbol) (ts : RawTrees) → (terms_of st [] (unread table) ts).reading.least ≡ least_of (broken_outside st (terms_of st [] (unread table) ts).reading.symbols ts)
terms_least st table ts =
    let T = (terms_of st [] (unread table) ts).reading.symbols in
    let e = terms_low st T [] (unread table) ts (λ n s h. h) in
    let l = lowest_both (broken_by_terms st [] ts) (broken_by_symbols T (symbols_of_terms st [] ts)) in
    let m = low_least (broken_outside st T ts) in
    let h = lowest_small (broken_outside st T ts) in
    same_low _ _ (omega (arith, e, l, m, h))

-- so it is in what the code has
pub whole_least : {E : Type 0} (r : Result FormulaRead E) (st : Style) (table : List Symbol) (t : RawTree) (u : List Symbol) → IfOk r (λ f. IsWhole (formula_reading st table t) f u)
    → IfOk r (λ f. f.least ≡ least_of (broken st u t))
whole_least (Ok f) st table t u h = h.least ∙ reading_least st table t ∙ ap (λ (v : List Symbol). least_of (broken st v t)) (sym h.symbols)
whole_least (Err e) st table t u h = tt
