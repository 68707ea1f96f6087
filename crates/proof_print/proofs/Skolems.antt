-- Symbols of formulas, and Skolem symbols, are readable in clauses.
use Rattle.std.proofs.Common.{◌≡◌, ℕ, ◌<◌, ◌^◌, ◌⊎◌, Bool, true, false, List, [], ◌∷◌, Option, Some, None, slice_get, inl, inr, refl, sym, ap, ◌∙◌, subst, arith}
use Rattle.std.specs.Prelude.{◌&&◌, ◌||◌, if◌then◌else◌, codes}
use Rattle.std.specs.Str.{bytes_eq}
use Rattle.std.specs.Fmt.{decimal}
use Rattle.std.specs.List.{list_all}
use Rattle.std.specs.Option.{option_map_or}
use Rattle.std.specs.Char.{is_ascii_digit}
use Rattle.std.proofs.lemmas.Bool.{and_from}
use Rattle.std.proofs.lemmas.Bool.Decides.{nat_tests}
use Rattle.fol_core.specs.SymbolTable.{Symbol, name_at, arity_at}
use Rattle.fol_core.specs.Bound.{uses_symbol}
use Rattle.fol_core.specs.Fol.{Fol}
use Rattle.fol_core.specs.RawTree.{RawTree}
use Rattle.ladr_formulas.specs.Formulas.{Made, unread, formula_reading, is_free_name, style_of}
use Rattle.ladr_formulas.specs.declared.styles.Style.{Style}
use Rattle.ladr_formulas.specs.declared.styles.Mode.TheVariants.{Prover}
use Rattle.ladr_lex.specs.Bytes.{is_ordinary}
use Rattle.ladr_lex.specs.ClauseNames.{clause_operator, is_clause_name, is_clause_variable, is_numbered}
use Rattle.ladr_lex.specs.Lexeme.{ordinary}
use Rattle.ladr_lex.specs.Operators.{OperatorRow, operator_of, is_prefix, if_prefix}
use Rattle.ladr_lex.specs.declared.operators.Operator.{Operator}
use Rattle.ladr_lex.specs.declared.operators.OperatorKind.{OperatorKind}
use Rattle.ladr_lex.specs.declared.operators.OperatorKind.TheVariants.{Infix, InfixLeft, InfixRight, Prefix, PrefixParen, Postfix, PostfixParen}
use Rattle.ladr_print.specs.HasText.{CanStand, plain, before, behind, between, CanName, HasText}
use Rattle.ladr_print.specs.Precedences.{is_infix}
use Rattle.ladr_print.specs.FormulaText.{with_attribute}
use Rattle.ladr_print.proofs.Printing.{text_has}
use Rattle.ladr_reader.specs.Table.{OperatorTable, table_of}
use Rattle.proof_lines.proofs.WideNumerals.{numeral_wide, digits_wide}
use Rattle.proof_print.specs.Formulas.{IsReadFormula}
use Rattle.proof_print.specs.Names.{AreOfClauses, IsSkolemSymbol}
use Rattle.proof_print.specs.Rereadable.{ReadsAsItself, IsReadableSymbol, AreReadable}
use Rattle.proof_print.proofs.FormulaSymbols.{Fits, formula_is}

infix_after : (k : OperatorKind) → is_infix k ≡ true → is_prefix k ≡ false
infix_after Infix h = refl
infix_after InfixLeft h = refl
infix_after InfixRight h = refl
infix_after Prefix h = absurd (cc)
infix_after PrefixParen h = absurd (cc)
infix_after Postfix h = refl
infix_after PostfixParen h = refl

-- an operator that isn't before its argument stays
stays : (prolog : Bool) (s : List ℕ) (o : Operator) → is_prefix o.kind ≡ false → clause_operator prolog s (Some o) ≡ Some o
stays prolog s o h = ap (λ (b : Bool). if b && is_clause_name prolog s then None else Some o) h

-- no operator before its argument comes in
none_before : (prolog : Bool) (s : List ℕ) (o : Option Operator) → if_prefix o ≡ None → if_prefix (clause_operator prolog s o) ≡ None
none_before prolog s None h = refl
none_before prolog s (Some o) h = by (is_prefix o.kind) refl h
  where
    by : (b : Bool) → is_prefix o.kind ≡ b → (if b then Some o else None) ≡ None → if_prefix (clause_operator prolog s (Some o)) ≡ None
    by true e i = absurd (cc)
    by false e i = ap if_prefix (stays prolog s o e) ∙ ap (λ (b : Bool). if b then Some o else None) e

module _ (prolog : Bool) (formulas clauses : List OperatorRow) (are : AreOfClauses prolog formulas clauses) where
  is : (s : List ℕ) (o : Option Operator) → operator_of formulas s ≡ o → operator_of clauses s ≡ clause_operator prolog s o
  is s o e = are s ∙ ap (clause_operator prolog s) e

  stand : (s : List ℕ) (n : ℕ) → CanStand (table_of formulas) s n → CanStand (table_of clauses) s n
  stand s n (plain w f) = plain w (ap if_prefix (are s) ∙ none_before prolog s (operator_of formulas s) f)
  stand s n (before o w e h k) = by (is_clause_name prolog s) refl
    where
      by : (b : Bool) → is_clause_name prolog s ≡ b → CanStand (table_of clauses) s n
      by true c = plain w (ap if_prefix (is s (Some o) e ∙ (λ i. if h i && c i then None else Some o)))
      by false c = before o w (is s (Some o) e ∙ (λ i. if h i && c i then None else Some o)) h k
  stand s n (behind o e h r k) = behind o (is s (Some o) e ∙ stays prolog s o h) h r k
  stand s n (between o e h k) = between o (is s (Some o) e ∙ stays prolog s o (infix_after o.kind h)) h k

  named_stays : (s : List ℕ) (n : ℕ) → CanName (table_of formulas) s n → CanName (table_of clauses) s n
  named_stays s n c = record { sort = c.sort; written = c.written; allowed = stand s n c.allowed }

  digit_ordinary : (b : ℕ) → is_ascii_digit b ≡ true → is_ordinary b ≡ true
  unfolding is_ordinary
  digit_ordinary b h = grind (arith, nat_tests)

  digits_ordinary : (ds : List ℕ) → list_all is_ascii_digit ds ≡ true → list_all is_ordinary ds ≡ true
  digits_ordinary [] h = refl
  digits_ordinary (d ∷ ds) h = grind (arith, nat_tests, digit_ordinary, digits_ordinary ds)

  clause_named : (s : List ℕ) → is_clause_name prolog s ≡ true → (o : Option Operator) → if_prefix (clause_operator prolog s o) ≡ None
  clause_named s c None = refl
  clause_named s c (Some o) = by (is_prefix o.kind) refl
    where
      by : (b : Bool) → is_prefix o.kind ≡ b → if_prefix (clause_operator prolog s (Some o)) ≡ None
      by true e = ap if_prefix (λ i. if e i && c i then None else Some o)
      by false e = none_before prolog s (Some o) (ap (λ (b : Bool). if b then Some o else None) e)

  or_right_true : (a b : Bool) → b ≡ true → (a || b) ≡ true
  or_right_true true b h = refl
  or_right_true false b h = h

  or_left_true : (a b : Bool) → a ≡ true → (a || b) ≡ true
  or_left_true a b h = ap (λ (c : Bool). c || b) h

  numbered_named : (letter n arity : ℕ) → is_ordinary letter ≡ true → (table_of clauses).word (letter ∷ decimal n) ≡ None → is_clause_name prolog (letter ∷ decimal n) ≡ true → n < 10 ^ 64 → CanName (table_of clauses) (letter ∷ decimal n) arity
  numbered_named letter n arity o w c h =
      let s = letter ∷ decimal n in
      record {
        sort = ordinary;
        written = and_from (is_ordinary letter) (list_all is_ordinary (decimal n)) o (digits_ordinary (decimal n) (digits_wide n h));
        allowed = plain w (ap if_prefix (are s) ∙ clause_named s c (operator_of formulas s));
      }

  constant_named : (n arity : ℕ) → n < 10 ^ 64 → CanName (table_of clauses) (99 ∷ decimal n) arity
  unfolding is_ordinary
  constant_named n arity h =
      let s = 99 ∷ decimal n in
      numbered_named 99 n arity refl refl (or_left_true _ (is_numbered 102 s) (or_right_true (is_clause_variable prolog s) _ (numeral_wide n h))) h

  function_named : (n arity : ℕ) → n < 10 ^ 64 → CanName (table_of clauses) (102 ∷ decimal n) arity
  unfolding is_ordinary
  function_named n arity h =
      let s = 102 ∷ decimal n in
      numbered_named 102 n arity refl refl (or_right_true (is_clause_variable prolog s || is_numbered 99 s) _ (numeral_wide n h)) h

  skolem_named : (x : Symbol) → IsSkolemSymbol x → CanName (table_of clauses) x.name x.arity
  skolem_named x k = subst (λ (y : Symbol). CanName (table_of clauses) y.name y.arity) (sym k.is) (by k.letter_is)
    where
      by : (k.letter ≡ 99) ⊎ (k.letter ≡ 102) → CanName (table_of clauses) (k.letter ∷ decimal k.number) k.arity
      by (inl e) = subst (λ (b : ℕ). CanName (table_of clauses) (b ∷ decimal k.number) k.arity) (sym e) (constant_named k.number k.arity k.short)
      by (inr e) = subst (λ (b : ℕ). CanName (table_of clauses) (b ∷ decimal k.number) k.arity) (sym e) (function_named k.number k.arity k.short)

-- a Skolem symbol's name is read as itself
letter_free : (prolog : Bool) (letter : ℕ) (ds : List ℕ) → (letter ≡ 99) ⊎ (letter ≡ 102) → is_free_name (style_of Prover prolog) (letter ∷ ds) ≡ false
letter_free true letter ds (inl e) = ap (λ (b : ℕ). is_free_name (style_of Prover true) (b ∷ ds)) e
letter_free true letter ds (inr e) = ap (λ (b : ℕ). is_free_name (style_of Prover true) (b ∷ ds)) e
letter_free false letter ds (inl e) = ap (λ (b : ℕ). is_free_name (style_of Prover false) (b ∷ ds)) e
letter_free false letter ds (inr e) = ap (λ (b : ℕ). is_free_name (style_of Prover false) (b ∷ ds)) e

no_attribute : (letter : ℕ) (ds : List ℕ) → (letter ≡ 99) ⊎ (letter ≡ 102) → bytes_eq (letter ∷ ds) (codes "#") ≡ false
no_attribute letter ds (inl e) = ap (λ (b : ℕ). bytes_eq (b ∷ ds) (codes "#")) e
no_attribute letter ds (inr e) = ap (λ (b : ℕ). bytes_eq (b ∷ ds) (codes "#")) e

skolem_reads : (prolog : Bool) (x : Symbol) → IsSkolemSymbol x → ReadsAsItself (style_of Prover prolog) x
skolem_reads prolog x k =
    subst (ReadsAsItself (style_of Prover prolog)) (sym k.is) (record {
      no_attribute = no_attribute k.letter (decimal k.number) k.letter_is;
      no_variable = λ none. letter_free prolog k.letter (decimal k.number) k.letter_is;
      relation = λ e. absurd (cc);
    })

-- what can have its name and is read as itself is readable under its number
readable : (g : OperatorTable) (st : Style) (table : List Symbol) (s : ℕ) (x : Symbol) → slice_get table s ≡ Some x → CanName g x.name x.arity → ReadsAsItself st x → IsReadableSymbol g st table s
readable g st table s x there can own = record {
  named = subst (λ (o : Option Symbol). CanName g (option_map_or (λ (y : Symbol). y.name) o []) (option_map_or (λ (y : Symbol). y.arity) o 0)) (sym there) can;
  itself = λ y e. let same : x ≡ y = (let i : Some x ≡ Some y = sym there ∙ e in cc) in subst (ReadsAsItself st) same own;
}

module _ (prolog : Bool) (formulas clauses : List OperatorRow) (are : AreOfClauses prolog formulas clauses) where
  abbrev st : Style
  st = style_of Prover prolog

  pub skolem_readable : (table : List Symbol) (s : ℕ) (x : Symbol) → slice_get table s ≡ Some x → IsSkolemSymbol x → IsReadableSymbol (table_of clauses) st table s
  skolem_readable table s x there k = readable (table_of clauses) st table s x there (skolem_named prolog formulas clauses are x k) (skolem_reads prolog x k)

  -- a formula's term without its label
  unlabelled : (label : Option RawTree) (t : RawTree) → HasText (table_of formulas) (with_attribute label t) → HasText (table_of formulas) t
  unlabelled None t h = h
  unlabelled (Some l) t h = h.1.0

  pub formula_readable : (table : List Symbol) (f : Fol) (names : List (List ℕ)) (label : Option RawTree) → IsReadFormula formulas prolog table f names label
      → AreReadable (table_of clauses) st table (λ s. uses_symbol s f)
  formula_readable table f names label given = λ s h e.
      let t = given.reads.tree in
      let made = formula_reading st given.behind t in
      let fits = subst (λ (m : Made Fol). Fits (table_of formulas) st table m.reading) (sym given.reads.made) (record { sound = given.among.clean; symbols = given.among.kept }) in
      let same : made.tree ≡ f = ap (λ (m : Made Fol). m.tree) given.reads.made ∙ given.tree_is in
      let has = unlabelled label t (text_has formulas given.reads.reads) in
      let own = formula_is (table_of formulas) st table t [] (unread given.behind) has fits s (ap (uses_symbol s) same ∙ e) in
      record { named = named_stays prolog formulas clauses are (name_at table s) (arity_at table s) own.named; itself = own.itself }
