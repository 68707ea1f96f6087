-- What the tokens of an interpretation say.
use Rattle.std.proofs.Common.{◌≡◌, ℕ, zero, suc, ◌+◌, ◌^◌, ◌<◌, true, List, [], ◌∷◌, ◌++◌, length, refl, sym, ap, ◌∙◌, append_assoc, arith}
use Rattle.std.specs.Prelude.{codes}
use Rattle.std.specs.Fmt.{decimal}
use Rattle.std.proofs.lemmas.List.{append-nil}
use Rattle.fol_core.specs.declared.symbols.Kind.{Kind}
use Rattle.fol_core.specs.declared.symbols.Kind.TheVariants.{Function, Relation}
use Rattle.ladr_commands.specs.ByName.{NamedTable, table, by_name}
use Rattle.ladr_commands.specs.Commands.{entry_list, tester_commands, interpretation_item}
use Rattle.ladr_commands.specs.Form as form
use Rattle.ladr_commands.specs.Form.{Form, token, values, places, entries, entry, form_outcome, reads, SaysCommand}
use Rattle.ladr_commands.specs.declared.command.Command.TheVariants.{Interpretation}
use Rattle.ladr_commands.specs.declared.wanted.Wanted.TheVariants.{CommaOrClose, CommaOrCloseSquare}
use Rattle.ladr_lex.specs.Lexeme.{Sort, ordinary, special, Lexeme, open_paren, close_paren, open_square, close_square, comma, symbol}
use Rattle.ladr_lex.specs.Numeral.{is_numeral, limited_number_of}
use Rattle.ladr_lex.proofs.Numerals.{numeral_decimal, number_decimal}
use Rattle.ladr_models.proofs.Entries.{IsPlain, ArePlain}
use Rattle.ladr_models.proofs.Writing.{number_token, behind_value, value_tokens, behind_place, place_tokens, sort_of, entry_tokens, behind_entry, list_tokens, end_tokens, all_tokens}
use Rattle.model_tables.specs.Size.{AllBelow}

-- values
value_read : (text read : List ℕ) (onward : List ℕ → Form) (us : List Lexeme) → is_numeral text ≡ true
    → form_outcome (values read onward) (symbol ordinary text ∷ us) ≡ form_outcome (token CommaOrCloseSquare (form.behind_number (read ++ limited_number_of text ∷ []) onward)) us
value_read text read onward us h = rw h refl

value_said : (text : List ℕ) (x : ℕ) (read : List ℕ) (onward : List ℕ → Form) (us : List Lexeme) → is_numeral text ≡ true → limited_number_of text ≡ x
    → form_outcome (values read onward) (symbol ordinary text ∷ us) ≡ form_outcome (token CommaOrCloseSquare (form.behind_number (read ++ x ∷ []) onward)) us
value_said text x read onward us h e = value_read text read onward us h ∙ ap (λ (v : ℕ). form_outcome (token CommaOrCloseSquare (form.behind_number (read ++ v ∷ []) onward)) us) e

decimal_said : (x : ℕ) (read : List ℕ) (onward : List ℕ → Form) (us : List Lexeme) → x < 1000000000
    → form_outcome (values read onward) (number_token x ∷ us) ≡ form_outcome (token CommaOrCloseSquare (form.behind_number (read ++ x ∷ []) onward)) us
decimal_said x read onward us l = value_said (decimal x) x read onward us (numeral_decimal x (omega (arith, l))) (number_decimal x (omega (arith, l)))

more_values : (xs read : List ℕ) (onward : List ℕ → Form) (us : List Lexeme) → AllBelow 1000000000 xs
    → form_outcome (token CommaOrCloseSquare (form.behind_number read onward)) (behind_value xs us) ≡ form_outcome (onward (read ++ xs)) us
more_values [] read onward us l = ap (λ (vs : List ℕ). form_outcome (onward vs) us) (sym (append-nil read))
more_values (x ∷ xs) read onward us l =
    decimal_said x read onward (behind_value xs us) l.0 ∙ more_values xs (read ++ x ∷ []) onward us l.1 ∙ ap (λ (vs : List ℕ). form_outcome (onward vs) us) (append_assoc read (x ∷ []) xs)

values_said : (xs : List ℕ) (onward : List ℕ → Form) (us : List Lexeme) → 0 < length xs → AllBelow 1000000000 xs → form_outcome (values [] onward) (value_tokens xs us) ≡ form_outcome (onward xs) us
values_said [] onward us s l = absurd (omega arith)
values_said (x ∷ xs) onward us s l = decimal_said x [] onward (behind_value xs us) l.0 ∙ more_values xs (x ∷ []) onward us l.1

-- places
more_places : (n m : ℕ) (onward : ℕ → Form) (us : List Lexeme) → form_outcome (token CommaOrClose (form.behind_place m onward)) (behind_place n us) ≡ form_outcome (onward (m + n)) us
more_places zero m onward us = let e : m ≡ m + 0 = omega arith in ap (λ (k : ℕ). form_outcome (onward k) us) e
more_places (suc n) m onward us = let e : m + 1 + n ≡ m + suc n = omega arith in more_places n (m + 1) onward us ∙ ap (λ (k : ℕ). form_outcome (onward k) us) e

-- an entry
listed_said : (n : ℕ) (es : List NamedTable) (kind : Kind) (name : List ℕ) (arity : ℕ) (xs : List ℕ) (us : List Lexeme) → 0 < length xs → AllBelow 1000000000 xs
    → form_outcome (form.entry_values n es kind name arity) (open_square ∷ value_tokens xs (close_paren ∷ us)) ≡ form_outcome (token CommaOrCloseSquare (form.behind_entry n (es ++ table kind name arity xs ∷ []))) us
listed_said n es kind name arity xs us s l = values_said xs _ (close_paren ∷ us) s l

name_said : (n : ℕ) (es : List NamedTable) (kind : Kind) (sort : Sort) (name : List ℕ) (arity : ℕ) (xs : List ℕ) (us : List Lexeme) → 0 < length xs → AllBelow 1000000000 xs
    → form_outcome (entry n es kind) (open_paren ∷ symbol sort name ∷ place_tokens arity (comma ∷ open_square ∷ value_tokens xs (close_paren ∷ us)))
    ≡ form_outcome (token CommaOrCloseSquare (form.behind_entry n (es ++ table kind name arity xs ∷ []))) us
name_said n es kind sort name zero xs us s l = listed_said n es kind name 0 xs us s l
name_said n es kind sort name (suc m) xs us s l =
    let e : 0 + 1 + m ≡ suc m = omega arith in
    more_places m (0 + 1) _ (comma ∷ open_square ∷ value_tokens xs (close_paren ∷ us)) ∙ listed_said n es kind name (0 + 1 + m) xs us s l
    ∙ ap (λ (arity : ℕ). form_outcome (token CommaOrCloseSquare (form.behind_entry n (es ++ table kind name arity xs ∷ []))) us) e

entry_said : (n : ℕ) (es : List NamedTable) (e : NamedTable) (us : List Lexeme) → IsPlain e → form_outcome (entries n es) (entry_tokens e us) ≡ form_outcome (token CommaOrCloseSquare (form.behind_entry n (es ++ e ∷ []))) us
entry_said n es e us p = by e.head.kind e.head.name e.head.arity e.values p.some p.small
  where
    by : (kind : Kind) (name : List ℕ) (arity : ℕ) (xs : List ℕ) → 0 < length xs → AllBelow 1000000000 xs
        → form_outcome (entries n es) (entry_tokens (table kind name arity xs) us) ≡ form_outcome (token CommaOrCloseSquare (form.behind_entry n (es ++ table kind name arity xs ∷ []))) us
    by Function name arity xs s l = name_said n es Function (sort_of name) name arity xs us s l
    by Relation name arity xs s l = name_said n es Relation (sort_of name) name arity xs us s l

-- the entries
more_entries : (ts : List NamedTable) (n : ℕ) (es : List NamedTable) → ArePlain ts
    → form_outcome (token CommaOrCloseSquare (form.behind_entry n es)) (behind_entry ts end_tokens) ≡ reads (Interpretation (by_name n (es ++ ts)))
more_entries [] n es p = ap (λ (us : List NamedTable). reads (Interpretation (by_name n us))) (sym (append-nil es))
more_entries (t ∷ ts) n es p =
    entry_said n es t (behind_entry ts end_tokens) p.0 ∙ more_entries ts n (es ++ t ∷ []) p.1 ∙ ap (λ (us : List NamedTable). reads (Interpretation (by_name n us))) (append_assoc es (t ∷ []) ts)

-- the entries behind `[`
list_said : (n : ℕ) (ts : List NamedTable) → ArePlain ts → form_outcome (entry_list n) (open_square ∷ list_tokens ts end_tokens) ≡ reads (Interpretation (by_name n ts))
list_said n [] p = refl
list_said n (t ∷ ts) p = first t.head.kind t.head.name t.head.arity t.values p.0.some p.0.small ∙ more_entries ts n (t ∷ []) p.1
  where
    first : (kind : Kind) (name : List ℕ) (arity : ℕ) (xs : List ℕ) → 0 < length xs → AllBelow 1000000000 xs
        → form_outcome (entry_list n) (open_square ∷ entry_tokens (table kind name arity xs) (behind_entry ts end_tokens))
        ≡ form_outcome (token CommaOrCloseSquare (form.behind_entry n (table kind name arity xs ∷ []))) (behind_entry ts end_tokens)
    first Function name arity xs s l = name_said n [] Function (sort_of name) name arity xs (behind_entry ts end_tokens) s l
    first Relation name arity xs s l = name_said n [] Relation (sort_of name) name arity xs (behind_entry ts end_tokens) s l

-- all of it, where the numbers are numerals
texts_read : (size made : List ℕ) (us : List Lexeme) → is_numeral size ≡ true → is_numeral made ≡ true
    → form_outcome interpretation_item (symbol ordinary (codes "interpretation") ∷ open_paren ∷ symbol ordinary size ∷ comma ∷ open_square ∷ symbol ordinary (codes "number")
    ∷ symbol special (codes "=") ∷ symbol ordinary made ∷ comma ∷ symbol ordinary (codes "seconds") ∷ symbol special (codes "=") ∷ symbol ordinary (codes "0") ∷ close_square ∷ comma ∷ us)
    ≡ form_outcome (entry_list (limited_number_of size)) us
texts_read size made us h k = rw h (rw k refl)

texts_said : (size made : List ℕ) (n : ℕ) (us : List Lexeme) → is_numeral size ≡ true → is_numeral made ≡ true → limited_number_of size ≡ n
    → form_outcome interpretation_item (symbol ordinary (codes "interpretation") ∷ open_paren ∷ symbol ordinary size ∷ comma ∷ open_square ∷ symbol ordinary (codes "number")
    ∷ symbol special (codes "=") ∷ symbol ordinary made ∷ comma ∷ symbol ordinary (codes "seconds") ∷ symbol special (codes "=") ∷ symbol ordinary (codes "0") ∷ close_square ∷ comma ∷ us)
    ≡ form_outcome (entry_list n) us
texts_said size made n us h k e = texts_read size made us h k ∙ ap (λ (m : ℕ). form_outcome (entry_list m) us) e

pub all_said : (n k : ℕ) (ts : List NamedTable) → n < 1000000000 → k < 2 ^ 64 → ArePlain ts → SaysCommand interpretation_item (all_tokens n k ts) (Interpretation (by_name n ts))
all_said n k ts l m p =
    texts_said (decimal n) (decimal k) n (open_square ∷ list_tokens ts end_tokens) (numeral_decimal n (omega (arith, l))) (numeral_decimal k m) (number_decimal n (omega (arith, l))) ∙ list_said n ts p

-- the tester reads it alike
pub tester_said : (n k : ℕ) (ts : List NamedTable) → form_outcome tester_commands (all_tokens n k ts) ≡ form_outcome interpretation_item (all_tokens n k ts)
tester_said n k ts = refl
