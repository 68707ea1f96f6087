-- A name in quotes has no operator and is no word.
use Rattle.std.proofs.Common.{◌≡◌, ℕ, Bool, true, false, ◌==◌, ◌&&◌, List, [], ◌∷◌, ◌++◌, None, refl, ap, ◌∙◌}
use Rattle.std.proofs.lemmas.Bool.{and_parts, eqb-true}
use Rattle.ladr_lex.specs.Bytes.{is_ordinary, is_special}
use Rattle.ladr_lex.specs.Cuts.{is_plain_symbol}
use Rattle.ladr_lex.specs.Lexeme.{quoted, symbol}
use Rattle.ladr_lex.specs.Operators.{OperatorRow, operator_of, are_lawful, if_prefix, if_after}
use Rattle.ladr_reader.specs.Machine.{start_of, follow_of, start_of_symbol, follow_of_symbol}
use Rattle.ladr_reader.specs.Marks.{in_quotes}
use Rattle.ladr_reader.specs.Table.{table_of, quantifier_of}
use Rattle.ladr_reader.specs.declared.roles.Follow.TheVariants.{FollowsNot}
use Rattle.ladr_reader.specs.declared.roles.TermStart.TheVariants.{Names}
use Rattle.std.specs.Str.{bytes_eq}

no_quote : (cs : List ℕ) → is_plain_symbol (34 ∷ cs) ≡ false
unfolding is_ordinary is_special
no_quote [] = refl
no_quote (c ∷ cs) = refl

-- what begins with a quote is no name of a table
no_row : (bs name : List ℕ) → is_plain_symbol name ≡ true → bytes_eq (34 ∷ bs) name ≡ false
no_row bs [] h = refl
no_row bs (c ∷ cs) h = by (34 == c) refl
  where
    quote_in : 34 ≡ c → ⊥
    quote_in e = let no = no_quote cs in let yes : is_plain_symbol (34 ∷ cs) ≡ true = ap (λ d. is_plain_symbol (d ∷ cs)) e ∙ h in cc

    by : (b : Bool) → (34 == c) ≡ b → (b && bytes_eq bs cs) ≡ false
    by false e = refl
    by true e = absurd (quote_in (eqb-true 34 c e))

no_operator : (rows : List OperatorRow) (bs : List ℕ) → are_lawful rows ≡ true → operator_of rows (34 ∷ bs) ≡ None
no_operator [] bs h = refl
no_operator (r ∷ rows) bs h =
    let outer = and_parts _ _ h in
    let row = and_parts _ _ (and_parts _ _ (and_parts _ _ outer.0).0).0 in
    rw (no_row bs r.name row.0) (no_operator rows bs outer.1)

pub name_starts : (rows : List OperatorRow) (s : List ℕ) → are_lawful rows ≡ true → start_of (table_of rows) (symbol quoted (in_quotes s)) ≡ Names (in_quotes s)
name_starts rows s h = ap (λ o. start_of_symbol (quantifier_of (in_quotes s)) (if_prefix o) (in_quotes s)) (no_operator rows (s ++ 34 ∷ []) h)

pub name_follows : (rows : List OperatorRow) (s : List ℕ) → are_lawful rows ≡ true → follow_of (table_of rows) (symbol quoted (in_quotes s)) ≡ FollowsNot
name_follows rows s h = ap (λ o. follow_of_symbol (if_after o) (in_quotes s)) (no_operator rows (s ++ 34 ∷ []) h)
