-- The operators of clauses, as rows.
use Rattle.std.proofs.Common.{◌≡◌, ℕ, Bool, true, false, List, [], ◌∷◌, map, refl, sym, ap, ◌∙◌}
use Rattle.std.specs.Prelude.{not, ◌&&◌, if◌then◌else◌}
use Rattle.std.specs.List.{list_all}
use Rattle.std.specs.Str.{bytes_eq}
use Rattle.std.proofs.lemmas.Bool.{and_from, and_parts}
use Rattle.std.proofs.lemmas.Slice.Eq.{bytes_eq-Decides}
use Rattle.ladr_lex.proofs.ClauseOperators.{kept_precedence}
use Rattle.ladr_lex.specs.Cuts.{is_plain_symbol}
use Rattle.ladr_lex.specs.ClauseNames.{clause_operator}
use Rattle.ladr_lex.specs.Operators.{OperatorRow, operator_of, is_quantifier_word, has_precedence, is_lawful_row, are_lawful}
use Rattle.proof_lines.specs.ContentTokens.{line_tables}
use Rattle.proof_print.specs.Names.{AreOfClauses}
use Rattle.proof_print.specs.Reread.{row_tables}

module _ (prolog : Bool) where
  abbrev clause_row : OperatorRow → OperatorRow
  clause_row r = record { name = r.name; operator = clause_operator prolog r.name r.operator }

  -- each row with the operator that its name has in a clause
  abbrev pub clause_rows : List OperatorRow → List OperatorRow
  clause_rows rows = map clause_row rows

  pub of_clauses : (rows : List OperatorRow) → AreOfClauses prolog rows (clause_rows rows)
  of_clauses [] name = refl
  of_clauses (r ∷ rs) name = by (bytes_eq name r.name) refl (of_clauses rs name)
    where
      by : (b : Bool) → bytes_eq name r.name ≡ b → operator_of (clause_rows rs) name ≡ clause_operator prolog name (operator_of rs name) → (if b then clause_operator prolog r.name r.operator else operator_of (clause_rows rs) name) ≡ clause_operator prolog name (if b then r.operator else operator_of rs name)
      by true e h = ap (λ (n : List ℕ). clause_operator prolog n r.operator) (sym ((bytes_eq-Decides name r.name).0 e))
      by false e h = h

  row_lawful : (r : OperatorRow) → is_lawful_row r ≡ true → is_lawful_row (clause_row r) ≡ true
  row_lawful r h =
      let parts = and_parts (is_plain_symbol r.name && not (is_quantifier_word r.name)) (has_precedence r.operator) h in
      and_from (is_plain_symbol r.name && not (is_quantifier_word r.name)) (has_precedence (clause_operator prolog r.name r.operator)) parts.0 (kept_precedence prolog r.name r.operator parts.1)

  others_same : (name : List ℕ) (rs : List OperatorRow) → list_all (λ (s : OperatorRow). not (bytes_eq name s.name)) (clause_rows rs) ≡ list_all (λ (s : OperatorRow). not (bytes_eq name s.name)) rs
  others_same name [] = refl
  others_same name (r ∷ rs) = ap (λ (b : Bool). not (bytes_eq name r.name) && b) (others_same name rs)

  pub rows_lawful : (rows : List OperatorRow) → are_lawful rows ≡ true → are_lawful (clause_rows rows) ≡ true
  rows_lawful [] h = refl
  rows_lawful (r ∷ rs) h =
      let others = list_all (λ (s : OperatorRow). not (bytes_eq r.name s.name)) rs in
      let parts = and_parts (is_lawful_row r && others) (are_lawful rs) h in
      let own = and_parts (is_lawful_row r) others parts.0 in
      and_from _ (are_lawful (clause_rows rs))
      (and_from (is_lawful_row (clause_row r)) (list_all (λ (s : OperatorRow). not (bytes_eq r.name s.name)) (clause_rows rs)) (row_lawful r own.0) (others_same r.name rs ∙ own.1)) (rows_lawful rs parts.1)

-- so the tables of both are those of lines
pub tables_same : (prolog : Bool) (formulas clauses : List OperatorRow) → AreOfClauses prolog formulas clauses → row_tables formulas clauses ≡ line_tables prolog formulas
tables_same prolog formulas clauses h = λ i. record { formulas = (row_tables formulas clauses).formulas; clauses = record (row_tables formulas clauses).clauses { op = λ name. h name i } }
