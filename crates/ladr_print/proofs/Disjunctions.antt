-- The literals between ` | ` are the text of the term that they make.
use Rattle.std.proofs.Common.{◌≡◌, ℕ, List, [], ◌∷◌, ◌++◌, Some, refl, sym, ap, ◌∙◌, append_assoc}
use Rattle.std.specs.Prelude.{codes}
use Rattle.fol_core.specs.Literals.{Lit, ClauseTree}
use Rattle.fol_core.specs.SymbolTable.{Symbol}
use Rattle.ladr_lex.specs.Operators.{OperatorRow, operator_of}
use Rattle.ladr_print.specs.ClauseText.{literal_raw, clause_raw, bar, clause_disjunction, clause_bytes}
use Rattle.ladr_print.specs.FormulaText.{two}
use Rattle.ladr_print.specs.RawText.{left_argument, right_argument, text_of, printed}
use Rattle.ladr_print.specs.StatesAs.{KeepsFixed}
use Rattle.ladr_print.specs.TermText.{Naming}
use Rattle.ladr_reader.specs.Table.{OperatorTable, table_of}

module _ (rows : List OperatorRow) (k : KeepsFixed rows) (table : List Symbol) (v : Naming) where
  abbrev g : OperatorTable
  g = table_of rows

  is_bar : operator_of rows (codes "|") ≡ Some bar
  is_bar = k (codes "|") refl ∙ refl

  -- two parts with `|` between them, of which the second is one part of precedence at most 790 that doesn't go on to the left
  bar_text : (t u : _) → text_of g (two (codes "|") t u) ≡ left_argument bar (printed g t) ++ codes " " ++ codes "|" ++ codes " " ++ right_argument bar (printed g u)
  bar_text t u = rw is_bar refl

  chain_fits : (t u : _) → right_argument bar (printed g (two (codes "|") t u)) ≡ text_of g (two (codes "|") t u)
  chain_fits t u = rw is_bar refl

  disjunction_text : (l m : Lit) (ls : List Lit) → clause_disjunction g table v l (m ∷ ls) ≡ text_of g (clause_raw table v (l ∷ m ∷ ls))
  disjunction_text l m [] = spaces (left_argument bar (printed g (literal_raw table v l))) (right_argument bar (printed g (literal_raw table v m))) ∙ sym (bar_text (literal_raw table v l) (literal_raw table v m))
    where
      spaces : (a b : List ℕ) → a ++ codes " | " ++ b ≡ a ++ codes " " ++ codes "|" ++ codes " " ++ b
      spaces a b = ap (λ (c : List ℕ). c ++ b) (sym (append_assoc (a ++ codes " ") (codes "|") (codes " ") ∙ append_assoc a (codes " ") (codes "| ")))
  disjunction_text l m (n ∷ ls) =
      ap (λ (c : List ℕ). left_argument bar (printed g (literal_raw table v l)) ++ codes " | " ++ c) (disjunction_text m n ls ∙ sym (chain_fits (literal_raw table v m) (clause_raw table v (n ∷ ls)))) ∙
      spaces (left_argument bar (printed g (literal_raw table v l))) (right_argument bar (printed g (clause_raw table v (m ∷ n ∷ ls)))) ∙ sym (bar_text (literal_raw table v l) (clause_raw table v (m ∷ n ∷ ls)))
    where
      spaces : (a b : List ℕ) → a ++ codes " | " ++ b ≡ a ++ codes " " ++ codes "|" ++ codes " " ++ b
      spaces a b = ap (λ (c : List ℕ). c ++ b) (sym (append_assoc (a ++ codes " ") (codes "|") (codes " ") ∙ append_assoc a (codes " ") (codes "| ")))

  pub clause_is : (c : ClauseTree) → clause_bytes g table v c ≡ text_of g (clause_raw table v c)
  clause_is [] = empty
    where
      empty : codes "$F" ≡ text_of g (clause_raw table v [])
      empty = rw (k (codes "$F") refl) refl
  clause_is (l ∷ []) = refl
  clause_is (l ∷ m ∷ ls) = disjunction_text l m ls
