-- Clauses over a table of symbols that can have their names have a text.
use Rattle.std.proofs.Common.{◌≡◌, ℕ, suc, Bool, true, false, ◌≤◌, List, [], ◌∷◌, length, inl, inr, refl, sym, ap, subst, arith}
use Rattle.std.specs.Prelude.{◌==◌, ◌⊎◌, if◌then◌else◌, codes}
use Rattle.std.proofs.lemmas.Bool.Decides.{nat_tests}
use Rattle.fol_core.specs.Literals.{ClauseTree, equality}
use Rattle.fol_core.specs.SymbolTable.{Symbol, name_at}
use Rattle.fol_core.specs.Tree.{Tree, var, elem, app, Trees, none, more}
use Rattle.ladr_lex.specs.ClauseNames.{clause_variable, FreesVariables}
use Rattle.ladr_lex.specs.Bytes.{is_ordinary}
use Rattle.ladr_lex.specs.Lexeme.{ordinary}
use Rattle.ladr_lex.specs.Operators.{OperatorRow, if_prefix}
use Rattle.ladr_reader.specs.Table.{OperatorTable, table_of}
use Rattle.ladr_print.specs.ClauseText.{clause_raw}
use Rattle.ladr_print.specs.FormulaText.{denial}
use Rattle.ladr_print.specs.HasText.{plain, CanName, HasText, HaveTexts, CanNameSymbols, many, IsSymbolOf, IsTermOver, AreOver, IsAtomOver, IsClauseOver}
use Rattle.ladr_print.specs.Precedences.{raws_count}
use Rattle.ladr_print.specs.StatesAs.{KeepsFixed}
use Rattle.ladr_print.specs.TermText.{Naming, symbol_name, term_raw, terms_raw}
use Rattle.ladr_print.proofs.Clausal.{variable_named, equals_named}
use Rattle.ladr_print.proofs.Stating.{brings, denial_has}

many_raws : (table : List Symbol) (v : Naming) (ts : Trees) → raws_count (terms_raw table v ts) ≡ many ts
many_raws table v none = refl
many_raws table v (more t ts) = ap suc (many_raws table v ts)

-- the empty clause
falsum_named : (rows : List OperatorRow) → KeepsFixed rows → CanName (table_of rows) (codes "$F") 0
unfolding is_ordinary
falsum_named rows fixed = record { sort = ordinary; written = refl; allowed = plain refl (ap if_prefix (fixed (codes "$F") refl)) }

module _ (rows : List OperatorRow) (fixed : KeepsFixed rows) (prolog : Bool) (frees : FreesVariables prolog rows) (table : List Symbol) (few : length table ≤ equality) (names : CanNameSymbols (table_of rows) table) where
  abbrev g : OperatorTable
  g = table_of rows

  abbrev v : Naming
  v = clause_variable prolog

  abbrev NamedFor : ℕ → ℕ → Type 0
  NamedFor s n = CanName g (symbol_name table s) n

  symbol_named : (s n : ℕ) → IsSymbolOf table s n → NamedFor s n
  symbol_named s n h =
      let other : (s == equality) ≡ false = grind (arith, nat_tests, few, h.0) in
      rw other (subst (CanName g (name_at table s)) h.1 (names s h.0))

  mutual
    term_has : (t : Tree) → IsTermOver table t → HasText g (term_raw table v t)
    term_has (var x) h = (variable_named rows fixed prolog frees x h, tt)
    term_has (elem k) h = absurd h
    term_has (app s ts) h = (subst (NamedFor s) (sym (many_raws table v ts)) (symbol_named s (many ts) h.0), terms_have ts h.1)

    terms_have : (ts : Trees) → AreOver table ts → HaveTexts g (terms_raw table v ts)
    terms_have none h = tt
    terms_have (more t ts) h = (term_has t h.0, terms_have ts h.1)

  relation_named : (r n : ℕ) → IsSymbolOf table r n ⊎ ((r ≡ equality) × (n ≡ 2)) → NamedFor r n
  relation_named r n (inl h) = symbol_named r n h
  relation_named r n (inr h) = subst (NamedFor r) (sym h.1) (subst (λ s. NamedFor s 2) (sym h.0) (equals_named rows fixed prolog frees table v))

  atom_has : (r : ℕ) (ts : Trees) → IsAtomOver table (app r ts) → HasText g (term_raw table v (app r ts))
  atom_has r ts h = (subst (NamedFor r) (sym (many_raws table v ts)) (relation_named r (many ts) h.0), terms_have ts h.1)

  signed_has : (positive : Bool) (atom : Tree) → IsAtomOver table atom → HasText g (if positive then term_raw table v atom else denial (term_raw table v atom))
  signed_has true (var x) h = absurd h
  signed_has true (elem k) h = absurd h
  signed_has true (app r ts) h = atom_has r ts h
  signed_has false (var x) h = absurd h
  signed_has false (elem k) h = absurd h
  signed_has false (app r ts) h = denial_has rows (brings rows fixed) (term_raw table v (app r ts)) (atom_has r ts h)

  clause_has : (c : ClauseTree) → IsClauseOver table c → HasText g (clause_raw table v c)
  clause_has [] h = (falsum_named rows fixed, tt)
  clause_has (l ∷ []) h = signed_has l.positive l.atom h.0
  clause_has (l ∷ m ∷ ls) h = ((brings rows fixed).disjunction, (signed_has l.positive l.atom h.0, (clause_has (m ∷ ls) h.1, tt)))

pub clauses_have_texts :
    (rows : List OperatorRow) (prolog : Bool) (table : List Symbol) (c : ClauseTree) → KeepsFixed rows → FreesVariables prolog rows → length table ≤ equality →
    CanNameSymbols (table_of rows) table → IsClauseOver table c → HasText (table_of rows) (clause_raw table (clause_variable prolog) c)
clauses_have_texts rows prolog table c fixed frees few names over = clause_has rows fixed prolog frees table few names c over
