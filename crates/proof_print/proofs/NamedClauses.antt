-- Clauses have a text where the symbols that they use can have their names.
use Rattle.std.proofs.Common.{◌≡◌, ℕ, suc, Bool, true, false, ◌<◌, ◌≤◌, List, [], ◌∷◌, length, inl, inr, refl, sym, ap, subst, arith}
use Rattle.std.specs.Prelude.{◌==◌, ◌||◌, ◌⊎◌, codes}
use Rattle.std.proofs.lemmas.Bool.{or_left, or_right, eq-eqb}
use Rattle.std.proofs.lemmas.Bool.Decides.{nat_tests}
use Rattle.fol_core.specs.Bound.{has_symbol, have_symbol}
use Rattle.fol_core.specs.Literals.{ClauseTree, literal, equality}
use Rattle.fol_core.specs.SymbolTable.{Symbol, name_at, arity_at}
use Rattle.fol_core.specs.Tree.{Tree, var, elem, app, Trees, none, more}
use Rattle.ladr_lex.specs.Bytes.{is_ordinary}
use Rattle.ladr_lex.specs.ClauseNames.{clause_variable, FreesVariables}
use Rattle.ladr_lex.specs.Lexeme.{ordinary}
use Rattle.ladr_lex.specs.Operators.{OperatorRow, if_prefix}
use Rattle.ladr_print.specs.ClauseText.{literal_raw, clause_raw}
use Rattle.ladr_print.specs.HasText.{plain, CanName, HasText, HaveTexts, many, IsSymbolOf, IsTermOver, AreOver, IsAtomOver, IsClauseOver}
use Rattle.ladr_print.specs.Precedences.{raws_count}
use Rattle.ladr_print.specs.StatesAs.{KeepsFixed}
use Rattle.ladr_print.specs.TermText.{Naming, symbol_name, term_raw, terms_raw}
use Rattle.ladr_print.proofs.Clausal.{variable_named, equals_named}
use Rattle.ladr_print.proofs.Stating.{brings, denial_has}
use Rattle.ladr_reader.specs.Table.{OperatorTable, table_of}
use Rattle.proof_print.specs.Rereadable.{clause_uses}

raws_many : (table : List Symbol) (v : Naming) (ts : Trees) → raws_count (terms_raw table v ts) ≡ many ts
raws_many table v none = refl
raws_many table v (more t ts) = ap suc (raws_many table v ts)

-- the empty clause
empty_named : (rows : List OperatorRow) → KeepsFixed rows → CanName (table_of rows) (codes "$F") 0
unfolding is_ordinary
empty_named rows fixed = record { sort = ordinary; written = refl; allowed = plain refl (ap if_prefix (fixed (codes "$F") refl)) }

module _ (rows : List OperatorRow) (fixed : KeepsFixed rows) (prolog : Bool) (frees : FreesVariables prolog rows) (table : List Symbol) (few : length table ≤ equality) where
  abbrev g : OperatorTable
  g = table_of rows

  abbrev v : Naming
  v = clause_variable prolog

  -- each symbol of the table that passes the test can have its name
  abbrev pub AreNamed : (ℕ → Bool) → Type 0
  AreNamed is_used = (s : ℕ) → s < length table → is_used s ≡ true → CanName g (name_at table s) (arity_at table s)

  left : (p q : ℕ → Bool) → AreNamed (λ s. p s || q s) → AreNamed p
  left p q u s h e = u s h (or_left (p s) (q s) e)

  right : (p q : ℕ → Bool) → AreNamed (λ s. p s || q s) → AreNamed q
  right p q u s h e = u s h (or_right (p s) (q s) e)

  abbrev NamedFor : ℕ → ℕ → Type 0
  NamedFor s n = CanName g (symbol_name table s) n

  symbol_named : (s n : ℕ) → IsSymbolOf table s n → CanName g (name_at table s) (arity_at table s) → NamedFor s n
  symbol_named s n h k =
      let other : (s == equality) ≡ false = grind (arith, nat_tests, few, h.0) in
      rw other (subst (CanName g (name_at table s)) h.1 k)

  head_named : (s : ℕ) (ts : Trees) → s < length table → AreNamed (λ j. has_symbol j (app s ts)) → CanName g (name_at table s) (arity_at table s)
  head_named s ts h u = u s h (or_left (s == s) (have_symbol s ts) (eq-eqb s s refl))

  mutual
    term_has : (t : Tree) → IsTermOver table t → AreNamed (λ s. has_symbol s t) → HasText g (term_raw table v t)
    term_has (var x) h u = (variable_named rows fixed prolog frees x h, tt)
    term_has (elem k) h u = absurd h
    term_has (app s ts) h u = (
      subst (NamedFor s) (sym (raws_many table v ts)) (symbol_named s (many ts) h.0 (head_named s ts h.0.0 u)),
      terms_have ts h.1 (right (λ j. j == s) (λ j. have_symbol j ts) u),
    )

    pub terms_have : (ts : Trees) → AreOver table ts → AreNamed (λ s. have_symbol s ts) → HaveTexts g (terms_raw table v ts)
    terms_have none h u = tt
    terms_have (more t ts) h u =
        (term_has t h.0 (left (λ s. has_symbol s t) (λ s. have_symbol s ts) u), terms_have ts h.1 (right (λ s. has_symbol s t) (λ s. have_symbol s ts) u))

  relation_named : (r : ℕ) (ts : Trees) → AreNamed (λ j. has_symbol j (app r ts)) → IsSymbolOf table r (many ts) ⊎ ((r ≡ equality) × (many ts ≡ 2)) → NamedFor r (many ts)
  relation_named r ts u (inl h) = symbol_named r (many ts) h (head_named r ts h.0 u)
  relation_named r ts u (inr h) = subst (NamedFor r) (sym h.1) (subst (λ s. NamedFor s 2) (sym h.0) (equals_named rows fixed prolog frees table v))

  atom_has : (a : Tree) → IsAtomOver table a → AreNamed (λ s. has_symbol s a) → HasText g (term_raw table v a)
  atom_has (var x) h u = absurd h
  atom_has (elem k) h u = absurd h
  atom_has (app r ts) h u = (
    subst (NamedFor r) (sym (raws_many table v ts)) (relation_named r ts u h.0),
    terms_have ts h.1 (right (λ j. j == r) (λ j. have_symbol j ts) u),
  )

  literal_has : (positive : Bool) (a : Tree) → IsAtomOver table a → AreNamed (λ s. has_symbol s a) → HasText g (literal_raw table v (literal positive a))
  literal_has true a h u = atom_has a h u
  literal_has false a h u = denial_has rows (brings rows fixed) (term_raw table v a) (atom_has a h u)

  pub clause_has : (c : ClauseTree) → IsClauseOver table c → AreNamed (clause_uses c) → HasText g (clause_raw table v c)
  clause_has [] h u = (empty_named rows fixed, tt)
  clause_has (l ∷ []) h u = literal_has l.positive l.atom h.0 (left (λ s. has_symbol s l.atom) (clause_uses []) u)
  clause_has (l ∷ m ∷ ls) h u = (
    (brings rows fixed).disjunction,
    (literal_has l.positive l.atom h.0 (left (λ s. has_symbol s l.atom) (clause_uses (m ∷ ls)) u), (clause_has (m ∷ ls) h.1 (right (λ s. has_symbol s l.atom) (clause_uses (m ∷ ls)) u), tt)),
  )
