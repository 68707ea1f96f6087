-- What is read uses symbols as the table behind it has them.
use Rattle.std.proofs.Common.{◌≡◌, ℕ, suc, Bool, true, false, List, [], ◌∷◌, ◌++◌, length, Option, Some, None, refl, sym, ap, ◌∙◌, subst}
use Rattle.std.specs.Prelude.{is_some, unwrap_or, if◌then◌else◌, not, slice_get, codes}
use Rattle.std.specs.Option.{option_map_or}
use Rattle.std.specs.Str.{bytes_eq}
use Rattle.cell_search.specs.Searchable.{count_of}
use Rattle.fol_core.specs.Fol.{Fol, verum, falsum, negation}
use Rattle.fol_core.specs.RawTree.{RawTree, named, quantified, RawTrees, no_raws, more_raws}
use Rattle.fol_core.specs.SymbolTable.{Symbol, symbol, number_of, kind_at, is_same_kind, entered, is_clash, KeepsNumbers}
use Rattle.fol_core.specs.Tree.{Tree, Trees, elem, app, none}
use Rattle.fol_core.specs.declared.raw.Quantifier.{Quantifier}
use Rattle.fol_core.specs.declared.raw.Quantifier.TheVariants.{All, Exists}
use Rattle.fol_core.specs.declared.symbols.Kind.{Kind}
use Rattle.fol_core.specs.declared.symbols.Kind.TheVariants.{Function, Relation}
use Rattle.fol_core.proofs.Places.{slice_get_last}
use Rattle.fol_core.proofs.SymbolLemmas.{symbol_there, number_of_push}
use Rattle.ladr_lex.specs.Numeral.{limited_number_of}
use Rattle.ladr_lex.specs.declared.misuse.Misuse.{Misuse}
use Rattle.ladr_lex.specs.declared.misuse.Misuse.TheVariants.{TwoKinds, QuantifierInTerm, UnfitAttribute, UnfitNumeral}
use Rattle.ladr_formulas.specs.Formulas.{Reading, Made, Bound, meets, with_variable, named_variable, with_symbol, symbol_number, arity_of, is_too_great, is_element, constant_as, term_of, terms_of, relation_of, sentence_as, equation_read, under, bound_by, is_denial, connective_of, connective_read, joined_by, by_connective, comparison, formula_in, unread, formula_reading}
use Rattle.ladr_formulas.specs.declared.connectives.Connective.{Connective}
use Rattle.ladr_formulas.specs.declared.connectives.Connective.TheVariants.{And, Or, IfThen, ThenIf, IfAndOnlyIf}
use Rattle.ladr_formulas.specs.declared.styles.Style.{Style}
use Rattle.ladr_formulas.proofs.Growing.{Grows, grows_term, grows_terms, grows_formula}
use Rattle.ladr_cells.specs.Fitting.{IsUseOf}
use Rattle.ladr_cells.specs.Uses.{applies, IsTermOf, AreTermsOf, IsFormulaOf}

-- where no misuse was met the test failed, and none was met before
unmet : (test : Bool) (row : Misuse) (s : Reading) → (meets test row s).least ≡ None → (test ≡ false) × (s.least ≡ None)
unmet true row s h = absurd (cc)
unmet false row s h = (refl, h)

same_kinds : (a b : Kind) → not (is_same_kind a b) ≡ false → a ≡ b
same_kinds Function Function h = refl
same_kinds Function Relation h = absurd (cc)
same_kinds Relation Function h = absurd (cc)
same_kinds Relation Relation h = refl

-- a symbol is found in the table as it is
abbrev IsFound : Symbol → List Symbol → Type 0
IsFound x t = slice_get t (unwrap_or (number_of t x.name x.arity) 0) ≡ Some x

clash_at : (table : List Symbol) (x : Symbol) (n : ℕ) → number_of table x.name x.arity ≡ Some n → is_clash table x ≡ not (is_same_kind (kind_at table n) x.kind)
clash_at table x n e = ap (λ (o : Option ℕ). option_map_or (λ n. not (is_same_kind (kind_at table n) x.kind)) o false) e

-- so is one that is entered without a clash
stands : (table : List Symbol) (name : List ℕ) (arity : ℕ) (kind : Kind) → is_clash table (symbol name arity kind) ≡ false → IsFound (symbol name arity kind) (entered table (symbol name arity kind))
stands table name arity kind h = by (number_of table name arity) refl
  where
    x : Symbol
    x = symbol name arity kind

    by : (o : Option ℕ) → number_of table name arity ≡ o → IsFound x (entered table x)
    by (Some n) e =
        let old : entered table x ≡ table = ap (λ (o : Option ℕ). if is_some o then table else table ++ x ∷ []) e in
        let kinds : kind_at table n ≡ kind = same_kinds (kind_at table n) kind (sym (clash_at table x n e) ∙ h) in
        let there : IsFound x table = ap (λ (o : Option ℕ). slice_get table (unwrap_or o 0)) e ∙ symbol_there table name arity n e ∙ ap (λ (k : Kind). Some (symbol name arity k)) kinds in
        subst (IsFound x) (sym old) there
    by None e =
        let new : entered table x ≡ table ++ x ∷ [] = ap (λ (o : Option ℕ). if is_some o then table else table ++ x ∷ []) e in
        let there : IsFound x (table ++ x ∷ []) = ap (λ (o : Option ℕ). slice_get (table ++ x ∷ []) (unwrap_or o 0)) (number_of_push table name arity kind e) ∙ slice_get_last table x in
        subst (IsFound x) (sym new) there

many_terms : (st : Style) (scope : List Bound) (s : Reading) (ts : RawTrees) → count_of (terms_of st scope s ts).tree ≡ arity_of ts
many_terms st scope s no_raws = refl
many_terms st scope s (more_raws t ts) = ap suc (many_terms st scope (term_of st scope s t).reading ts)

module _ (T : List Symbol) where
  abbrev Keeps : Reading → Type 0
  Keeps s = KeepsNumbers s.symbols T

  kept_before : (a b : Reading) → Grows a b → Keeps b → Keeps a
  kept_before a b g k n s h = k n s (g.symbols n s h)

  used : (name : List ℕ) (arity : ℕ) (kind : Kind) (s : Reading) → (with_symbol name arity kind s).least ≡ None → Keeps (with_symbol name arity kind s)
      → IsUseOf T (applies kind (symbol_number name arity (with_symbol name arity kind s)) arity)
  used name arity kind s h k =
      let clash = is_clash s.symbols (symbol name arity kind) in
      let fine = unmet clash TwoKinds s (unmet (bytes_eq name (codes "#")) UnfitAttribute (meets clash TwoKinds s) h).1 in
      (name, k _ _ (stands s.symbols name arity kind fine.0))

  -- unless something was misused, it fits the table
  abbrev TermFits : Made Tree → Type 0
  TermFits m = m.reading.least ≡ None → Keeps m.reading → IsTermOf (IsUseOf T) m.tree

  abbrev TermsFit : Made Trees → Type 0
  TermsFit m = m.reading.least ≡ None → Keeps m.reading → AreTermsOf (IsUseOf T) m.tree

  abbrev FormulaFits : Made Fol → Type 0
  FormulaFits m = m.reading.least ≡ None → Keeps m.reading → IsFormulaOf (IsUseOf T) m.tree

  term_either : (b : Bool) (m n : Made Tree) → TermFits m → TermFits n → TermFits (if b then m else n)
  term_either true m n f g = f
  term_either false m n f g = g

  formula_either : (b : Bool) (m n : Made Fol) → FormulaFits m → FormulaFits n → FormulaFits (if b then m else n)
  formula_either true m n f g = f
  formula_either false m n f g = g

  constant_fits : (st : Style) (name : List ℕ) (o : Option ℕ) (s : Reading) → TermFits (constant_as st name o s)
  constant_fits st name (Some n) s h k = tt
  constant_fits st name None s h k =
      let after = with_symbol name 0 Function s in
      term_either (is_element st name) (record { tree = elem (limited_number_of name); reading = meets (is_too_great st name) UnfitNumeral s }) (record { tree = app (symbol_number name 0 after) none; reading = after })
      (λ h k. tt) (λ h k. (used name 0 Function s h k, tt)) h k

  mutual
    term_fits : (st : Style) (scope : List Bound) (s : Reading) (t : RawTree) → TermFits (term_of st scope s t)
    term_fits st scope s (quantified q x t) h k = term_fits st (record { name = x; number = length s.variables } ∷ scope) (with_variable x false (meets true QuantifierInTerm s)) t h k
    term_fits st scope s (named name no_raws) h k = constant_fits st name (named_variable st scope name s).tree (named_variable st scope name s).reading h k
    term_fits st scope s (named name (more_raws t ts)) h k =
        let met = meets (is_too_great st name) UnfitNumeral s in
        let after = with_symbol name (suc (arity_of ts)) Function met in
        let g = grows_terms st scope after (more_raws t ts) in
        let one = used name (suc (arity_of ts)) Function met (g.sound h) (kept_before after _ g k) in
        (subst (λ (n : ℕ). IsUseOf T (applies Function (symbol_number name (suc (arity_of ts)) after) n)) (sym (many_terms st scope after (more_raws t ts))) one, terms_fit st scope after (more_raws t ts) h k)

    terms_fit : (st : Style) (scope : List Bound) (s : Reading) (ts : RawTrees) → TermsFit (terms_of st scope s ts)
    terms_fit st scope s no_raws h k = tt
    terms_fit st scope s (more_raws t ts) h k =
        let first = term_of st scope s t in
        let g = grows_terms st scope first.reading ts in
        (term_fits st scope s t (g.sound h) (kept_before first.reading _ g k), terms_fit st scope first.reading ts h k)

  relation_fits : (st : Style) (scope : List Bound) (name : List ℕ) (ts : RawTrees) (s : Reading) → FormulaFits (relation_of st scope name ts s)
  relation_fits st scope name ts s h k =
      let met = meets (is_element st name) UnfitNumeral s in
      let after = with_symbol name (arity_of ts) Relation met in
      let g = grows_terms st scope after ts in
      let one = used name (arity_of ts) Relation met (g.sound h) (kept_before after _ g k) in
      (subst (λ (n : ℕ). IsUseOf T (applies Relation (symbol_number name (arity_of ts) after) n)) (sym (many_terms st scope after ts)) one, terms_fit st scope after ts h k)

  sentence_fits : (st : Style) (scope : List Bound) (name : List ℕ) (o : Option ℕ) (s : Reading) → FormulaFits (sentence_as st scope name o s)
  sentence_fits st scope name (Some n) s h k = tt
  sentence_fits st scope name None s h k =
      let other = relation_of st scope name no_raws s in
      formula_either (bytes_eq name (codes "$T")) (record { tree = verum; reading = s }) (if bytes_eq name (codes "$F") then record { tree = falsum; reading = s } else other) (λ h k. tt)
      (formula_either (bytes_eq name (codes "$F")) (record { tree = falsum; reading = s }) other (λ h k. tt) (relation_fits st scope name no_raws s)) h k

  equation_fits : (st : Style) (scope : List Bound) (t u : RawTree) (s : Reading) → FormulaFits (equation_read st scope t u s)
  equation_fits st scope t u s h k =
      let left = term_of st scope s t in
      let g = grows_term st scope left.reading u in
      (term_fits st scope s t (g.sound h) (kept_before left.reading _ g k), term_fits st scope left.reading u h k)

  comparison_fits : (st : Style) (scope : List Bound) (name : List ℕ) (t u : RawTree) (s : Reading) → FormulaFits (comparison st scope name t u s)
  comparison_fits st scope name t u s =
      let other = relation_of st scope name (more_raws t (more_raws u no_raws)) s in
      formula_either (bytes_eq name (codes "=")) (equation_read st scope t u s) (if bytes_eq name (codes "!=") then under negation (equation_read st scope t u s) else other) (equation_fits st scope t u s)
      (formula_either (bytes_eq name (codes "!=")) (under negation (equation_read st scope t u s)) other (equation_fits st scope t u s) (relation_fits st scope name (more_raws t (more_raws u no_raws)) s))

  -- two formulas, read one behind the other
  module _ (f g : Reading → Made Fol) (a : (s : Reading) → FormulaFits (f s)) (b : (s : Reading) → FormulaFits (g s)) (grows : (s : Reading) → Grows s (g s).reading) where
    both_fit : (s : Reading) → (g (f s).reading).reading.least ≡ None → Keeps (g (f s).reading).reading
        → IsFormulaOf (IsUseOf T) (f s).tree × IsFormulaOf (IsUseOf T) (g (f s).reading).tree
    both_fit s h k = (a s ((grows (f s).reading).sound h) (kept_before (f s).reading _ (grows (f s).reading) k), b (f s).reading h k)

    joined_fit : (c : Connective) (s : Reading) → FormulaFits (connective_read (joined_by c) f g s)
    joined_fit And s h k = both_fit s h k
    joined_fit Or s h k = both_fit s h k
    joined_fit IfThen s h k = both_fit s h k
    joined_fit ThenIf s h k = both_fit s h k
    joined_fit IfAndOnlyIf s h k = both_fit s h k

  connected_fit : (o : Option Connective) (f g c : Reading → Made Fol) → ((s : Reading) → FormulaFits (f s)) → ((s : Reading) → FormulaFits (g s)) → ((s : Reading) → FormulaFits (c s))
      → ((s : Reading) → Grows s (f s).reading) → ((s : Reading) → Grows s (g s).reading) → (s : Reading) → FormulaFits (by_connective o f g c s)
  connected_fit (Some And) f g c a b d m n s = joined_fit f g a b n And s
  connected_fit (Some Or) f g c a b d m n s = joined_fit f g a b n Or s
  connected_fit (Some IfThen) f g c a b d m n s = joined_fit f g a b n IfThen s
  connected_fit (Some ThenIf) f g c a b d m n s = joined_fit g f b a m ThenIf s
  connected_fit (Some IfAndOnlyIf) f g c a b d m n s = joined_fit f g a b n IfAndOnlyIf s
  connected_fit None f g c a b d m n s = d s

  bound_fits : (q : Quantifier) (n : ℕ) (m : Made Fol) → FormulaFits m → FormulaFits (under (bound_by q n) m)
  bound_fits All n m f = f
  bound_fits Exists n m f = f

  pub formula_fits : (st : Style) (scope : List Bound) (t : RawTree) (s : Reading) → FormulaFits (formula_in st scope s t)
  formula_fits st scope (quantified q x t) s =
      let inner : List Bound = record { name = x; number = length s.variables } ∷ scope in
      bound_fits q (length s.variables) (formula_in st inner (with_variable x false s) t) (formula_fits st inner t (with_variable x false s))
  formula_fits st scope (named name no_raws) s = sentence_fits st scope name (named_variable st scope name s).tree (named_variable st scope name s).reading
  formula_fits st scope (named name (more_raws t no_raws)) s =
      formula_either (is_denial name) (under negation (formula_in st scope s t)) (relation_of st scope name (more_raws t no_raws) s) (formula_fits st scope t s) (relation_fits st scope name (more_raws t no_raws) s)
  formula_fits st scope (named name (more_raws t (more_raws u no_raws))) s =
      connected_fit (connective_of name) (λ r. formula_in st scope r t) (λ r. formula_in st scope r u) (comparison st scope name t u)
      (formula_fits st scope t) (formula_fits st scope u) (comparison_fits st scope name t u) (grows_formula st scope t) (grows_formula st scope u) s
  formula_fits st scope (named name (more_raws t (more_raws u (more_raws v ts)))) s = relation_fits st scope name (more_raws t (more_raws u (more_raws v ts))) s

-- a formula that is read behind a table
pub reading_fits : (st : Style) (table : List Symbol) (t : RawTree) → (formula_reading st table t).reading.least ≡ None
    → IsFormulaOf (IsUseOf (formula_reading st table t).reading.symbols) (formula_reading st table t).tree
reading_fits st table t h = formula_fits (formula_reading st table t).reading.symbols st [] t (unread table) h (λ n s e. e)
