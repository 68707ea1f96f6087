-- The symbols of a formula that is read for the prover without misuse have their kinds and their arguments in the table.
use Rattle.std.proofs.Common.{◌≡◌, ℕ, suc, ◌+◌, ◌≤◌, ◌<◌, ◌^◌, ◌&&◌, ◌||◌, Bool, true, false, not, if◌then◌else◌, List, [], ◌∷◌, ◌++◌, length, Option, Some, None, is_some, slice_get, inl, inr, refl, sym, ap, ◌∙◌, subst, arith}
use Rattle.std.specs.Prelude.{unwrap_or, codes}
use Rattle.std.specs.Option.{option_map_or}
use Rattle.std.specs.Str.{bytes_eq}
use Rattle.std.proofs.lemmas.Bool.{cond_both}
use Rattle.std.proofs.lemmas.List.{length-append}
use Rattle.fol_core.specs.Fol.{Fol, conjunction, disjunction, implication, equivalence}
use Rattle.fol_core.specs.RawTree.{RawTree, named, quantified, RawTrees, no_raws, more_raws}
use Rattle.fol_core.specs.SymbolTable.{Symbol, symbol, number_of, kind_at, entered, is_clash, is_same_kind, KeepsNumbers}
use Rattle.fol_core.specs.Tree.{Tree, Trees}
use Rattle.fol_core.specs.declared.raw.Quantifier.{Quantifier}
use Rattle.fol_core.specs.declared.raw.Quantifier.TheVariants.{All, Exists}
use Rattle.fol_core.specs.declared.symbols.Kind.{Kind}
use Rattle.fol_core.specs.declared.symbols.Kind.TheVariants.{Function, Relation}
use Rattle.fol_core.proofs.Places.{slice_get_last}
use Rattle.fol_core.proofs.SymbolLemmas.{symbol_there, number_of_push}
use Rattle.ladr_formulas.proofs.Growing.{Grows, beyond, grows_variable, grows_constant_as, grows_term, grows_terms, grows_formula}
use Rattle.ladr_formulas.specs.Formulas.{Variable, Reading, Made, Bound, meets, bound_number, free_number, is_variable, with_variable, variable_number, reading_with_name, named_variable, with_symbol, symbol_number, arity_of, is_element, is_too_great, constant_as, term_of, terms_of, relation_of, sentence_as, equation_read, bound_by, is_denial, connective_of, connective_read, by_connective, comparison, formula_in, style_of}
use Rattle.ladr_formulas.specs.declared.connectives.Connective.{Connective}
use Rattle.ladr_formulas.specs.declared.connectives.Connective.TheVariants.{And, Or, IfThen, ThenIf, IfAndOnlyIf}
use Rattle.ladr_formulas.specs.declared.styles.Mode.TheVariants.{Prover}
use Rattle.ladr_formulas.specs.declared.styles.Style.{Style}
use Rattle.ladr_lex.specs.declared.misuse.Misuse.{Misuse}
use Rattle.ladr_lex.specs.declared.misuse.Misuse.TheVariants.{TwoKinds, QuantifierInTerm, UnfitAttribute, UnfitNumeral}
use Rattle.ladr_print.specs.HasText.{many}
use Rattle.search_lines.proofs.Atoms.{Atoms}
use Rattle.search_lines.proofs.Shapes.{IsLow, IsTermOf, AreTermsOf, IsAtomOf}

-- the table has the symbol under its number, of this kind and with so many arguments
pub record Stands (table : List Symbol) (kind : Kind) (s n : ℕ) : Type 0 where
  pub name : List ℕ
  pub there : slice_get table s ≡ Some (symbol name n kind)

same_kinds : (a b : Kind) → not (is_same_kind a b) ≡ false → a ≡ b
same_kinds Function Function h = refl
same_kinds Function Relation h = absurd (cc)
same_kinds Relation Function h = absurd (cc)
same_kinds Relation Relation h = refl

no_misuse : (test : Bool) (row : Misuse) (s : Reading) → (meets test row s).least ≡ None → (test ≡ false) × (s.least ≡ None)
no_misuse true row s h = absurd (cc)
no_misuse false row s h = (refl, h)

-- a symbol that is entered without a clash stands under its number
entered_there : (table : List Symbol) (name : List ℕ) (arity : ℕ) (kind : Kind) → is_clash table (symbol name arity kind) ≡ false
    → slice_get (entered table (symbol name arity kind)) (unwrap_or (number_of (entered table (symbol name arity kind)) name arity) 0) ≡ Some (symbol name arity kind)
entered_there table name arity kind clear = by (number_of table name arity) refl
  where
    x : Symbol
    x = symbol name arity kind

    after : Bool → List Symbol
    after b = if b then table else table ++ x ∷ []

    by : (o : Option ℕ) → number_of table name arity ≡ o → slice_get (entered table x) (unwrap_or (number_of (entered table x) name arity) 0) ≡ Some x
    by (Some n) e =
        let stays : entered table x ≡ table = ap (λ (o : Option ℕ). after (is_some o)) e in
        let kinds : kind_at table n ≡ kind =
        same_kinds (kind_at table n) kind (sym (ap (λ (o : Option ℕ). option_map_or (λ (k : ℕ). not (is_same_kind (kind_at table k) kind)) o false) e) ∙ clear) in
        let there : slice_get table n ≡ Some x = symbol_there table name arity n e ∙ ap (λ (k : Kind). Some (symbol name arity k)) kinds in
        subst (λ (t : List Symbol). slice_get t (unwrap_or (number_of t name arity) 0) ≡ Some x) (sym stays) (ap (λ (o : Option ℕ). slice_get table (unwrap_or o 0)) e ∙ there)
    by None e =
        let comes : entered table x ≡ table ++ x ∷ [] = ap (λ (o : Option ℕ). after (is_some o)) e in
        subst (λ (t : List Symbol). slice_get t (unwrap_or (number_of t name arity) 0) ≡ Some x) (sym comes) (ap (λ (o : Option ℕ). slice_get (table ++ x ∷ []) (unwrap_or o 0)) (number_of_push table name arity kind e) ∙ slice_get_last table x)

-- a list that has what another has at its places is no shorter
no_fewer : {X : Type 0} (xs ys : List X) → ((n : ℕ) (x : X) → slice_get xs n ≡ Some x → slice_get ys n ≡ Some x) → length xs ≤ length ys
no_fewer [] ys h = omega arith
no_fewer (x ∷ xs) [] h = absurd (let e = h 0 x refl in cc)
no_fewer (x ∷ xs) (y ∷ ys) h = omega (arith, no_fewer xs ys (λ n z e. h (suc n) z e))

-- the number of a free variable is one of those
found : (n : ℕ) (vs : List Variable) (name : List ℕ) (m : ℕ) → free_number n vs name ≡ Some m → m < n + length vs
found n [] name m e = absurd (cc)
found n (v ∷ vs) name m e = by (v.free && bytes_eq v.name name) (found (suc n) vs name m) e
  where
    by : (b : Bool) → (free_number (suc n) vs name ≡ Some m → m < suc n + length vs) → (if b then Some n else free_number (suc n) vs name) ≡ Some m → m < n + suc (length vs)
    by true rest i = let same : n ≡ m = cc in omega (arith, same)
    by false rest i = omega (arith, rest i)

module _ (prolog : Bool) (T : List Symbol) where
  abbrev st : Style
  st = style_of Prover prolog

  -- what was read has met no misuse, and the table has its symbols
  pub record Fits (s : Reading) : Type 0 where
    pub sound : s.least ≡ None
    pub symbols : KeepsNumbers s.symbols T
    pub count : length s.variables ≤ 2 ^ 64

  back : (a b : Reading) → Grows a b → Fits b → Fits a
  back a b h f = record {
    sound = h.sound f.sound;
    symbols = λ n s e. f.symbols n s (h.symbols n s e);
    count = omega (arith, f.count, no_fewer a.variables b.variables h.variables);
  }

  -- bound names have numbers of the machine
  abbrev Scoped : List Bound → Type 0
  Scoped scope = (name : List ℕ) (n : ℕ) → bound_number scope name ≡ Some n → IsLow n

  scoped_more : (scope : List Bound) (x : List ℕ) (n : ℕ) → IsLow n → Scoped scope → Scoped (record { name = x; number = n } ∷ scope)
  scoped_more scope x n h k name m e = by (bytes_eq x name) e
    where
      by : (b : Bool) → (if b then Some n else bound_number scope name) ≡ Some m → IsLow m
      by true i = let same : n ≡ m = cc in subst IsLow same h
      by false i = k name m i

  -- the variable that a quantifier brings has one
  brought : (x : List ℕ) (free : Bool) (s : Reading) → Fits (with_variable x free s) → IsLow (length s.variables)
  brought x free s f = omega (arith, f.count, length-append s.variables (record { name = x; free = free } ∷ []))

  number_low : (scope : List Bound) (name : List ℕ) (s : Reading) → Scoped scope → Fits (reading_with_name scope name s) → IsLow (variable_number scope name s)
  number_low scope name s c f = by (bound_number scope name) (free_number 0 s.variables name) (c name) (λ m e. omega (arith, found 0 s.variables name m e)) f
    where
      by : (o p : Option ℕ) → ((n : ℕ) → o ≡ Some n → IsLow n) → ((n : ℕ) → p ≡ Some n → n < length s.variables)
          → Fits (if is_some o || is_some p then s else with_variable name true s) → IsLow (unwrap_or o (unwrap_or p (length s.variables)))
      by (Some n) p bound free f = bound n refl
      by None (Some n) bound free f = omega (arith, free n refl, f.count)
      by None None bound free f = brought name true s f

  named_low : (scope : List Bound) (name : List ℕ) (s : Reading) → Scoped scope → Fits (named_variable st scope name s).reading → (n : ℕ) → (named_variable st scope name s).tree ≡ Some n → IsLow n
  unfolding named_variable
  named_low scope name s c =
      cond_both (is_variable st scope name) _ _ (λ (m : Made (Option ℕ)). Fits m.reading → (n : ℕ) → m.tree ≡ Some n → IsLow n)
      (λ e f n i. let same : variable_number scope name s ≡ n = cc in subst IsLow same (number_low scope name s c f)) (λ e f n i. absurd (cc))

  misused : (row : Misuse) (s : Reading) → Fits (meets true row s) → ⊥
  misused row s f = let e = f.sound in cc

  abbrev IsTerm : Tree → Type 0
  IsTerm t = IsTermOf (Stands T Function) t

  abbrev AreTerms : Trees → Type 0
  AreTerms ts = AreTermsOf (Stands T Function) ts

  abbrev InFormula : Fol → Type 0
  InFormula f = Atoms IsLow (IsAtomOf (Stands T Function) (Stands T Relation)) f

  -- a symbol that is read so stands there
  symbol_is : (name : List ℕ) (arity : ℕ) (kind : Kind) (s : Reading) → Fits (with_symbol name arity kind s) → Stands T kind (symbol_number name arity (with_symbol name arity kind s)) arity
  symbol_is name arity kind s f =
      let x = symbol name arity kind in
      let first = no_misuse (bytes_eq name (codes "#")) UnfitAttribute (meets (is_clash s.symbols x) TwoKinds s) f.sound in
      let clear = (no_misuse (is_clash s.symbols x) TwoKinds s first.1).0 in
      record { name = name; there = f.symbols (symbol_number name arity (with_symbol name arity kind s)) x (entered_there s.symbols name arity kind clear) }

  constant_is : (name : List ℕ) (o : Option ℕ) (s : Reading) → ((n : ℕ) → o ≡ Some n → IsLow n) → Fits (constant_as st name o s).reading → IsTerm (constant_as st name o s).tree
  constant_is name (Some n) s low f = low n refl
  constant_is name None s low f = (symbol_is name 0 Function s f, tt)

  many_read : (scope : List Bound) (s : Reading) (ts : RawTrees) → many (terms_of st scope s ts).tree ≡ arity_of ts
  many_read scope s no_raws = refl
  many_read scope s (more_raws t ts) = ap suc (many_read scope (term_of st scope s t).reading ts)

  mutual
    term_is : (scope : List Bound) (s : Reading) (t : RawTree) → Scoped scope → Fits (term_of st scope s t).reading → IsTerm (term_of st scope s t).tree
    term_is scope s (quantified q x t) c f =
        let met = meets true QuantifierInTerm s in
        let inner = with_variable x false met in
        let bounds = record { name = x; number = length s.variables } ∷ scope in
        absurd (misused QuantifierInTerm s (back met _ (beyond met inner _ (grows_variable x false met) (grows_term st bounds inner t)) f))
    term_is scope s (named name no_raws) c f =
        let v = named_variable st scope name s in
        constant_is name v.tree v.reading (named_low scope name s c (back v.reading (constant_as st name v.tree v.reading).reading (grows_constant_as st name v.tree v.reading) f)) f
    term_is scope s (named name (more_raws t ts)) c f =
        let arity = suc (arity_of ts) in
        let before = meets (is_too_great st name) UnfitNumeral s in
        let after = with_symbol name arity Function before in (
          subst (Stands T Function (symbol_number name arity after)) (sym (many_read scope after (more_raws t ts))) (symbol_is name arity Function before (back after _ (grows_terms st scope after (more_raws t ts)) f)),
          terms_are scope after (more_raws t ts) c f,
        )

    terms_are : (scope : List Bound) (s : Reading) (ts : RawTrees) → Scoped scope → Fits (terms_of st scope s ts).reading → AreTerms (terms_of st scope s ts).tree
    terms_are scope s no_raws c f = tt
    terms_are scope s (more_raws t ts) c f =
        let first = term_of st scope s t in
        (term_is scope s t c (back first.reading _ (grows_terms st scope first.reading ts) f), terms_are scope first.reading ts c f)

  -- formulas
  abbrev Holds : Made Fol → Type 0
  Holds m = Fits m.reading → InFormula m.tree

  relation_is : (scope : List Bound) (name : List ℕ) (ts : RawTrees) (s : Reading) → Scoped scope → Holds (relation_of st scope name ts s)
  relation_is scope name ts s c f =
      let before = meets (is_element st name) UnfitNumeral s in
      let after = with_symbol name (arity_of ts) Relation before in (
        inl (subst (Stands T Relation (symbol_number name (arity_of ts) after)) (sym (many_read scope after ts)) (symbol_is name (arity_of ts) Relation before (back after _ (grows_terms st scope after ts) f))),
        terms_are scope after ts c f,
      )

  equation_is : (scope : List Bound) (t u : RawTree) (s : Reading) → Scoped scope → Holds (equation_read st scope t u s)
  equation_is scope t u s c f =
      let left = term_of st scope s t in
      (inr (refl, refl), (term_is scope s t c (back left.reading _ (grows_term st scope left.reading u) f), (term_is scope left.reading u c f, tt)))

  sentence_is : (scope : List Bound) (name : List ℕ) (o : Option ℕ) (s : Reading) → Scoped scope → Holds (sentence_as st scope name o s)
  sentence_is scope name (Some n) s c = λ f. tt
  sentence_is scope name None s c =
      cond_both (bytes_eq name (codes "$T")) _ _ Holds (λ e f. tt)
      (λ j. cond_both (bytes_eq name (codes "$F")) _ _ Holds (λ e f. tt) (λ k. relation_is scope name no_raws s c))

  comparison_is : (scope : List Bound) (name : List ℕ) (t u : RawTree) (s : Reading) → Scoped scope → Holds (comparison st scope name t u s)
  comparison_is scope name t u s c =
      cond_both (bytes_eq name (codes "=")) _ _ Holds (λ e. equation_is scope t u s c)
      (λ j. cond_both (bytes_eq name (codes "!=")) _ _ Holds (λ e. equation_is scope t u s c)
      (λ k. relation_is scope name (more_raws t (more_raws u no_raws)) s c))

  joined_is : (join : Fol → Fol → Fol) → ((a b : Fol) → InFormula a → InFormula b → InFormula (join a b)) → (p q : Reading → Made Fol) → ((s : Reading) → Grows s (q s).reading)
      → ((s : Reading) → Holds (p s)) → ((s : Reading) → Holds (q s)) → (s : Reading) → Holds (connective_read join p q s)
  joined_is join is p q k x y s f =
      let left = p s in
      is left.tree (q left.reading).tree (x s (back left.reading _ (k left.reading) f)) (y left.reading f)

  connective_is : (o : Option Connective) (p q c : Reading → Made Fol) → ((s : Reading) → Grows s (p s).reading) → ((s : Reading) → Grows s (q s).reading) → ((s : Reading) → Holds (p s)) → ((s : Reading) → Holds (q s))
      → ((s : Reading) → Holds (c s)) → (s : Reading) → Holds (by_connective o p q c s)
  connective_is None p q c h k x y z s = z s
  connective_is (Some And) p q c h k x y z s = joined_is conjunction (λ a b i j. (i, j)) p q k x y s
  connective_is (Some Or) p q c h k x y z s = joined_is disjunction (λ a b i j. (i, j)) p q k x y s
  connective_is (Some IfThen) p q c h k x y z s = joined_is implication (λ a b i j. (i, j)) p q k x y s
  connective_is (Some ThenIf) p q c h k x y z s = joined_is implication (λ a b i j. (i, j)) q p h y x s
  connective_is (Some IfAndOnlyIf) p q c h k x y z s = joined_is equivalence (λ a b i j. (i, j)) p q k x y s

  bound_is : (q : Quantifier) (n : ℕ) (f : Fol) → IsLow n → InFormula f → InFormula (bound_by q n f)
  bound_is All n f l h = (l, h)
  bound_is Exists n f l h = (l, h)

  pub formula_is : (t : RawTree) (scope : List Bound) (s : Reading) → Scoped scope → Holds (formula_in st scope s t)
  formula_is (quantified q x t) scope s c = λ f.
      let inner = with_variable x false s in
      let bounds = record { name = x; number = length s.variables } ∷ scope in
      let low = brought x false s (back inner _ (grows_formula st bounds t inner) f) in
      bound_is q (length s.variables) _ low (formula_is t bounds inner (scoped_more scope x (length s.variables) low c) f)
  formula_is (named name no_raws) scope s c = let v = named_variable st scope name s in sentence_is scope name v.tree v.reading c
  formula_is (named name (more_raws t no_raws)) scope s c =
      cond_both (is_denial name) _ _ Holds (λ e. formula_is t scope s c) (λ k. relation_is scope name (more_raws t no_raws) s c)
  formula_is (named name (more_raws t (more_raws u no_raws))) scope s c =
      connective_is (connective_of name) (λ r. formula_in st scope r t) (λ r. formula_in st scope r u) (comparison st scope name t u) (grows_formula st scope t) (grows_formula st scope u)
      (λ r. formula_is t scope r c) (λ r. formula_is u scope r c) (λ r. comparison_is scope name t u r c) s
  formula_is (named name (more_raws t (more_raws u (more_raws w ts)))) scope s c = relation_is scope name (more_raws t (more_raws u (more_raws w ts))) s c
