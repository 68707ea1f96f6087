-- The symbols of a formula that is read without misuse are readable.
use Rattle.std.proofs.Common.{◌≡◌, ℕ, suc, Bool, true, false, not, ◌&&◌, ◌||◌, ◌==◌, if◌then◌else◌, List, [], ◌∷◌, ◌++◌, length, Option, Some, None, is_some, slice_get, inl, inr, refl, sym, ap, ap₂, ◌∙◌, subst, arith}
use Rattle.std.specs.Prelude.{unwrap_or, codes}
use Rattle.std.specs.Option.{option_map_or}
use Rattle.std.specs.Str.{bytes_eq}
use Rattle.std.proofs.lemmas.Bool.{cases_Bool, cond-true, cond-false, cond_both, or_cases, or_parts, and_from, ne_eqb}
use Rattle.std.proofs.lemmas.Bool.Decides.{nat_tests}
use Rattle.fol_core.specs.Bound.{has_symbol, have_symbol, uses_symbol}
use Rattle.fol_core.specs.Fol.{Fol, conjunction, disjunction, implication, equivalence}
use Rattle.fol_core.specs.RawTree.{RawTree, named, quantified, RawTrees, no_raws, more_raws}
use Rattle.fol_core.specs.SymbolTable.{Symbol, symbol, number_of, kind_at, entered, is_clash, is_same_kind, KeepsNumbers}
use Rattle.fol_core.specs.Tree.{Tree, Trees}
use Rattle.fol_core.specs.declared.raw.Quantifier.{Quantifier}
use Rattle.fol_core.specs.declared.raw.Quantifier.TheVariants.{All, Exists}
use Rattle.fol_core.specs.declared.symbols.Kind.{Kind}
use Rattle.fol_core.specs.declared.symbols.Kind.TheVariants.{Function, Relation}
use Rattle.fol_core.proofs.Places.{slice_get_last}
use Rattle.fol_core.proofs.SymbolLemmas.{symbol_there, number_of_push}
use Rattle.ladr_formulas.proofs.Growing.{Grows, beyond, grows_variable, grows_term, grows_terms, grows_formula}
use Rattle.ladr_formulas.specs.Formulas.{Reading, Made, Bound, meets, is_free_name, is_variable, bound_number, with_variable, variable_number, reading_with_name, named_variable, with_symbol, symbol_number, arity_of, is_element, is_too_great, constant_as, constant, term_of, terms_of, relation_of, sentence_as, sentence, equation_read, bound_by, is_denial, connective_of, connective_read, by_connective, comparison, formula_in}
use Rattle.ladr_formulas.specs.declared.connectives.Connective.{Connective}
use Rattle.ladr_formulas.specs.declared.connectives.Connective.TheVariants.{And, Or, IfThen, ThenIf, IfAndOnlyIf}
use Rattle.ladr_formulas.specs.declared.styles.Style.{Style}
use Rattle.ladr_lex.specs.declared.misuse.Misuse.{Misuse}
use Rattle.ladr_lex.specs.declared.misuse.Misuse.TheVariants.{TwoKinds, VariableAsFormula, QuantifierInTerm, UnfitAttribute, UnfitNumeral}
use Rattle.ladr_print.specs.HasText.{CanName, HasText, HaveTexts}
use Rattle.ladr_print.specs.Precedences.{raws_count}
use Rattle.ladr_reader.specs.Table.{OperatorTable}
use Rattle.proof_lines.specs.Literals.{joins_formulas}
use Rattle.proof_print.specs.Rereadable.{names_relation, ReadsAsItself, IsReadableSymbol}

counts : (ts : RawTrees) → raws_count ts ≡ arity_of ts
counts no_raws = refl
counts (more_raws t ts) = ap suc (counts ts)

names_with_three : (name : List ℕ) (n : ℕ) → names_relation name (suc (suc (suc n))) ≡ true
names_with_three name n =
    let m = suc (suc (suc n)) in
    let none : (m == 0) ≡ false = ne_eqb m 0 (λ e. omega (arith, e)) in
    let one : (m == 1) ≡ false = ne_eqb m 1 (λ e. omega (arith, e)) in
    let two : (m == 2) ≡ false = ne_eqb m 2 (λ e. omega (arith, e)) in
    rw (none, one, two) refl

same_kinds : (a b : Kind) → not (is_same_kind a b) ≡ false → a ≡ b
same_kinds Function Function h = refl
same_kinds Function Relation h = absurd (cc)
same_kinds Relation Function h = absurd (cc)
same_kinds Relation Relation h = refl

no_misuse : (test : Bool) (row : Misuse) (s : Reading) → (meets test row s).least ≡ None → (test ≡ false) × (s.least ≡ None)
no_misuse true row s h = absurd (cc)
no_misuse false row s h = (refl, h)

-- a symbol that is entered without a clash stands under its number
entered_there : (table : List Symbol) (name : List ℕ) (arity : ℕ) (kind : Kind) → is_clash table (symbol name arity kind) ≡ false
    → slice_get (entered table (symbol name arity kind)) (unwrap_or (number_of (entered table (symbol name arity kind)) name arity) 0) ≡ Some (symbol name arity kind)
entered_there table name arity kind clear = by (number_of table name arity) refl
  where
    x : Symbol
    x = symbol name arity kind

    after : Bool → List Symbol
    after b = if b then table else table ++ x ∷ []

    by : (o : Option ℕ) → number_of table name arity ≡ o → slice_get (entered table x) (unwrap_or (number_of (entered table x) name arity) 0) ≡ Some x
    by (Some n) e =
        let stays : entered table x ≡ table = ap (λ (o : Option ℕ). after (is_some o)) e in
        let kinds : kind_at table n ≡ kind =
        same_kinds (kind_at table n) kind (sym (ap (λ (o : Option ℕ). option_map_or (λ (k : ℕ). not (is_same_kind (kind_at table k) kind)) o false) e) ∙ clear) in
        let there : slice_get table n ≡ Some x = symbol_there table name arity n e ∙ ap (λ (k : Kind). Some (symbol name arity k)) kinds in
        subst (λ (t : List Symbol). slice_get t (unwrap_or (number_of t name arity) 0) ≡ Some x) (sym stays) (ap (λ (o : Option ℕ). slice_get table (unwrap_or o 0)) e ∙ there)
    by None e =
        let comes : entered table x ≡ table ++ x ∷ [] = ap (λ (o : Option ℕ). after (is_some o)) e in
        subst (λ (t : List Symbol). slice_get t (unwrap_or (number_of t name arity) 0) ≡ Some x) (sym comes) (ap (λ (o : Option ℕ). slice_get (table ++ x ∷ []) (unwrap_or o 0)) (number_of_push table name arity kind e) ∙ slice_get_last table x)

module _ (g : OperatorTable) (st : Style) (T : List Symbol) where
  -- what was read has met no misuse, and the table has its symbols
  pub record Fits (s : Reading) : Type 0 where
    pub sound : s.least ≡ None
    pub symbols : KeepsNumbers s.symbols T

  back : (a b : Reading) → Grows a b → Fits b → Fits a
  back a b h f = record { sound = h.sound f.sound; symbols = λ n s e. f.symbols n s (h.symbols n s e) }

  misused : (row : Misuse) (s : Reading) → Fits (meets true row s) → ⊥
  misused row s f = let e = f.sound in cc

  abbrev R : ℕ → Type 0
  R n = IsReadableSymbol g st T n

  abbrev InTree : Tree → Type 0
  InTree t = (n : ℕ) → has_symbol n t ≡ true → R n

  abbrev InTrees : Trees → Type 0
  InTrees ts = (n : ℕ) → have_symbol n ts ≡ true → R n

  abbrev InFormula : Fol → Type 0
  InFormula f = (n : ℕ) → uses_symbol n f ≡ true → R n

  nowhere : (n : ℕ) → false ≡ true → R n
  nowhere n e = absurd (cc)

  either : (p q : ℕ → Bool) → ((n : ℕ) → p n ≡ true → R n) → ((n : ℕ) → q n ≡ true → R n) → (n : ℕ) → (p n || q n) ≡ true → R n
  either p q h k n e = elim (or_cases (p n) (q n) e) [ inl i ↦ h n i | inr j ↦ k n j ]

  this : (s : ℕ) → R s → (n : ℕ) → (n == s) ≡ true → R n
  this s r n e = let same : s ≡ n = grind (arith, nat_tests) in subst R same r

  no_attribute : (name : List ℕ) (arity : ℕ) (kind : Kind) (s : Reading) → Fits (with_symbol name arity kind s) → (bytes_eq name (codes "#") ≡ false) × (is_clash s.symbols (symbol name arity kind) ≡ false)
  no_attribute name arity kind s f =
      let x = symbol name arity kind in
      let first = no_misuse (bytes_eq name (codes "#")) UnfitAttribute (meets (is_clash s.symbols x) TwoKinds s) f.sound in
      (first.0, (no_misuse (is_clash s.symbols x) TwoKinds s first.1).0)

  -- a symbol that is read so is readable
  symbol_is : (name : List ℕ) (arity : ℕ) (kind : Kind) (s : Reading) → CanName g name arity → (arity ≡ 0 → is_free_name st name ≡ false)
      → (bytes_eq name (codes "#") ≡ false → kind ≡ Relation → names_relation name arity ≡ true) → Fits (with_symbol name arity kind s) → R (symbol_number name arity (with_symbol name arity kind s))
  symbol_is name arity kind s can free relation f =
      let x = symbol name arity kind in
      let clear = no_attribute name arity kind s f in
      let n = symbol_number name arity (with_symbol name arity kind s) in
      let there : slice_get T n ≡ Some x = f.symbols n x (entered_there s.symbols name arity kind clear.1) in
      let own : ReadsAsItself st x = record { no_attribute = clear.0; no_variable = free; relation = relation clear.0 } in
      record {
        named = subst (λ (o : Option Symbol). CanName g (option_map_or (λ (y : Symbol). y.name) o []) (option_map_or (λ (y : Symbol). y.arity) o 0)) (sym there) can;
        itself = λ y e. let same : x ≡ y = (let i : Some x ≡ Some y = sym there ∙ e in cc) in subst (ReadsAsItself st) same own;
      }

  unfree : (scope : List Bound) (name : List ℕ) → is_variable st scope name ≡ false → is_free_name st name ≡ false
  unfree scope name h = (or_parts (is_some (bound_number scope name)) (is_free_name st name) h).1

  function_is : (name : List ℕ) (arity : ℕ) (s : Reading) → CanName g name arity → (arity ≡ 0 → is_free_name st name ≡ false) → Fits (with_symbol name arity Function s)
      → R (symbol_number name arity (with_symbol name arity Function s))
  function_is name arity s can free f = symbol_is name arity Function s can free (λ e k. absurd (cc)) f

  -- a name without arguments
  none_is : (scope : List Bound) (name : List ℕ) (s : Reading) → CanName g name 0 → is_free_name st name ≡ false → Fits (constant_as st name None s).reading → InTree (constant_as st name None s).tree
  none_is scope name s can free =
      cond_both (is_element st name) _ _ (λ (m : Made Tree). Fits m.reading → InTree m.tree) (λ e f. nowhere)
      (λ e f. either (λ n. n == symbol_number name 0 (with_symbol name 0 Function s)) (λ n. false) (this _ (function_is name 0 s can (λ z. free) f)) nowhere)

  constant_is : (scope : List Bound) (name : List ℕ) (s : Reading) → CanName g name 0 → Fits (constant st scope name s).reading → InTree (constant st scope name s).tree
  unfolding named_variable
  constant_is scope name s can f =
      elim (cases_Bool (is_variable st scope name)) [
        | inl y ↦ (let e : named_variable st scope name s ≡ record { tree = Some (variable_number scope name s); reading = reading_with_name scope name s } = cond-true (is_variable st scope name) _ _ y in
            subst (λ (m : Made (Option ℕ)). InTree (constant_as st name m.tree m.reading).tree) (sym e) nowhere)
        | inr k ↦ (let e : named_variable st scope name s ≡ record { tree = None; reading = s } = cond-false (is_variable st scope name) _ _ k in
            subst (λ (m : Made (Option ℕ)). InTree (constant_as st name m.tree m.reading).tree) (sym e)
            (none_is scope name s can (unfree scope name k) (subst (λ (m : Made (Option ℕ)). Fits (constant_as st name m.tree m.reading).reading) e f)))
      ]

  mutual
    term_is : (scope : List Bound) (s : Reading) (t : RawTree) → HasText g t → Fits (term_of st scope s t).reading → InTree (term_of st scope s t).tree
    term_is scope s (quantified q x t) h f =
        let met = meets true QuantifierInTerm s in
        let inner = with_variable x false met in
        let bounds = record { name = x; number = length s.variables } ∷ scope in
        absurd (misused QuantifierInTerm s (back met _ (beyond met inner _ (grows_variable x false met) (grows_term st bounds inner t)) f))
    term_is scope s (named name no_raws) h f = constant_is scope name s h.0 f
    term_is scope s (named name (more_raws t ts)) h f =
        let arity = suc (arity_of ts) in
        let after = with_symbol name arity Function (meets (is_too_great st name) UnfitNumeral s) in
        let can : CanName g name arity = subst (CanName g name) (counts (more_raws t ts)) h.0 in
        let own = function_is name arity (meets (is_too_great st name) UnfitNumeral s) can (λ e. absurd (omega (arith, e))) (back after _ (grows_terms st scope after (more_raws t ts)) f) in
        either (λ n. n == symbol_number name arity after) (λ n. have_symbol n (terms_of st scope after (more_raws t ts)).tree) (this _ own) (terms_are scope after (more_raws t ts) h.1 f)

    terms_are : (scope : List Bound) (s : Reading) (ts : RawTrees) → HaveTexts g ts → Fits (terms_of st scope s ts).reading → InTrees (terms_of st scope s ts).tree
    terms_are scope s no_raws h f = nowhere
    terms_are scope s (more_raws t ts) h f =
        let first = term_of st scope s t in
        either (λ n. has_symbol n first.tree) (λ n. have_symbol n (terms_of st scope first.reading ts).tree)
        (term_is scope s t h.0 (back first.reading _ (grows_terms st scope first.reading ts) f)) (terms_are scope first.reading ts h.1 f)

  -- formulas
  abbrev Holds : Made Fol → Type 0
  Holds m = Fits m.reading → InFormula m.tree

  relation_is : (scope : List Bound) (name : List ℕ) (ts : RawTrees) (s : Reading) → HasText g (named name ts) → (arity_of ts ≡ 0 → is_free_name st name ≡ false)
      → (bytes_eq name (codes "#") ≡ false → names_relation name (arity_of ts) ≡ true) → Holds (relation_of st scope name ts s)
  relation_is scope name ts s h free relation f =
      let met = meets (is_element st name) UnfitNumeral s in
      let after = with_symbol name (arity_of ts) Relation met in
      let can : CanName g name (arity_of ts) = subst (CanName g name) (counts ts) h.0 in
      let own = symbol_is name (arity_of ts) Relation met can free (λ e k. relation e) (back after _ (grows_terms st scope after ts) f) in
      either (λ n. n == symbol_number name (arity_of ts) after) (λ n. have_symbol n (terms_of st scope after ts).tree) (this _ own) (terms_are scope after ts h.1 f)

  equation_is : (scope : List Bound) (t u : RawTree) (s : Reading) → HasText g t → HasText g u → Holds (equation_read st scope t u s)
  equation_is scope t u s h k f =
      let left = term_of st scope s t in
      either (λ n. has_symbol n left.tree) (λ n. has_symbol n (term_of st scope left.reading u).tree)
      (term_is scope s t h (back left.reading _ (grows_term st scope left.reading u) f)) (term_is scope left.reading u k f)

  neither : (a b : Bool) → a ≡ false → b ≡ false → (not (a || b) && not (false && false)) ≡ true
  neither a b h k = and_from (not (a || b)) true (ap₂ (λ (x y : Bool). not (x || y)) h k) refl

  sentence_none : (scope : List Bound) (name : List ℕ) (s : Reading) → HasText g (named name no_raws) → is_free_name st name ≡ false → Holds (sentence_as st scope name None s)
  sentence_none scope name s h free =
      cond_both (bytes_eq name (codes "$T")) _ _ Holds (λ e f. nowhere)
      (λ j. cond_both (bytes_eq name (codes "$F")) _ _ Holds (λ e f. nowhere)
      (λ k. relation_is scope name no_raws s h (λ e. free) (λ e. neither (bytes_eq name (codes "$T")) (bytes_eq name (codes "$F")) j k)))

  sentence_is : (scope : List Bound) (name : List ℕ) (s : Reading) → HasText g (named name no_raws) → Holds (sentence st scope name s)
  unfolding named_variable
  sentence_is scope name s h =
      elim (cases_Bool (is_variable st scope name)) [
        | inl y ↦ (let e : named_variable st scope name s ≡ record { tree = Some (variable_number scope name s); reading = reading_with_name scope name s } = cond-true (is_variable st scope name) _ _ y in
            subst (λ (m : Made (Option ℕ)). Holds (sentence_as st scope name m.tree m.reading)) (sym e) (λ f. absurd (misused VariableAsFormula (reading_with_name scope name s) f)))
        | inr k ↦ (let e : named_variable st scope name s ≡ record { tree = None; reading = s } = cond-false (is_variable st scope name) _ _ k in
            subst (λ (m : Made (Option ℕ)). Holds (sentence_as st scope name m.tree m.reading)) (sym e) (sentence_none scope name s h (unfree scope name k)))
      ]

  one_is : (scope : List Bound) (name : List ℕ) (t : RawTree) (s : Reading) → HasText g (named name (more_raws t no_raws)) → Holds (formula_in st scope s t) → Holds (formula_in st scope s (named name (more_raws t no_raws)))
  one_is scope name t s h inner =
      cond_both (is_denial name) _ _ Holds (λ e f. inner f)
      (λ k. relation_is scope name (more_raws t no_raws) s h (λ e. absurd (omega (arith, e))) (λ e. and_from (not (is_denial name)) true (ap not k) refl))

  -- a name with two arguments that joins no formulas
  joins_none : (name : List ℕ) → connective_of name ≡ None → bytes_eq name (codes "!=") ≡ false → bytes_eq name (codes "#") ≡ false → joins_formulas name ≡ false
  joins_none name h k l =
      by (bytes_eq name (codes "&")) (bytes_eq name (codes "|")) (bytes_eq name (codes "->")) (bytes_eq name (codes "<-")) (bytes_eq name (codes "<->")) (bytes_eq name (codes "!=")) (bytes_eq name (codes "#")) h k l
    where
      by : (a b c d e i j : Bool) → (if a then Some And else (if b then Some Or else (if c then Some IfThen else (if d then Some ThenIf else (if e then Some IfAndOnlyIf else None))))) ≡ None → i ≡ false → j ≡ false
          → (a || b || c || d || e || i || j) ≡ false
      by true b c d e i j h k l = absurd (cc)
      by false true c d e i j h k l = absurd (cc)
      by false false true d e i j h k l = absurd (cc)
      by false false false true e i j h k l = absurd (cc)
      by false false false false true i j h k l = absurd (cc)
      by false false false false false i j h k l = ap₂ (λ (x y : Bool). x || y) k l

  comparison_is : (scope : List Bound) (name : List ℕ) (t u : RawTree) (s : Reading) → HasText g (named name (more_raws t (more_raws u no_raws))) → connective_of name ≡ None → Holds (comparison st scope name t u s)
  comparison_is scope name t u s h joins =
      cond_both (bytes_eq name (codes "=")) _ _ Holds (λ e. equation_is scope t u s h.1.0 h.1.1.0)
      (λ j. cond_both (bytes_eq name (codes "!=")) _ _ Holds (λ e. equation_is scope t u s h.1.0 h.1.1.0)
      (λ k. relation_is scope name (more_raws t (more_raws u no_raws)) s h (λ e. absurd (omega (arith, e)))
      (λ l. and_from (not (joins_formulas name)) (not (bytes_eq name (codes "="))) (ap not (joins_none name joins k l)) (ap not j))))

  joined_is : (join : Fol → Fol → Fol) → ((n : ℕ) (a b : Fol) → uses_symbol n (join a b) ≡ (uses_symbol n a || uses_symbol n b)) → (p q : Reading → Made Fol) → ((s : Reading) → Grows s (q s).reading)
      → ((s : Reading) → Holds (p s)) → ((s : Reading) → Holds (q s)) → (s : Reading) → Holds (connective_read join p q s)
  joined_is join is p q k x y s f = λ n e.
      let left = p s in
      let right = q left.reading in
      either (λ m. uses_symbol m left.tree) (λ m. uses_symbol m right.tree) (x s (back left.reading _ (k left.reading) f)) (y left.reading f) n (sym (is n left.tree right.tree) ∙ e)

  connective_is : (o : Option Connective) (p q c : Reading → Made Fol) → ((s : Reading) → Grows s (p s).reading) → ((s : Reading) → Grows s (q s).reading) → ((s : Reading) → Holds (p s)) → ((s : Reading) → Holds (q s))
      → (o ≡ None → (s : Reading) → Holds (c s)) → (s : Reading) → Holds (by_connective o p q c s)
  connective_is None p q c h k x y z s = z refl s
  connective_is (Some And) p q c h k x y z s = joined_is conjunction (λ n a b. refl) p q k x y s
  connective_is (Some Or) p q c h k x y z s = joined_is disjunction (λ n a b. refl) p q k x y s
  connective_is (Some IfThen) p q c h k x y z s = joined_is implication (λ n a b. refl) p q k x y s
  connective_is (Some ThenIf) p q c h k x y z s = joined_is implication (λ n a b. refl) q p h y x s
  connective_is (Some IfAndOnlyIf) p q c h k x y z s = joined_is equivalence (λ n a b. refl) p q k x y s

  bound_is : (q : Quantifier) (n : ℕ) (f : Fol) → InFormula f → InFormula (bound_by q n f)
  bound_is All n f h = h
  bound_is Exists n f h = h

  pub formula_is : (t : RawTree) (scope : List Bound) (s : Reading) → HasText g t → Holds (formula_in st scope s t)
  formula_is (quantified q x t) scope s h = λ f.
      let bounds = record { name = x; number = length s.variables } ∷ scope in
      bound_is q (length s.variables) _ (formula_is t bounds (with_variable x false s) h.1 f)
  formula_is (named name no_raws) scope s h = sentence_is scope name s h
  formula_is (named name (more_raws t no_raws)) scope s h = one_is scope name t s h (formula_is t scope s h.1.0)
  formula_is (named name (more_raws t (more_raws u no_raws))) scope s h =
      connective_is (connective_of name) (λ r. formula_in st scope r t) (λ r. formula_in st scope r u) (comparison st scope name t u) (grows_formula st scope t) (grows_formula st scope u)
      (λ z. formula_is t scope z h.1.0) (λ z. formula_is u scope z h.1.1.0) (λ e z. comparison_is scope name t u z h e) s
  formula_is (named name (more_raws t (more_raws u (more_raws w ts)))) scope s h =
      relation_is scope name (more_raws t (more_raws u (more_raws w ts))) s h (λ e. absurd (omega (arith, e))) (λ e. names_with_three name (arity_of ts))
