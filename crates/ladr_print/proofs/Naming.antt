-- A formula that was read is printed with the names that it was read by.
use Rattle.std.proofs.Common.{◌≡◌, ℕ, suc, ◌+◌, ◌^◌, ◌<◌, Bool, true, false, List, [], ◌∷◌, length, Option, Some, None, inl, inr, refl, sym, ap, ap₂, ◌∙◌, subst, arith}
use Rattle.std.specs.Prelude.{◌==◌, ◌&&◌, unwrap_or, slice_get, nat_lt, codes}
use Rattle.std.specs.Option.{option_map_or}
use Rattle.std.specs.Str.{bytes_eq}
use Rattle.std.specs.Fmt.{decimal}
use Rattle.std.proofs.lemmas.Bool.{false≢true, cases_Bool, and_parts, ne_eqb, cond_both, cond-true, cond-false}
use Rattle.std.proofs.lemmas.Bool.Decides.{nat_tests}
use Rattle.std.proofs.lemmas.Option.{slice_get_within}
use Rattle.std.proofs.lemmas.Slice.Eq.{bytes_eq-Decides}
use Rattle.fol_core.specs.Fol.{Fol, conjunction, disjunction, implication, equivalence}
use Rattle.fol_core.specs.Literals.{equality}
use Rattle.fol_core.specs.RawTree.{RawTree, named, quantified, RawTrees, no_raws, more_raws}
use Rattle.fol_core.specs.SymbolTable.{Symbol, number_of, name_at, entered, KeepsNumbers}
use Rattle.fol_core.specs.Tree.{Tree, elem, app, none}
use Rattle.fol_core.specs.declared.raw.Quantifier.{Quantifier}
use Rattle.fol_core.specs.declared.raw.Quantifier.TheVariants.{All, Exists}
use Rattle.fol_core.specs.declared.symbols.Kind.{Kind}
use Rattle.fol_core.specs.declared.symbols.Kind.TheVariants.{Function, Relation}
use Rattle.fol_core.proofs.Places.{slice_get_last}
use Rattle.fol_core.proofs.SymbolLemmas.{symbol_there, number_of_push}
use Rattle.ladr_lex.specs.declared.limits.TheConstants.{MOST_ELEMENT}
use Rattle.ladr_lex.specs.Numeral.{is_numeral, limited_number_of}
use Rattle.ladr_lex.specs.declared.misuse.Misuse.{Misuse}
use Rattle.ladr_lex.specs.declared.misuse.Misuse.TheVariants.{VariableAsFormula, QuantifierInTerm, UnfitNumeral}
use Rattle.ladr_formulas.specs.Formulas.{Variable, Reading, Made, Bound, meets, bound_number, free_number, is_variable, with_variable, variable_number, reading_with_name, named_variable, with_symbol, symbol_number, arity_of, is_too_great, is_element, constant_as, constant, term_of, terms_of, relation_of, sentence_as, sentence, equation_read, bound_by, is_denial, connective_of, connective_read, by_connective, comparison, formula_in}
use Rattle.ladr_formulas.specs.declared.connectives.Connective.{Connective}
use Rattle.ladr_formulas.specs.declared.connectives.Connective.TheVariants.{And, Or, IfThen, ThenIf, IfAndOnlyIf}
use Rattle.ladr_formulas.specs.declared.styles.Style.{Style}
use Rattle.ladr_formulas.proofs.Growing.{Grows, beyond, grows_name, grows_variable, grows_term, grows_terms, grows_formula}
use Rattle.ladr_print.specs.FormulaText.{two, denial, formula_raw}
use Rattle.ladr_print.specs.TermText.{Naming, symbol_name, term_raw, terms_raw}
use Rattle.ladr_lex.proofs.Numerals.{decimal_number}
use Rattle.ladr_print.proofs.Rereading.{turned, by_one, by_two}

-- a number that isn't above the greatest element
last_false : (p q r : Bool) → (p && q && r) ≡ false → p ≡ true → q ≡ true → r ≡ false
last_false true true r h a b = h
last_false true false r h a b = absurd (false≢true b)
last_false false q r h a b = absurd (false≢true a)

below_both : (n : ℕ) → nat_lt MOST_ELEMENT n ≡ false → n < 4294967295
below_both n h = grind (arith, nat_tests)

-- what is printed with: a table of symbols and names of variables in which all that was read is found
module _ (T : List Symbol) (v : Naming) where
  pub record Reaches (s : Reading) : Type 0 where
    pub sound : s.least ≡ None
    pub symbols : KeepsNumbers s.symbols T
    pub names : (n : ℕ) (x : Variable) → slice_get s.variables n ≡ Some x → v n ≡ x.name

  pub before : (a b : Reading) → Grows a b → Reaches b → Reaches a
  before a b g r = record { sound = g.sound r.sound; symbols = λ n s e. r.symbols n s (g.symbols n s e); names = λ n x e. r.names n x (g.variables n x e) }

  -- bound names are those of their variables
  abbrev Scoped : List Bound → Type 0
  Scoped scope = (name : List ℕ) (n : ℕ) → bound_number scope name ≡ Some n → v n ≡ name

  scoped_more : (scope : List Bound) (x : List ℕ) (n : ℕ) → v n ≡ x → Scoped scope → Scoped (record { name = x; number = n } ∷ scope)
  scoped_more scope x n h k name m e = by (bytes_eq x name) refl
    where
      by : (b : Bool) → bytes_eq x name ≡ b → v m ≡ name
      by true f = let i : Some n ≡ Some m = rw f at e in let j : n ≡ m = cc in ap v (sym j) ∙ h ∙ (bytes_eq-Decides x name).0 f
      by false f = k name m (rw f at e)

  -- a misuse that was met is known
  pub unmet : (row : Misuse) (s : Reading) → Reaches (meets true row s) → ⊥
  unmet row s r = let e = r.sound in cc

  pub clear : (test : Bool) (row : Misuse) (s : Reading) → Reaches (meets test row s) → test ≡ false
  clear true row s r = absurd (unmet row s r)
  clear false row s r = refl

  -- a free name is that of its variable
  abbrev Found : ℕ → List Variable → List ℕ → ℕ → Type 0
  Found n vs name m = (k : ℕ) × (x : Variable) × (m ≡ n + k) × (slice_get vs k ≡ Some x) × (x.name ≡ name)

  found_step :
      (n : ℕ) (x : Variable) (vs : List Variable) (name : List ℕ) (m : ℕ) → (free_number (suc n) vs name ≡ Some m → Found (suc n) vs name m) →
      (b : Bool) → (x.free && bytes_eq x.name name) ≡ b → free_number n (x ∷ vs) name ≡ Some m → Found n (x ∷ vs) name m
  found_step n x vs name m rest true f e =
      let i : Some n ≡ Some m = rw f at e in
      let j : n ≡ m = cc in
      (0, x, omega arith, refl, (bytes_eq-Decides x.name name).0 (and_parts _ _ f).1)
  found_step n x vs name m rest false f e = let r = rest (rw f at e) in (suc r.0, r.1, omega (arith, r.2), r.3, r.4)

  pub free_found : (n : ℕ) (vs : List Variable) (name : List ℕ) (m : ℕ) → free_number n vs name ≡ Some m → Found n vs name m
  free_found n [] name m e = absurd (cc)
  free_found n (x ∷ vs) name m e = found_step n x vs name m (free_found (suc n) vs name m) (x.free && bytes_eq x.name name) refl e

  variable_back : (scope : List Bound) (name : List ℕ) (s : Reading) → Scoped scope → Reaches (reading_with_name scope name s) → v (variable_number scope name s) ≡ name
  variable_back scope name s c r = at (bound_number scope name) refl (free_number 0 s.variables name) refl
    where
      at : (o : Option ℕ) → bound_number scope name ≡ o → (f : Option ℕ) → free_number 0 s.variables name ≡ f → v (variable_number scope name s) ≡ name
      at (Some n) e f g = rw e (c name n e)
      at None e (Some n) g =
          let found = free_found 0 s.variables name n g in
          let kept : Reaches s = before s (reading_with_name scope name s) (grows_name scope name s) r in
          let here : n ≡ found.0 = omega (arith, found.2) in
          rw (e, g) (ap v here ∙ kept.names found.0 found.1 found.3 ∙ found.4)
      at None e None g =
          let all : Reaches (with_variable name true s) = subst (λ (z : Reading). Reaches z) (rw (e, g) refl) r in
          rw (e, g) (all.names (length s.variables) (record { name = name; free = true }) (slice_get_last s.variables (record { name = name; free = true })))

  entered_found : (table : List Symbol) (x : Symbol) → (n : ℕ) × (number_of (entered table x) x.name x.arity ≡ Some n)
  entered_found table x = by (number_of table x.name x.arity) refl
    where
      by : (o : Option ℕ) → number_of table x.name x.arity ≡ o → (n : ℕ) × (number_of (entered table x) x.name x.arity ≡ Some n)
      by (Some n) e = (n, rw e e)
      by None e = (length table, rw e (number_of_push table x.name x.arity x.kind e))

  module _ (fewer : length T < 2 ^ 64) where
    pub symbol_back : (name : List ℕ) (arity : ℕ) (kind : Kind) (s : Reading) → Reaches (with_symbol name arity kind s) → symbol_name T (symbol_number name arity (with_symbol name arity kind s)) ≡ name
    symbol_back name arity kind s r =
        let x : Symbol = record { name = name; arity = arity; kind = kind } in
        let f = entered_found s.symbols x in
        let limited_number_of : symbol_number name arity (with_symbol name arity kind s) ≡ f.0 = ap (λ (o : Option ℕ). unwrap_or o 0) f.1 in
        let there = r.symbols f.0 _ (symbol_there (entered s.symbols x) name arity f.0 f.1) in
        let called : name_at T f.0 ≡ name = ap (λ (o : Option Symbol). option_map_or (λ y. y.name) o []) there in
        let within : f.0 < length T = slice_get_within T f.0 _ there in
        let other : (f.0 == equality) ≡ false = ne_eqb f.0 equality (λ e. omega (arith, within, fewer, e)) in
        ap (symbol_name T) limited_number_of ∙ rw other called

    bound_element : (st : Style) (name : List ℕ) → st.elements ≡ true → is_numeral name ≡ true → is_too_great st name ≡ false → limited_number_of name < 4294967295
    bound_element st name a b k = below_both (limited_number_of name) (last_false st.elements (is_numeral name) (nat_lt MOST_ELEMENT (limited_number_of name)) k a b)

    pub element_back : (st : Style) (name : List ℕ) → is_element st name ≡ true → is_too_great st name ≡ false → decimal (limited_number_of name) ≡ name
    element_back st name y k =
        let parts = and_parts st.elements (is_numeral name) y in
        decimal_number name (bound_element st name parts.0 parts.1 k)

    -- a name without arguments
    none_back : (st : Style) (name : List ℕ) (s : Reading) → Reaches (constant_as st name None s).reading → term_raw T v (constant_as st name None s).tree ≡ named name no_raws
    none_back st name s r =
        elim (cases_Bool (is_element st name)) [
          | inl y ↦ (let e : constant_as st name None s ≡ record { tree = elem (limited_number_of name); reading = meets (is_too_great st name) UnfitNumeral s } = cond-true (is_element st name) _ _ y in
              let met : Reaches (meets (is_too_great st name) UnfitNumeral s) = subst (λ (m : Made Tree). Reaches m.reading) e r in
              ap (λ (m : Made Tree). term_raw T v m.tree) e ∙ ap (λ (l : List ℕ). named l no_raws) (element_back st name y (clear (is_too_great st name) UnfitNumeral s met)))
          | inr k ↦ (let after = with_symbol name 0 Function s in
              let e : constant_as st name None s ≡ record { tree = app (symbol_number name 0 after) none; reading = after } = cond-false (is_element st name) _ _ k in
              let met : Reaches after = subst (λ (m : Made Tree). Reaches m.reading) e r in
              ap (λ (m : Made Tree). term_raw T v m.tree) e ∙ ap (λ (l : List ℕ). named l no_raws) (symbol_back name 0 Function s met))
        ]

    constant_back : (st : Style) (scope : List Bound) (name : List ℕ) (s : Reading) → Scoped scope → Reaches (constant st scope name s).reading →
        term_raw T v (constant st scope name s).tree ≡ named name no_raws
    unfolding named_variable
    constant_back st scope name s c r =
        elim (cases_Bool (is_variable st scope name)) [
          | inl y ↦ (let e : named_variable st scope name s ≡ record { tree = Some (variable_number scope name s); reading = reading_with_name scope name s } = cond-true (is_variable st scope name) _ _ y in
              let met : Reaches (reading_with_name scope name s) = subst (λ (m : Made (Option ℕ)). Reaches (constant_as st name m.tree m.reading).reading) e r in
              ap (λ (m : Made (Option ℕ)). term_raw T v (constant_as st name m.tree m.reading).tree) e ∙ ap (λ (l : List ℕ). named l no_raws) (variable_back scope name s c met))
          | inr k ↦ (let e : named_variable st scope name s ≡ record { tree = None; reading = s } = cond-false (is_variable st scope name) _ _ k in
              let met : Reaches (constant_as st name None s).reading = subst (λ (m : Made (Option ℕ)). Reaches (constant_as st name m.tree m.reading).reading) e r in
              ap (λ (m : Made (Option ℕ)). term_raw T v (constant_as st name m.tree m.reading).tree) e ∙ none_back st name s met)
        ]

    mutual
      pub term_back : (st : Style) (scope : List Bound) (s : Reading) (t : RawTree) → Scoped scope → Reaches (term_of st scope s t).reading → term_raw T v (term_of st scope s t).tree ≡ t
      term_back st scope s (quantified q x t) c r =
          let met = meets true QuantifierInTerm s in
          let inner = with_variable x false met in
          absurd (unmet QuantifierInTerm s (before met _ (beyond met inner _ (grows_variable x false met) (grows_term st (record { name = x; number = length s.variables } ∷ scope) inner t)) r))
      term_back st scope s (named name no_raws) c r = constant_back st scope name s c r
      term_back st scope s (named name (more_raws t ts)) c r =
          let met = meets (is_too_great st name) UnfitNumeral s in
          let after = with_symbol name (suc (arity_of ts)) Function met in
          ap₂ named (symbol_back name (suc (arity_of ts)) Function met (before after _ (grows_terms st scope after (more_raws t ts)) r)) (terms_back st scope after (more_raws t ts) c r)

      terms_back : (st : Style) (scope : List Bound) (s : Reading) (ts : RawTrees) → Scoped scope → Reaches (terms_of st scope s ts).reading → terms_raw T v (terms_of st scope s ts).tree ≡ ts
      terms_back st scope s no_raws c r = refl
      terms_back st scope s (more_raws t ts) c r =
          let first = term_of st scope s t in
          ap₂ more_raws (term_back st scope s t c (before first.reading _ (grows_terms st scope first.reading ts) r)) (terms_back st scope first.reading ts c r)

    relation_back : (st : Style) (scope : List Bound) (name : List ℕ) (ts : RawTrees) (s : Reading) → Scoped scope → Reaches (relation_of st scope name ts s).reading →
        formula_raw T v (relation_of st scope name ts s).tree ≡ named name ts
    relation_back st scope name ts s c r =
        let met = meets (is_element st name) UnfitNumeral s in
        let after = with_symbol name (arity_of ts) Relation met in
        ap₂ named (symbol_back name (arity_of ts) Relation met (before after _ (grows_terms st scope after ts) r)) (terms_back st scope after ts c r)

    equation_back : (st : Style) (scope : List Bound) (t u : RawTree) (s : Reading) → Scoped scope → Reaches (equation_read st scope t u s).reading →
        formula_raw T v (equation_read st scope t u s).tree ≡ two (codes "=") t u
    equation_back st scope t u s c r =
        let left = term_of st scope s t in
        ap₂ (two (codes "=")) (term_back st scope s t c (before left.reading _ (grows_term st scope left.reading u) r)) (term_back st scope left.reading u c r)

    -- formulas
    abbrev Backs : Made Fol → RawTree → Type 0
    Backs m t = Reaches m.reading → formula_raw T v m.tree ≡ t

    sentence_none : (st : Style) (scope : List Bound) (name : List ℕ) (s : Reading) → Scoped scope → Backs (sentence_as st scope name None s) (named name no_raws)
    sentence_none st scope name s c =
        cond_both (bytes_eq name (codes "$T")) _ _ (λ (m : Made Fol). Backs m (named name no_raws))
        (λ e r. ap (λ (l : List ℕ). named l no_raws) (sym ((bytes_eq-Decides name (codes "$T")).0 e)))
        (λ k. cond_both (bytes_eq name (codes "$F")) _ _ (λ (m : Made Fol). Backs m (named name no_raws))
        (λ e r. ap (λ (l : List ℕ). named l no_raws) (sym ((bytes_eq-Decides name (codes "$F")).0 e)))
        (λ j r. relation_back st scope name no_raws s c r))

    sentence_back : (st : Style) (scope : List Bound) (name : List ℕ) (s : Reading) → Scoped scope → Backs (sentence st scope name s) (named name no_raws)
    sentence_back st scope name s c = at (named_variable st scope name s).tree (named_variable st scope name s).reading
      where
        at : (o : Option ℕ) (z : Reading) → Backs (sentence_as st scope name o z) (named name no_raws)
        at (Some n) z = λ r. absurd (unmet VariableAsFormula z r)
        at None z = sentence_none st scope name z c

    comparison_back : (st : Style) (scope : List Bound) (name : List ℕ) (t u : RawTree) (s : Reading) → Scoped scope → Backs (comparison st scope name t u s) (two name t u)
    comparison_back st scope name t u s c =
        cond_both (bytes_eq name (codes "=")) _ _ (λ (m : Made Fol). Backs m (two name t u))
        (λ e r. equation_back st scope t u s c r ∙ ap (λ (l : List ℕ). two l t u) (sym ((bytes_eq-Decides name (codes "=")).0 e)))
        (λ k. cond_both (bytes_eq name (codes "!=")) _ _ (λ (m : Made Fol). Backs m (two name t u))
        (λ e r. ap denial (equation_back st scope t u s c r) ∙ ap (λ (l : List ℕ). two l t u) (sym ((bytes_eq-Decides name (codes "!=")).0 e)))
        (λ j r. relation_back st scope name (more_raws t (more_raws u no_raws)) s c r))

    joined_back : (word : List ℕ) (join : Fol → Fol → Fol) (f g : Reading → Made Fol) (t u : RawTree) → ((a b : Fol) → formula_raw T v (join a b) ≡ two word (formula_raw T v a) (formula_raw T v b)) →
        ((s : Reading) → Grows s (g s).reading) → ((s : Reading) → Backs (f s) t) → ((s : Reading) → Backs (g s) u) → (s : Reading) → Backs (connective_read join f g s) (two word t u)
    joined_back word join f g t u w k x y s r = w (f s).tree (g (f s).reading).tree ∙ ap₂ (two word) (x s (before (f s).reading _ (k (f s).reading) r)) (y (f s).reading r)

    connective_back : (o : Option Connective) (f g c : Reading → Made Fol) (t u other : RawTree) → ((s : Reading) → Grows s (f s).reading) → ((s : Reading) → Grows s (g s).reading) →
        ((s : Reading) → Backs (f s) t) → ((s : Reading) → Backs (g s) u) → ((s : Reading) → Backs (c s) other) → (s : Reading) → Backs (by_connective o f g c s) (by_two o t u other)
    connective_back None f g c t u other h k x y z s = z s
    connective_back (Some And) f g c t u other h k x y z s = joined_back (codes "&") conjunction f g t u (λ a b. refl) k x y s
    connective_back (Some Or) f g c t u other h k x y z s = joined_back (codes "|") disjunction f g t u (λ a b. refl) k x y s
    connective_back (Some IfThen) f g c t u other h k x y z s = joined_back (codes "->") implication f g t u (λ a b. refl) k x y s
    connective_back (Some ThenIf) f g c t u other h k x y z s = joined_back (codes "->") implication g f u t (λ a b. refl) h y x s
    connective_back (Some IfAndOnlyIf) f g c t u other h k x y z s = joined_back (codes "<->") equivalence f g t u (λ a b. refl) k x y s

    bound_back : (q : Quantifier) (n : ℕ) (x : List ℕ) (f : Fol) (t : RawTree) → v n ≡ x → formula_raw T v f ≡ t → formula_raw T v (bound_by q n f) ≡ quantified q x t
    bound_back All n x f t e h = ap₂ (quantified All) e h
    bound_back Exists n x f t e h = ap₂ (quantified Exists) e h

    one_back : (st : Style) (scope : List Bound) (b : Bool) (name : List ℕ) (s : Reading) (t t' : RawTree) → is_denial name ≡ b → Scoped scope → Backs (formula_in st scope s t) t' →
        Backs (formula_in st scope s (named name (more_raws t no_raws))) (by_one b name t t')
    one_back st scope true name s t t' e c h =
        subst (λ (m : Made Fol). Backs m (denial t')) (sym (cond-true (is_denial name) _ _ e)) (λ r. ap denial (h r))
    one_back st scope false name s t t' e c h =
        subst (λ (m : Made Fol). Backs m (named name (more_raws t no_raws))) (sym (cond-false (is_denial name) _ _ e)) (λ r. relation_back st scope name (more_raws t no_raws) s c r)

    pub formula_back : (st : Style) (t : RawTree) (scope : List Bound) (s : Reading) → Scoped scope → Backs (formula_in st scope s t) (turned t)
    formula_back st (quantified q x t) scope s c = λ r.
        let inner = with_variable x false s in
        let bounds = record { name = x; number = length s.variables } ∷ scope in
        let kept : Reaches inner = before inner _ (grows_formula st bounds t inner) r in
        let called : v (length s.variables) ≡ x = kept.names (length s.variables) (record { name = x; free = false }) (slice_get_last s.variables (record { name = x; free = false })) in
        bound_back q (length s.variables) x _ (turned t) called (formula_back st t bounds inner (scoped_more scope x (length s.variables) called c) r)
    formula_back st (named name no_raws) scope s c = sentence_back st scope name s c
    formula_back st (named name (more_raws t no_raws)) scope s c = one_back st scope (is_denial name) name s t (turned t) refl c (formula_back st t scope s c)
    formula_back st (named name (more_raws t (more_raws u no_raws))) scope s c =
        connective_back (connective_of name) (λ r. formula_in st scope r t) (λ r. formula_in st scope r u) (comparison st scope name t u) (turned t) (turned u) (two name t u)
        (grows_formula st scope t) (grows_formula st scope u) (λ z. formula_back st t scope z c) (λ z. formula_back st u scope z c) (λ z. comparison_back st scope name t u z c) s
    formula_back st (named name (more_raws t (more_raws u (more_raws w ts)))) scope s c = relation_back st scope name (more_raws t (more_raws u (more_raws w ts))) s c
