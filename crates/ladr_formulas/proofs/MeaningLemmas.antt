-- What a term is read as is what it means by the symbols and variables that there are in the end.
use Rattle.std.proofs.Common.{◌≡◌, ℕ, suc, ◌+◌, Bool, true, false, List, [], ◌∷◌, ◌++◌, length, Option, Some, None, inl, inr, refl, sym, ap, ◌∙◌, ◌⊎◌, Result, Ok, Err, subst, zero-add}
use Rattle.std.specs.Prelude.{not, ◌||◌, ◌&&◌, is_some, is_none, unwrap_or, if◌then◌else◌, slice_get, IfOk, codes}
use Rattle.std.specs.Str.{bytes_eq}
use Rattle.std.proofs.lemmas.Slice.Eq.{bytes_eq-Decides}
use Rattle.fol_core.specs.Fol.{Fol, verum, falsum, negation}
use Rattle.fol_core.specs.FormulaView.{fol_of}
use Rattle.fol_core.specs.RawTree.{RawTree, named, quantified, RawTrees, no_raws, more_raws}
use Rattle.fol_core.specs.SymbolTable.{Symbol, symbol, number_of, entered, is_clash, KeepsNumbers}
use Rattle.fol_core.specs.Tree.{Tree, elem, app, none}
use Rattle.fol_core.specs.declared.raw.Quantifier.{Quantifier}
use Rattle.fol_core.specs.declared.raw.Quantifier.TheVariants.{All, Exists}
use Rattle.fol_core.specs.declared.symbols.Kind.{Kind}
use Rattle.fol_core.specs.declared.symbols.Kind.TheVariants.{Function, Relation}
use Rattle.fol_core.proofs.Places.{slice_get_last}
use Rattle.fol_core.proofs.SymbolLemmas.{number_of_push}
use Rattle.ladr_lex.specs.Numeral.{limited_number_of}
use Rattle.ladr_lex.specs.declared.misuse.Misuse.{Misuse}
use Rattle.ladr_lex.specs.declared.misuse.Misuse.TheVariants.{TwoKinds, VariableAsFormula, QuantifierInTerm, UnfitAttribute, UnfitNumeral}
use Rattle.ladr_formulas.specs.Formulas.{Variable, Reading, Made, Bound, Style, meets, bound_number, free_number, is_free_name, is_variable, with_variable, variable_number, reading_with_name, named_variable, with_symbol, symbol_number, arity_of, is_too_great, is_element, constant_as, term_of, terms_of, relation_of, sentence_as, equation_read, under, bound_by, is_denial, connective_of, by_connective, comparison, formula_in, unread, formula_reading}
use Rattle.ladr_formulas.specs.Means.{number_as, is_relation, between, IsMeaning, MeansTerm, bound_variable, free_variable, element, applied, MeanTerms, no_terms, more_terms, Means, for_all, there_is, truth, falsity, denied, both, either, if_then, then_if, if_and_only_if, equals, differs, related}
use Rattle.ladr_formulas.specs.VariablesMet.{variables_of_terms, numbered}
use Rattle.ladr_formulas.specs.Whole.{IsWhole}
use Rattle.ladr_formulas.specs.declared.formulas.FormulaRead.{FormulaRead}
use Rattle.ladr_formulas.specs.declared.connectives.Connective.{Connective}
use Rattle.ladr_formulas.specs.declared.connectives.Connective.TheVariants.{And, Or, IfThen, ThenIf, IfAndOnlyIf}
use Rattle.ladr_formulas.proofs.Behind.{found, stands}
use Rattle.ladr_formulas.proofs.BoundPlaces.{binders_read}
use Rattle.ladr_formulas.proofs.Growing.{Grows, beyond, same, grows_meets, grows_symbol, grows_term, grows_terms, grows_formula}
use Rattle.ladr_formulas.proofs.NumberingLemmas.{free_number_free}
use Rattle.ladr_formulas.proofs.OwnVariables.{met}
use Rattle.ladr_formulas.proofs.VariableOrder.{variables_read, terms_variables}

some_own : (o : Option ℕ) (n : ℕ) → o ≡ Some n → o ≡ Some (unwrap_or o 0)
some_own o n e = e ∙ ap (λ (p : Option ℕ). Some (unwrap_or p 0)) (sym e)

some_same : (m n : ℕ) → Some m ≡ Some n → m ≡ n
some_same m n e = ap (λ (o : Option ℕ). unwrap_or o 0) e

-- a symbol that is entered is found
entered_found : (table : List Symbol) (x : Symbol) → number_of (entered table x) x.name x.arity ≡ Some (unwrap_or (number_of (entered table x) x.name x.arity) 0)
entered_found table x = by (number_of table x.name x.arity) refl
  where
    after : (o : Option ℕ) → number_of table x.name x.arity ≡ o → entered table x ≡ (if is_some o then table else table ++ x ∷ [])
    after o h = ap (λ (p : Option ℕ). if is_some p then table else table ++ x ∷ []) h

    by : (o : Option ℕ) → number_of table x.name x.arity ≡ o → number_of (entered table x) x.name x.arity ≡ Some (unwrap_or (number_of (entered table x) x.name x.arity) 0)
    by (Some n) h = some_own _ n (ap (λ (t : List Symbol). number_of t x.name x.arity) (after (Some n) h) ∙ h)
    by None h = some_own _ (length table) (ap (λ (t : List Symbol). number_of t x.name x.arity) (after None h) ∙ number_of_push table x.name x.arity x.kind h)

-- also in a table that keeps the numbers
number_kept : (table last : List Symbol) (x : Symbol) → KeepsNumbers (entered table x) last → number_of last x.name x.arity ≡ Some (unwrap_or (number_of (entered table x) x.name x.arity) 0)
number_kept table last x k = found (entered table x) last x.name x.arity _ k (entered_found table x)

-- a row that isn't met isn't broken
unmet : (test : Bool) (row : Misuse) (s : Reading) → (meets test row s).least ≡ None → test ≡ false
unmet true row s e = absurd (met row s e)
unmet false row s e = refl

-- a symbol that is entered without misuse is found with its kind
number_kept_as : (name : List ℕ) (arity : ℕ) (kind : Kind) (s : Reading) (last : List Symbol) → (with_symbol name arity kind s).least ≡ None → KeepsNumbers (with_symbol name arity kind s).symbols last
    → number_as kind last name arity ≡ Some (symbol_number name arity (with_symbol name arity kind s))
number_kept_as name arity kind s last e k =
    let x : Symbol = symbol name arity kind in
    let clash = meets (is_clash s.symbols x) TwoKinds s in
    let sign : bytes_eq name (codes "#") ≡ false = unmet (bytes_eq name (codes "#")) UnfitAttribute clash e in
    let apart : is_clash s.symbols x ≡ false = unmet (is_clash s.symbols x) TwoKinds s ((grows_meets (bytes_eq name (codes "#")) UnfitAttribute clash).sound e) in
    let one : is_clash last x ≡ false = (stands s.symbols last x k).clash ∙ apart in
    (λ i. if sign i || one i then None else number_of last name arity) ∙ number_kept s.symbols last x k

-- a free variable keeps its number
free_kept : (n : ℕ) (vs ws : List Variable) (name : List ℕ) (k : ℕ) → ((m : ℕ) (x : Variable) → slice_get vs m ≡ Some x → slice_get ws m ≡ Some x) → free_number n vs name ≡ Some k → free_number n ws name ≡ Some k
free_kept n [] ws name k h e = cc
free_kept n (v ∷ vs) [] name k h e = let f = h 0 v refl in cc
free_kept n (v ∷ vs) (w ∷ ws) name k h e =
    let f : Some w ≡ Some v = h 0 v refl in
    let g : w ≡ v = cc in
    ap (λ (u : Variable). if u.free && bytes_eq u.name name then Some n else free_number (suc n) ws name) g ∙
    by (v.free && bytes_eq v.name name) (free_kept (suc n) vs ws name k (λ m x. h (suc m) x)) e
  where
    by : (b : Bool) → (free_number (suc n) vs name ≡ Some k → free_number (suc n) ws name ≡ Some k) → (if b then Some n else free_number (suc n) vs name) ≡ Some k
        → (if b then Some n else free_number (suc n) ws name) ≡ Some k
    by true rest i = i
    by false rest i = rest i

-- a free name that is new has the next one
free_last : (vs : List Variable) (name : List ℕ) → free_number 0 vs name ≡ None → free_number 0 (vs ++ record { name = name; free = true } ∷ []) name ≡ Some (length vs)
free_last vs name h =
    free_number_free 0 vs name name h ∙ ap (λ (b : Bool). if b then Some (0 + length vs) else free_number 0 vs name) ((bytes_eq-Decides name name).1 refl) ∙ ap (λ (n : ℕ). Some n) (zero-add (length vs))

-- a name's number: the innermost quantifier's that binds it, or the free variable's
abbrev IsNumber : Style → List Bound → List ℕ → List Variable → ℕ → Type 0
IsNumber st scope name variables n = (bound_number scope name ≡ Some n) ⊎ ((bound_number scope name ≡ None) × (is_free_name st name ≡ true) × (free_number 0 variables name ≡ Some n))

number_found : (st : Style) (scope : List Bound) (name : List ℕ) (s : Reading) → is_variable st scope name ≡ true
    → IsNumber st scope name (reading_with_name scope name s).variables (variable_number scope name s)
number_found st scope name s h = by (bound_number scope name) (free_number 0 s.variables name) refl refl
  where
    after : Option ℕ → Option ℕ → Reading
    after o p = if is_some o || is_some p then s else with_variable name true s

    number : Option ℕ → Option ℕ → ℕ
    number o p = unwrap_or o (unwrap_or p (length s.variables))

    is_free : bound_number scope name ≡ None → is_free_name st name ≡ true
    is_free e = ap (λ (o : Option ℕ). is_some o || is_free_name st name) (sym e) ∙ h

    by : (o p : Option ℕ) → bound_number scope name ≡ o → free_number 0 s.variables name ≡ p → IsNumber st scope name (after o p).variables (number o p)
    by (Some n) p e f = inl e
    by None (Some n) e f = inr (e, is_free e, f)
    by None None e f = inr (e, is_free e, free_last s.variables name f)

-- what is known of a name without arguments
record IsKnown (st : Style) (scope : List Bound) (name : List ℕ) (m : Made (Option ℕ)) : Type 0 where
  other : m.tree ≡ None → is_variable st scope name ≡ false
  number : (n : ℕ) → m.tree ≡ Some n → IsNumber st scope name m.reading.variables n

variable_known : (st : Style) (scope : List Bound) (name : List ℕ) (s : Reading) → IsKnown st scope name (named_variable st scope name s)
unfolding named_variable
variable_known st scope name s = by (is_variable st scope name) refl
  where
    by : (b : Bool) → is_variable st scope name ≡ b → IsKnown st scope name (if b then record { tree = Some (variable_number scope name s); reading = reading_with_name scope name s } else record { tree = None; reading = s })
    by true e = record { other = λ f. cc; number = λ n f. subst (IsNumber st scope name (reading_with_name scope name s).variables) (some_same _ n f) (number_found st scope name s e) }
    by false e = record { other = λ f. e; number = λ n f. cc }

-- the sign of a connective
abbrev sign : Connective → List ℕ
sign And = codes "&"
sign Or = codes "|"
sign IfThen = codes "->"
sign ThenIf = codes "<-"
sign IfAndOnlyIf = codes "<->"

same_name : (name text : List ℕ) → bytes_eq name text ≡ true → name ≡ text
same_name name text e = (bytes_eq-Decides name text).0 e

sign_of : (name : List ℕ) (c : Connective) → connective_of name ≡ Some c → name ≡ sign c
sign_of name c h = by (bytes_eq name (codes "&")) (bytes_eq name (codes "|")) (bytes_eq name (codes "->")) (bytes_eq name (codes "<-")) (bytes_eq name (codes "<->")) refl refl refl refl refl h
  where
    is : (d : Connective) → name ≡ sign d → Some d ≡ Some c → name ≡ sign c
    is d e f = let g : d ≡ c = cc in e ∙ ap sign g

    by : (p q r s t : Bool) → bytes_eq name (codes "&") ≡ p → bytes_eq name (codes "|") ≡ q → bytes_eq name (codes "->") ≡ r → bytes_eq name (codes "<-") ≡ s → bytes_eq name (codes "<->") ≡ t
        → (if p then Some And else (if q then Some Or else (if r then Some IfThen else (if s then Some ThenIf else (if t then Some IfAndOnlyIf else None))))) ≡ Some c → name ≡ sign c
    by true q r s t e0 e1 e2 e3 e4 f = is And (same_name name (codes "&") e0) f
    by false true r s t e0 e1 e2 e3 e4 f = is Or (same_name name (codes "|") e1) f
    by false false true s t e0 e1 e2 e3 e4 f = is IfThen (same_name name (codes "->") e2) f
    by false false false true t e0 e1 e2 e3 e4 f = is ThenIf (same_name name (codes "<-") e3) f
    by false false false false true e0 e1 e2 e3 e4 f = is IfAndOnlyIf (same_name name (codes "<->") e4) f
    by false false false false false e0 e1 e2 e3 e4 f = cc

-- what is read up to a last reading without misuse
module _ (st : Style) (last : Reading) (sound : last.least ≡ None) where
  abbrev IsTerm : List Bound → RawTree → Made Tree → Type 0
  IsTerm scope t m = MeansTerm st last.symbols last.variables scope t m.tree

  abbrev IsFormula : List Bound → RawTree → Made Fol → Type 0
  IsFormula scope t m = Means st last.symbols last.variables scope t m.tree

  constant_means : (scope : List Bound) (name : List ℕ) (o : Option ℕ) (r : Reading) → (o ≡ None → is_variable st scope name ≡ false) → ((n : ℕ) → o ≡ Some n → IsNumber st scope name r.variables n)
      → Grows (constant_as st name o r).reading last → IsTerm scope (named name no_raws) (constant_as st name o r)
  constant_means scope name (Some n) r other number g =
      elim (number n refl) [
        | inl e ↦ bound_variable e
        | inr p ↦ free_variable p.0 p.1 (free_kept 0 r.variables last.variables name n g.variables p.2)
      ]
  constant_means scope name None r other number g = by (is_element st name) refl g
    where
      made : Bool → Made Tree
      made b = if b then record { tree = elem (limited_number_of name); reading = meets (is_too_great st name) UnfitNumeral r } else record { tree = app (symbol_number name 0 (with_symbol name 0 Function r)) none; reading = with_symbol name 0 Function r }

      by : (b : Bool) → is_element st name ≡ b → Grows (made b).reading last → IsTerm scope (named name no_raws) (made b)
      by true e h = element (other refl) e (unmet (is_too_great st name) UnfitNumeral r (h.sound sound))
      by false e h = applied (λ i. not (other refl i) && not (e i)) (number_kept_as name 0 Function r last.symbols (h.sound sound) h.symbols) no_terms

  mutual
    pub term_means : (scope : List Bound) (s : Reading) (t : RawTree) → Grows (term_of st scope s t).reading last → IsTerm scope t (term_of st scope s t)
    term_means scope s (quantified q x t) g =
        let bad = meets true QuantifierInTerm s in
        absurd (met QuantifierInTerm s ((grows_term st (record { name = x; number = length s.variables } ∷ scope) (with_variable x false bad) t).sound (g.sound sound)))
    term_means scope s (named name no_raws) g =
        let v = named_variable st scope name s in
        let is = variable_known st scope name s in
        constant_means scope name v.tree v.reading is.other is.number g
    term_means scope s (named name (more_raws t ts)) g =
        let arity = suc (arity_of ts) in
        let great = meets (is_too_great st name) UnfitNumeral s in
        let after = with_symbol name arity Function great in
        let all = grows_terms st scope after (more_raws t ts) in
        let on = beyond after _ last all g in
        let small = unmet (is_too_great st name) UnfitNumeral s ((grows_symbol name arity Function great).sound (on.sound sound)) in
        applied (ap not small) (number_kept_as name arity Function great last.symbols (on.sound sound) on.symbols) (terms_mean scope after (more_raws t ts) g)

    pub terms_mean : (scope : List Bound) (s : Reading) (ts : RawTrees) → Grows (terms_of st scope s ts).reading last → MeanTerms st last.symbols last.variables scope ts (terms_of st scope s ts).tree
    terms_mean scope s no_raws g = no_terms
    terms_mean scope s (more_raws t ts) g =
        let first = term_of st scope s t in
        more_terms (term_means scope s t (beyond first.reading _ last (grows_terms st scope first.reading ts) g)) (terms_mean scope first.reading ts g)

  relation_means : (scope : List Bound) (name : List ℕ) (ts : RawTrees) (s : Reading) → is_relation st scope name ts ≡ true → Grows (relation_of st scope name ts s).reading last
      → IsFormula scope (named name ts) (relation_of st scope name ts s)
  relation_means scope name ts s e g =
      let numeral = meets (is_element st name) UnfitNumeral s in
      let after = with_symbol name (arity_of ts) Relation numeral in
      let on = beyond after _ last (grows_terms st scope after ts) g in
      let other = unmet (is_element st name) UnfitNumeral s ((grows_symbol name (arity_of ts) Relation numeral).sound (on.sound sound)) in
      related e other (number_kept_as name (arity_of ts) Relation numeral last.symbols (on.sound sound) on.symbols) (terms_mean scope after ts g)

  sentence_means : (scope : List Bound) (name : List ℕ) (o : Option ℕ) (r : Reading) → (o ≡ None → is_variable st scope name ≡ false)
      → Grows (sentence_as st scope name o r).reading last → IsFormula scope (named name no_raws) (sentence_as st scope name o r)
  sentence_means scope name (Some n) r other g = absurd (met VariableAsFormula r (g.sound sound))
  sentence_means scope name None r other g = by (bytes_eq name (codes "$T")) (bytes_eq name (codes "$F")) refl refl g
    where
      no : is_variable st scope name ≡ false
      no = other refl

      -- `$T` and `$F` stand for themselves
      whole : (text : List ℕ) (f : Fol) → bytes_eq name text ≡ true → (is_variable st scope text ≡ false → Means st last.symbols last.variables scope (named text no_raws) f) → Means st last.symbols last.variables scope (named name no_raws) f
      whole text f e h =
          let is = same_name name text e in
          subst (λ (n : List ℕ). Means st last.symbols last.variables scope (named n no_raws) f) (sym is) (h (subst (λ (n : List ℕ). is_variable st scope n ≡ false) is no))

      made : Bool → Bool → Made Fol
      made a b = if a then record { tree = verum; reading = r } else (if b then record { tree = falsum; reading = r } else relation_of st scope name no_raws r)

      by : (a b : Bool) → bytes_eq name (codes "$T") ≡ a → bytes_eq name (codes "$F") ≡ b → Grows (made a b).reading last → IsFormula scope (named name no_raws) (made a b)
      by true b d e h = whole (codes "$T") verum d (λ n. truth n)
      by false true d e h = whole (codes "$F") falsum e (λ n. falsity n)
      by false false d e h = relation_means scope name no_raws r (λ i. not (no i || d i || e i)) h

  -- what stands between two arguments with a sign stands so with a name that is the sign
  renamed : (scope : List Bound) (name text : List ℕ) (t u : RawTree) (f : Fol) → name ≡ text → Means st last.symbols last.variables scope (between text t u) f → Means st last.symbols last.variables scope (between name t u) f
  renamed scope name text t u f e h = subst (λ (n : List ℕ). Means st last.symbols last.variables scope (between n t u) f) (sym e) h

  comparison_means : (scope : List Bound) (name : List ℕ) (t u : RawTree) (s : Reading) → connective_of name ≡ None → Grows (comparison st scope name t u s).reading last
      → IsFormula scope (between name t u) (comparison st scope name t u s)
  comparison_means scope name t u s n g = by (bytes_eq name (codes "=")) (bytes_eq name (codes "!=")) refl refl g
    where
      both_terms : Grows (equation_read st scope t u s).reading last → MeansTerm st last.symbols last.variables scope t (term_of st scope s t).tree × MeansTerm st last.symbols last.variables scope u (term_of st scope (term_of st scope s t).reading u).tree
      both_terms h =
          let left = term_of st scope s t in
          (term_means scope s t (beyond left.reading _ last (grows_term st scope left.reading u) h), term_means scope left.reading u h)

      made : Bool → Bool → Made Fol
      made a b = if a then equation_read st scope t u s else (if b then under negation (equation_read st scope t u s) else relation_of st scope name (more_raws t (more_raws u no_raws)) s)

      by : (a b : Bool) → bytes_eq name (codes "=") ≡ a → bytes_eq name (codes "!=") ≡ b → Grows (made a b).reading last → IsFormula scope (between name t u) (made a b)
      by true b d e h = let two = both_terms h in renamed scope name (codes "=") t u _ (same_name name (codes "=") d) (equals two.0 two.1)
      by false true d e h = let two = both_terms h in renamed scope name (codes "!=") t u _ (same_name name (codes "!=") e) (differs two.0 two.1)
      by false false d e h = relation_means scope name (more_raws t (more_raws u no_raws)) s (λ i. is_none (n i) && not (d i || e i)) h

  abbrev AllMean : List Bound → RawTree → Type 0
  AllMean scope t = (s : Reading) → Grows (formula_in st scope s t).reading last → IsFormula scope t (formula_in st scope s t)

  connected_means : (scope : List Bound) (name : List ℕ) (t u : RawTree) (o : Option Connective) (s : Reading) → connective_of name ≡ o → AllMean scope t → AllMean scope u
      → Grows (by_connective o (λ r. formula_in st scope r t) (λ r. formula_in st scope r u) (comparison st scope name t u) s).reading last
      → IsFormula scope (between name t u) (by_connective o (λ r. formula_in st scope r t) (λ r. formula_in st scope r u) (comparison st scope name t u) s)
  connected_means scope name t u None s e a b g = comparison_means scope name t u s e g
  connected_means scope name t u (Some And) s e a b g =
      let left = formula_in st scope s t in
      renamed scope name (codes "&") t u _ (sign_of name And e) (both (a s (beyond left.reading _ last (grows_formula st scope u left.reading) g)) (b left.reading g))
  connected_means scope name t u (Some Or) s e a b g =
      let left = formula_in st scope s t in
      renamed scope name (codes "|") t u _ (sign_of name Or e) (either (a s (beyond left.reading _ last (grows_formula st scope u left.reading) g)) (b left.reading g))
  connected_means scope name t u (Some IfThen) s e a b g =
      let left = formula_in st scope s t in
      renamed scope name (codes "->") t u _ (sign_of name IfThen e) (if_then (a s (beyond left.reading _ last (grows_formula st scope u left.reading) g)) (b left.reading g))
  connected_means scope name t u (Some ThenIf) s e a b g =
      let premise = formula_in st scope s u in
      renamed scope name (codes "<-") t u _ (sign_of name ThenIf e) (then_if (a premise.reading g) (b s (beyond premise.reading _ last (grows_formula st scope t premise.reading) g)))
  connected_means scope name t u (Some IfAndOnlyIf) s e a b g =
      let left = formula_in st scope s t in
      renamed scope name (codes "<->") t u _ (sign_of name IfAndOnlyIf e) (if_and_only_if (a s (beyond left.reading _ last (grows_formula st scope u left.reading) g)) (b left.reading g))

  denial_means : (scope : List Bound) (name : List ℕ) (t : RawTree) (s : Reading) (b : Bool) → is_denial name ≡ b → AllMean scope t
      → Grows (if b then under negation (formula_in st scope s t) else relation_of st scope name (more_raws t no_raws) s).reading last
      → IsFormula scope (named name (more_raws t no_raws)) (if b then under negation (formula_in st scope s t) else relation_of st scope name (more_raws t no_raws) s)
  denial_means scope name t s true e a g =
      subst (λ (n : List ℕ). Means st last.symbols last.variables scope (named n (more_raws t no_raws)) (negation (formula_in st scope s t).tree)) (sym (same_name name (codes "-") e)) (denied (a s g))
  denial_means scope name t s false e a g = relation_means scope name (more_raws t no_raws) s (ap not e) g

  quantifier_means : (scope : List Bound) (s : Reading) (x : List ℕ) (t : RawTree) (q : Quantifier) → AllMean (record { name = x; number = length s.variables } ∷ scope) t
      → Grows (formula_in st (record { name = x; number = length s.variables } ∷ scope) (with_variable x false s) t).reading last
      → IsFormula scope (quantified q x t) (under (bound_by q (length s.variables)) (formula_in st (record { name = x; number = length s.variables } ∷ scope) (with_variable x false s) t))
  quantifier_means scope s x t q a g = by q
    where
      around : List Bound
      around = record { name = x; number = length s.variables } ∷ scope

      inner : Reading
      inner = with_variable x false s

      place : slice_get last.variables (length s.variables) ≡ Some (record { name = x; free = false })
      place = (beyond inner _ last (grows_formula st around t inner) g).variables (length s.variables) _ (slice_get_last s.variables (record { name = x; free = false }))

      by : (q : Quantifier) → IsFormula scope (quantified q x t) (under (bound_by q (length s.variables)) (formula_in st around inner t))
      by All = for_all place (a inner g)
      by Exists = there_is place (a inner g)

  pub formula_means : (scope : List Bound) (t : RawTree) → AllMean scope t
  formula_means scope (quantified q x t) s g = quantifier_means scope s x t q (formula_means (record { name = x; number = length s.variables } ∷ scope) t) g
  formula_means scope (named name no_raws) s g =
      let v = named_variable st scope name s in
      sentence_means scope name v.tree v.reading (variable_known st scope name s).other g
  formula_means scope (named name (more_raws t no_raws)) s g = denial_means scope name t s (is_denial name) refl (formula_means scope t) g
  formula_means scope (named name (more_raws t (more_raws u no_raws))) s g = connected_means scope name t u (connective_of name) s refl (formula_means scope t) (formula_means scope u) g
  formula_means scope (named name (more_raws t (more_raws u (more_raws v ts)))) s g = relation_means scope name (more_raws t (more_raws u (more_raws v ts))) s refl g

-- the formula of a reading without misuse is what the term means
pub reading_means : (st : Style) (table : List Symbol) (t : RawTree) → (formula_reading st table t).reading.least ≡ None
    → IsMeaning st (formula_reading st table t).reading.symbols t (formula_reading st table t).tree
reading_means st table t sound =
    let m = formula_reading st table t in
    record {
      means = subst (λ (vs : List Variable). Means st m.reading.symbols vs [] t m.tree) (variables_read st table t) (formula_means st m.reading sound [] t (unread table) (same m.reading));
      bound = binders_read st table t sound;
    }

-- and so are terms
pub terms_reading_mean : (st : Style) (table : List Symbol) (ts : RawTrees) → (terms_of st [] (unread table) ts).reading.least ≡ None
    → MeanTerms st (terms_of st [] (unread table) ts).reading.symbols (numbered (variables_of_terms st [] ts)) [] ts (terms_of st [] (unread table) ts).tree
terms_reading_mean st table ts sound =
    let m = terms_of st [] (unread table) ts in
    subst (λ (vs : List Variable). MeanTerms st m.reading.symbols vs [] ts m.tree) (terms_variables st table ts) (terms_mean st m.reading sound [] (unread table) ts (same m.reading))

-- so it is in what the code has
pub whole_means : {E : Type 0} (r : Result FormulaRead E) (st : Style) (table : List Symbol) (t : RawTree) (u : List Symbol) → IfOk r (λ f. IsWhole (formula_reading st table t) f u)
    → IfOk r (λ f. f.least ≡ None → IsMeaning st u t (fol_of f.formula.shape))
whole_means (Ok f) st table t u h = λ unmet.
    let m = formula_reading st table t in
    subst (λ (v : List Symbol). IsMeaning st v t (fol_of f.formula.shape)) (sym h.symbols)
    (subst (λ (g : Fol). IsMeaning st m.reading.symbols t g) (sym h.formula) (reading_means st table t (sym h.least ∙ unmet)))
whole_means (Err e) st table t u h = tt
