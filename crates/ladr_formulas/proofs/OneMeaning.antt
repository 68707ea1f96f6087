-- A term as read means one formula at most.
use Rattle.std.proofs.Common.{◌≡◌, ℕ, suc, Bool, true, false, List, [], ◌∷◌, ◌++◌, Option, Some, None, refl, sym, ap, ◌∙◌, append_assoc}
use Rattle.std.specs.Prelude.{not, ◌||◌, ◌&&◌, is_some, is_none, if◌then◌else◌, codes}
use Rattle.std.specs.Option.{option_map, option_map_or}
use Rattle.std.specs.Str.{bytes_eq}
use Rattle.fol_core.specs.Bound.{binders_of}
use Rattle.fol_core.specs.Fol.{Fol, verum, falsum, equal, atom, negation, conjunction, disjunction, implication, equivalence}
use Rattle.fol_core.specs.RawTree.{RawTree, named, quantified, RawTrees, no_raws, more_raws}
use Rattle.fol_core.specs.SymbolTable.{Symbol}
use Rattle.fol_core.specs.Tree.{Tree, var, elem, app, Trees, none, more}
use Rattle.fol_core.specs.declared.raw.Quantifier.TheVariants.{All, Exists}
use Rattle.fol_core.specs.declared.symbols.Kind.TheVariants.{Function, Relation}
use Rattle.ladr_lex.specs.Numeral.{limited_number_of}
use Rattle.ladr_formulas.specs.Formulas.{Variable, Bound, Style, bound_number, free_number, is_free_name, is_variable, is_element, arity_of, bound_by, is_denial, connective_of}
use Rattle.ladr_formulas.specs.Means.{number_as, is_function, is_relation, IsMeaning, MeansTerm, bound_variable, free_variable, element, applied, MeanTerms, no_terms, more_terms, Means, for_all, there_is, truth, falsity, denied, both, either, if_then, then_if, if_and_only_if, equals, differs, related}
use Rattle.ladr_formulas.specs.VariablesMet.{variables_in}
use Rattle.ladr_formulas.specs.declared.connectives.Connective.{Connective}
use Rattle.ladr_formulas.specs.declared.connectives.Connective.TheVariants.{And, Or, IfThen, ThenIf, IfAndOnlyIf}

abbrev applied_to : Option ℕ → Option Trees → Option Tree
applied_to (Some f) (Some us) = Some (app f us)
applied_to (Some f) None = None
applied_to None us = None

abbrev further : Option Tree → Option Trees → Option Trees
further (Some u) (Some us) = Some (more u us)
further (Some u) None = None
further None us = None

-- a formula that may be there, and the numbers that its quantifiers leave
abbrev Found : Type 0
Found = Option (Fol × List ℕ)

abbrev changed : (Fol → Fol) → Found → Found
changed f None = None
changed f (Some p) = Some (f p.0, p.1)

abbrev then_second : (Fol → Fol → Fol) → Found → (List ℕ → Found) → Found
then_second join None second = None
then_second join (Some p) second = changed (join p.0) (second p.1)

abbrev connected : Option Connective → (first second others : List ℕ → Found) → List ℕ → Found
connected None first second others ns = others ns
connected (Some And) first second others ns = then_second conjunction (first ns) second
connected (Some Or) first second others ns = then_second disjunction (first ns) second
connected (Some IfThen) first second others ns = then_second implication (first ns) second
connected (Some ThenIf) first second others ns = then_second implication (second ns) first
connected (Some IfAndOnlyIf) first second others ns = then_second equivalence (first ns) second

abbrev related_to : Option ℕ → Option Trees → List ℕ → Found
related_to (Some r) (Some us) ns = Some (atom r us, ns)
related_to (Some r) None ns = None
related_to None us ns = None

abbrev equated : Option Tree → Option Tree → List ℕ → Found
equated (Some a) (Some b) ns = Some (equal a b, ns)
equated (Some a) None ns = None
equated None b ns = None

module _ (st : Style) (table : List Symbol) (variables : List Variable) where
  -- a name without arguments, by the number that it is bound to
  abbrev constant_by : List ℕ → Option ℕ → Option Tree
  constant_by name (Some n) = Some (var n)
  constant_by name None =
      if is_free_name st name then option_map (λ n. var n) (free_number 0 variables name)
      else (if is_element st name then Some (elem (limited_number_of name)) else applied_to (number_as Function table name 0) (Some none))

  abbrev mutual
    -- the term that a term as read means, if it means one
    the_term : List Bound → RawTree → Option Tree
    the_term scope (quantified q x t) = None
    the_term scope (named name no_raws) = constant_by name (bound_number scope name)
    the_term scope (named name (more_raws t ts)) = applied_to (number_as Function table name (suc (arity_of ts))) (further (the_term scope t) (the_terms scope ts))

    the_terms : List Bound → RawTrees → Option Trees
    the_terms scope no_raws = Some none
    the_terms scope (more_raws t ts) = further (the_term scope t) (the_terms scope ts)

  abbrev relation_by : List Bound → List ℕ → RawTrees → List ℕ → Found
  relation_by scope name ts ns = related_to (number_as Relation table name (arity_of ts)) (the_terms scope ts) ns

  abbrev sentence_by : List Bound → List ℕ → List ℕ → Found
  sentence_by scope name ns =
      if is_variable st scope name then None
      else (if bytes_eq name (codes "$T") then Some (verum, ns) else (if bytes_eq name (codes "$F") then Some (falsum, ns) else relation_by scope name no_raws ns))

  abbrev compared_by : List Bound → List ℕ → RawTree → RawTree → List ℕ → Found
  compared_by scope name t u ns =
      if bytes_eq name (codes "=") then equated (the_term scope t) (the_term scope u) ns
      else (if bytes_eq name (codes "!=") then changed negation (equated (the_term scope t) (the_term scope u) ns) else relation_by scope name (more_raws t (more_raws u no_raws)) ns)

  -- the formula that a term as read means, its quantifiers taking these numbers one by one
  abbrev the_formula : List Bound → RawTree → List ℕ → Found
  the_formula scope (quantified q x t) [] = None
  the_formula scope (quantified q x t) (n ∷ ns) = changed (bound_by q n) (the_formula (record { name = x; number = n } ∷ scope) t ns)
  the_formula scope (named name no_raws) ns = sentence_by scope name ns
  the_formula scope (named name (more_raws t no_raws)) ns = if is_denial name then changed negation (the_formula scope t ns) else relation_by scope name (more_raws t no_raws) ns
  the_formula scope (named name (more_raws t (more_raws u no_raws))) ns =
      connected (connective_of name) (λ ms. the_formula scope t ms) (λ ms. the_formula scope u ms) (compared_by scope name t u) ns
  the_formula scope (named name (more_raws t (more_raws u (more_raws v ts)))) ns = relation_by scope name (more_raws t (more_raws u (more_raws v ts))) ns

  -- what is no variable isn't bound, and its name isn't a free one
  no_variable : (scope : List Bound) (name : List ℕ) → is_variable st scope name ≡ false → (bound_number scope name ≡ None) × (is_free_name st name ≡ false)
  no_variable scope name e = by (bound_number scope name) (is_free_name st name) e
    where
      by : (o : Option ℕ) (b : Bool) → (is_some o || b) ≡ false → (o ≡ None) × (b ≡ false)
      by (Some n) b e = cc
      by None b e = (refl, e)

  function_same : (scope : List Bound) (name : List ℕ) (ts : RawTrees) (us : Trees) (f : ℕ) → is_function st scope name ts ≡ true → number_as Function table name (arity_of ts) ≡ Some f
      → the_terms scope ts ≡ Some us → the_term scope (named name ts) ≡ Some (app f us)
  function_same scope name no_raws us f e n h =
      let other = neither (is_variable st scope name) (is_element st name) e in
      let free = no_variable scope name other.0 in
      ap (constant_by name) free.0 ∙
      (λ i. if free.1 i then option_map (λ n. var n) (free_number 0 variables name) else (if other.1 i then Some (elem (limited_number_of name)) else applied_to (n i) (h i)))
    where
      neither : (a b : Bool) → (not a && not b) ≡ true → (a ≡ false) × (b ≡ false)
      neither true b e = cc
      neither false true e = cc
      neither false false e = (refl, refl)
  function_same scope name (more_raws t ts) us f e n h = (λ i. applied_to (n i) (h i))

  mutual
    term_same : {scope : List Bound} {t : RawTree} {a : Tree} → MeansTerm st table variables scope t a → the_term scope t ≡ Some a
    term_same (bound_variable {scope} {name} {n} e) = ap (constant_by name) e
    term_same (free_variable {scope} {name} {n} e is k) =
        ap (constant_by name) e ∙
        (λ i. if is i then option_map (λ n. var n) (k i) else (if is_element st name then Some (elem (limited_number_of name)) else applied_to (number_as Function table name 0) (Some none)))
    term_same (element {scope} {name} other e small) =
        let free = no_variable scope name other in
        ap (constant_by name) free.0 ∙
        (λ i. if free.1 i then option_map (λ n. var n) (free_number 0 variables name) else (if e i then Some (elem (limited_number_of name)) else applied_to (number_as Function table name 0) (Some none)))
    term_same (applied {scope} {name} {ts} {us} {f} e n all) = function_same scope name ts us f e n (terms_same all)

    terms_same : {scope : List Bound} {ts : RawTrees} {us : Trees} → MeanTerms st table variables scope ts us → the_terms scope ts ≡ Some us
    terms_same no_terms = refl
    terms_same (more_terms first others) = (λ i. further (term_same first i) (terms_same others i))

  relation_same : (scope : List Bound) (name : List ℕ) (ts : RawTrees) (us : Trees) (r : ℕ) (ns : List ℕ) → is_relation st scope name ts ≡ true → number_as Relation table name (arity_of ts) ≡ Some r
      → the_terms scope ts ≡ Some us → the_formula scope (named name ts) ns ≡ Some (atom r us, ns)
  relation_same scope name no_raws us r ns e n h =
      by (is_variable st scope name) (bytes_eq name (codes "$T")) (bytes_eq name (codes "$F")) e
    where
      by : (a b c : Bool) → not (a || b || c) ≡ true → (if a then None else (if b then Some (verum, ns) else (if c then Some (falsum, ns) else relation_by scope name no_raws ns))) ≡ Some (atom r us, ns)
      by true b c e = cc
      by false true c e = cc
      by false false true e = cc
      by false false false e = (λ i. related_to (n i) (h i) ns)
  relation_same scope name (more_raws t no_raws) us r ns e n h = by (is_denial name) e
    where
      by : (a : Bool) → not a ≡ true → (if a then changed negation (the_formula scope t ns) else relation_by scope name (more_raws t no_raws) ns) ≡ Some (atom r us, ns)
      by true e = cc
      by false e = (λ i. related_to (n i) (h i) ns)
  relation_same scope name (more_raws t (more_raws u no_raws)) us r ns e n h = by (connective_of name) (bytes_eq name (codes "=")) (bytes_eq name (codes "!=")) e
    where
      other : Bool → Bool → List ℕ → Found
      other a b ms =
          if a then equated (the_term scope t) (the_term scope u) ms
          else (if b then changed negation (equated (the_term scope t) (the_term scope u) ms) else relation_by scope name (more_raws t (more_raws u no_raws)) ms)

      by : (o : Option Connective) (a b : Bool) → (is_none o && not (a || b)) ≡ true
          → connected o (λ ms. the_formula scope t ms) (λ ms. the_formula scope u ms) (other a b) ns ≡ Some (atom r us, ns)
      by (Some c) a b e = cc
      by None true b e = cc
      by None false true e = cc
      by None false false e = (λ i. related_to (n i) (h i) ns)
  relation_same scope name (more_raws t (more_raws u (more_raws v ts))) us r ns e n h = (λ i. related_to (n i) (h i) ns)

  -- a formula, and then another with the numbers that it leaves
  pair_same : (join : Fol → Fol → Fol) (first second : List ℕ → Found) (f g : Fol) (ns : List ℕ) → ((ms : List ℕ) → first (binders_of f ++ ms) ≡ Some (f, ms)) → ((ms : List ℕ) → second (binders_of g ++ ms) ≡ Some (g, ms))
      → then_second join (first ((binders_of f ++ binders_of g) ++ ns)) second ≡ Some (join f g, ns)
  pair_same join first second f g ns a b =
      ap (λ (ms : List ℕ). then_second join (first ms) second) (append_assoc (binders_of f) (binders_of g) ns) ∙ ap (λ (p : Found). then_second join p second) (a (binders_of g ++ ns)) ∙ ap (changed (join f)) (b ns)

  formula_same : {scope : List Bound} {t : RawTree} {f : Fol} → Means st table variables scope t f → (ns : List ℕ) → the_formula scope t (binders_of f ++ ns) ≡ Some (f, ns)
  formula_same (for_all {scope} {x} {t} {f} {n} place m) ns = ap (changed (bound_by All n)) (formula_same m ns)
  formula_same (there_is {scope} {x} {t} {f} {n} place m) ns = ap (changed (bound_by Exists n)) (formula_same m ns)
  formula_same (truth e) ns = (λ i. if e i then None else Some (verum, ns))
  formula_same (falsity e) ns = (λ i. if e i then None else Some (falsum, ns))
  formula_same (denied m) ns = ap (changed negation) (formula_same m ns)
  formula_same (both {scope} {t} {u} {f} {g} a b) ns = pair_same conjunction (λ ms. the_formula scope t ms) (λ ms. the_formula scope u ms) f g ns (λ ms. formula_same a ms) (λ ms. formula_same b ms)
  formula_same (either {scope} {t} {u} {f} {g} a b) ns = pair_same disjunction (λ ms. the_formula scope t ms) (λ ms. the_formula scope u ms) f g ns (λ ms. formula_same a ms) (λ ms. formula_same b ms)
  formula_same (if_then {scope} {t} {u} {f} {g} a b) ns = pair_same implication (λ ms. the_formula scope t ms) (λ ms. the_formula scope u ms) f g ns (λ ms. formula_same a ms) (λ ms. formula_same b ms)
  formula_same (then_if {scope} {t} {u} {f} {g} a b) ns = pair_same implication (λ ms. the_formula scope u ms) (λ ms. the_formula scope t ms) g f ns (λ ms. formula_same b ms) (λ ms. formula_same a ms)
  formula_same (if_and_only_if {scope} {t} {u} {f} {g} a b) ns = pair_same equivalence (λ ms. the_formula scope t ms) (λ ms. the_formula scope u ms) f g ns (λ ms. formula_same a ms) (λ ms. formula_same b ms)
  formula_same (equals a b) ns = (λ i. equated (term_same a i) (term_same b i) ns)
  formula_same (differs a b) ns = (λ i. changed negation (equated (term_same a i) (term_same b i) ns))
  formula_same (related {scope} {name} {ts} {us} {r} e other n all) ns = relation_same scope name ts us r ns e n (terms_same all)

  -- two formulas that a term means are one where their quantifiers have the same numbers
  pub same_formula : (scope : List Bound) (t : RawTree) (f g : Fol) → Means st table variables scope t f → Means st table variables scope t g → binders_of f ≡ binders_of g → f ≡ g
  same_formula scope t f g a b e =
      let both_found : Some (f, []) ≡ Some (g, []) = sym (formula_same a []) ∙ ap (λ (ns : List ℕ). the_formula scope t (ns ++ [])) e ∙ formula_same b [] in
      ap (λ (p : Found). option_map_or (λ q. q.0) p verum) both_found

pub one_meaning : (st : Style) (table : List Symbol) (t : RawTree) (f g : Fol) → IsMeaning st table t f → IsMeaning st table t g → f ≡ g
one_meaning st table t f g a b = same_formula st table (variables_in st t) [] t f g a.means b.means (a.bound ∙ sym b.bound)
