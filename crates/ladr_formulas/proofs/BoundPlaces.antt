-- The quantifiers of a formula that is read bind, from left to right, the variables that aren't free.
use Rattle.std.proofs.Common.{◌≡◌, ℕ, suc, ◌+◌, Bool, true, false, List, [], ◌∷◌, ◌++◌, length, Option, Some, None, refl, sym, ap, ◌∙◌, append_assoc, add-zero, zero-add, arith}
use Rattle.std.specs.Prelude.{◌||◌, is_some, if◌then◌else◌, codes}
use Rattle.std.specs.Str.{bytes_eq}
use Rattle.std.proofs.lemmas.List.{append-nil}
use Rattle.fol_core.specs.Bound.{binders_of}
use Rattle.fol_core.specs.Fol.{Fol, verum, falsum, negation}
use Rattle.fol_core.specs.RawTree.{RawTree, named, quantified, RawTrees, no_raws, more_raws}
use Rattle.fol_core.specs.SymbolTable.{Symbol}
use Rattle.fol_core.specs.declared.raw.Quantifier.{Quantifier}
use Rattle.fol_core.specs.declared.raw.Quantifier.TheVariants.{All, Exists}
use Rattle.fol_core.specs.declared.symbols.Kind.TheVariants.{Function, Relation}
use Rattle.ladr_lex.specs.declared.misuse.Misuse.TheVariants.{QuantifierInTerm, UnfitNumeral}
use Rattle.ladr_formulas.specs.Formulas.{Variable, Reading, Made, Bound, Style, meets, bound_number, free_number, is_variable, with_variable, variable_number, reading_with_name, named_variable, with_symbol, arity_of, is_too_great, is_element, term_of, terms_of, relation_of, sentence_as, equation_read, under, bound_by, is_denial, connective_of, connective_read, joined_by, by_connective, comparison, formula_in, unread, formula_reading}
use Rattle.ladr_formulas.specs.Means.{bound_places}
use Rattle.ladr_formulas.specs.VariablesMet.{variables_in}
use Rattle.ladr_formulas.specs.declared.connectives.Connective.{Connective}
use Rattle.ladr_formulas.specs.declared.connectives.Connective.TheVariants.{And, Or, IfThen, ThenIf, IfAndOnlyIf}
use Rattle.ladr_formulas.proofs.Growing.{Grows, grows_term, grows_terms, grows_formula}
use Rattle.ladr_formulas.proofs.OwnVariables.{met}
use Rattle.ladr_formulas.proofs.VariableOrder.{met_variables, symbol_variables, constant_kept, sentence_kept, variables_read}

-- the places of the variables so far that aren't free
abbrev places : Reading → List ℕ
places s = bound_places 0 s.variables

places_last : (n : ℕ) (vs : List Variable) (v : Variable) → bound_places n (vs ++ v ∷ []) ≡ bound_places n vs ++ (if v.free then [] else (n + length vs) ∷ [])
places_last n [] v = ap (λ (m : ℕ). if v.free then [] else m ∷ []) (sym (add-zero n))
places_last n (w ∷ vs) v = by w.free (places_last (suc n) vs v ∙ ap (λ (m : ℕ). bound_places (suc n) vs ++ (if v.free then [] else m ∷ [])) next)
  where
    next : suc n + length vs ≡ n + suc (length vs)
    next = omega arith

    behind : List ℕ
    behind = if v.free then [] else (n + suc (length vs)) ∷ []

    by : (b : Bool) → bound_places (suc n) (vs ++ v ∷ []) ≡ bound_places (suc n) vs ++ behind
        → (if b then bound_places (suc n) (vs ++ v ∷ []) else n ∷ bound_places (suc n) (vs ++ v ∷ [])) ≡ (if b then bound_places (suc n) vs else n ∷ bound_places (suc n) vs) ++ behind
    by true rest = rest
    by false rest = ap (λ (ns : List ℕ). n ∷ ns) rest

places_name : (scope : List Bound) (name : List ℕ) (s : Reading) → places (reading_with_name scope name s) ≡ places s
places_name scope name s = by (is_some (bound_number scope name) || is_some (free_number 0 s.variables name))
  where
    after : Bool → Reading
    after b = if b then s else with_variable name true s

    by : (b : Bool) → places (after b) ≡ places s
    by true = refl
    by false = places_last 0 s.variables (record { name = name; free = true }) ∙ append-nil (places s)

places_named : (st : Style) (scope : List Bound) (name : List ℕ) (s : Reading) → places (named_variable st scope name s).reading ≡ places s
unfolding named_variable
places_named st scope name s = by (is_variable st scope name)
  where
    made : Bool → Made (Option ℕ)
    made b = if b then record { tree = Some (variable_number scope name s); reading = reading_with_name scope name s } else record { tree = None; reading = s }

    by : (b : Bool) → places (made b).reading ≡ places s
    by true = places_name scope name s
    by false = refl

-- without misuse terms bring no quantifier
mutual
  places_term : (st : Style) (scope : List Bound) (s : Reading) (t : RawTree) → (term_of st scope s t).reading.least ≡ None → places (term_of st scope s t).reading ≡ places s
  places_term st scope s (quantified q x t) e =
      absurd (met QuantifierInTerm s ((grows_term st (record { name = x; number = length s.variables } ∷ scope) (with_variable x false (meets true QuantifierInTerm s)) t).sound e))
  places_term st scope s (named name no_raws) e =
      let v = named_variable st scope name s in
      ap (bound_places 0) (constant_kept st name v.tree v.reading) ∙ places_named st scope name s
  places_term st scope s (named name (more_raws t ts)) e =
      let arity = suc (arity_of ts) in
      let great = meets (is_too_great st name) UnfitNumeral s in
      places_terms st scope (with_symbol name arity Function great) (more_raws t ts) e ∙
      ap (bound_places 0) (symbol_variables name arity Function great ∙ met_variables (is_too_great st name) UnfitNumeral s)

  places_terms : (st : Style) (scope : List Bound) (s : Reading) (ts : RawTrees) → (terms_of st scope s ts).reading.least ≡ None → places (terms_of st scope s ts).reading ≡ places s
  places_terms st scope s no_raws e = refl
  places_terms st scope s (more_raws t ts) e =
      let first = term_of st scope s t in
      places_terms st scope first.reading ts e ∙ places_term st scope s t ((grows_terms st scope first.reading ts).sound e)

-- without misuse the places of a formula's quantifiers come behind the others
abbrev Binds : (Reading → Made Fol) → Type 0
Binds f = (s : Reading) → (f s).reading.least ≡ None → places (f s).reading ≡ places s ++ binders_of (f s).tree

none_more : (s : Reading) (ns : List ℕ) → ns ≡ places s → ns ≡ places s ++ []
none_more s ns e = e ∙ sym (append-nil (places s))

binds_relation : (st : Style) (scope : List Bound) (name : List ℕ) (ts : RawTrees) → Binds (relation_of st scope name ts)
binds_relation st scope name ts s e =
    let element = meets (is_element st name) UnfitNumeral s in
    none_more s _ (places_terms st scope (with_symbol name (arity_of ts) Relation element) ts e ∙
    ap (bound_places 0) (symbol_variables name (arity_of ts) Relation element ∙ met_variables (is_element st name) UnfitNumeral s))

binds_equation : (st : Style) (scope : List Bound) (t u : RawTree) → Binds (equation_read st scope t u)
binds_equation st scope t u s e =
    let left = term_of st scope s t in
    none_more s _ (places_term st scope left.reading u e ∙ places_term st scope s t ((grows_term st scope left.reading u).sound e))

either : (b : Bool) (f g : Reading → Made Fol) → Binds f → Binds g → Binds (λ s. if b then f s else g s)
either true f g h k s e = h s e
either false f g h k s e = k s e

binds_comparison : (st : Style) (scope : List Bound) (name : List ℕ) (t u : RawTree) → Binds (comparison st scope name t u)
binds_comparison st scope name t u s e =
    let equation = equation_read st scope t u in
    let other = relation_of st scope name (more_raws t (more_raws u no_raws)) in
    either (bytes_eq name (codes "=")) equation (λ (r : Reading). if bytes_eq name (codes "!=") then under negation (equation r) else other r)
    (binds_equation st scope t u)
    (either (bytes_eq name (codes "!=")) (λ (r : Reading). under negation (equation r)) other (binds_equation st scope t u) (binds_relation st scope name (more_raws t (more_raws u no_raws))))
    s e

joined_binders : (c : Connective) (f g : Fol) → binders_of (joined_by c f g) ≡ binders_of f ++ binders_of g
joined_binders And f g = refl
joined_binders Or f g = refl
joined_binders IfThen f g = refl
joined_binders ThenIf f g = refl
joined_binders IfAndOnlyIf f g = refl

binds_joined : (c : Connective) (f g : Reading → Made Fol) → Binds f → Binds g → ((s : Reading) → Grows s (g s).reading) → Binds (connective_read (joined_by c) f g)
binds_joined c f g a b grows s e =
    let left = f s in
    let right = g left.reading in
    b left.reading e ∙ ap (λ (ns : List ℕ). ns ++ binders_of right.tree) (a s ((grows left.reading).sound e)) ∙
    append_assoc (places s) (binders_of left.tree) (binders_of right.tree) ∙ ap (λ (ns : List ℕ). places s ++ ns) (sym (joined_binders c left.tree right.tree))

binds_connected : (o : Option Connective) (f g h : Reading → Made Fol) → Binds f → Binds g → Binds h → ((s : Reading) → Grows s (f s).reading) → ((s : Reading) → Grows s (g s).reading) → Binds (by_connective o f g h)
binds_connected None f g h a b c k l s e = c s e
binds_connected (Some And) f g h a b c k l s e = binds_joined And f g a b l s e
binds_connected (Some Or) f g h a b c k l s e = binds_joined Or f g a b l s e
binds_connected (Some IfThen) f g h a b c k l s e = binds_joined IfThen f g a b l s e
binds_connected (Some ThenIf) f g h a b c k l s e = binds_joined ThenIf g f b a k s e
binds_connected (Some IfAndOnlyIf) f g h a b c k l s e = binds_joined IfAndOnlyIf f g a b l s e

bound_binders : (q : Quantifier) (n : ℕ) (f : Fol) → binders_of (bound_by q n f) ≡ n ∷ binders_of f
bound_binders All n f = refl
bound_binders Exists n f = refl

sentence_binders : (st : Style) (scope : List Bound) (name : List ℕ) (o : Option ℕ) (s : Reading) → binders_of (sentence_as st scope name o s).tree ≡ []
sentence_binders st scope name (Some n) s = refl
sentence_binders st scope name None s = by (bytes_eq name (codes "$T")) (bytes_eq name (codes "$F"))
  where
    made : Bool → Bool → Made Fol
    made a b = if a then record { tree = verum; reading = s } else (if b then record { tree = falsum; reading = s } else relation_of st scope name no_raws s)

    by : (a b : Bool) → binders_of (made a b).tree ≡ []
    by true b = refl
    by false true = refl
    by false false = refl

binds_formula : (st : Style) (scope : List Bound) (t : RawTree) → Binds (λ s. formula_in st scope s t)
binds_formula st scope (quantified q x t) s e =
    let n = length s.variables in
    let around = record { name = x; number = n } ∷ scope in
    let body = formula_in st around (with_variable x false s) t in
    binds_formula st around t (with_variable x false s) e ∙
    ap (λ (ns : List ℕ). ns ++ binders_of body.tree) (places_last 0 s.variables (record { name = x; free = false }) ∙ ap (λ (m : ℕ). places s ++ m ∷ []) (zero-add n)) ∙
    append_assoc (places s) (n ∷ []) (binders_of body.tree) ∙ ap (λ (ns : List ℕ). places s ++ ns) (sym (bound_binders q n body.tree))
binds_formula st scope (named name no_raws) s e =
    let v = named_variable st scope name s in
    none_more s _ (ap (bound_places 0) (sentence_kept st scope name v.tree v.reading) ∙ places_named st scope name s) ∙
    ap (λ (ns : List ℕ). places s ++ ns) (sym (sentence_binders st scope name v.tree v.reading))
binds_formula st scope (named name (more_raws t no_raws)) s e =
    either (is_denial name) (λ (r : Reading). under negation (formula_in st scope r t)) (relation_of st scope name (more_raws t no_raws)) (binds_formula st scope t) (binds_relation st scope name (more_raws t no_raws)) s e
binds_formula st scope (named name (more_raws t (more_raws u no_raws))) s e =
    binds_connected (connective_of name) (λ r. formula_in st scope r t) (λ r. formula_in st scope r u) (comparison st scope name t u)
    (binds_formula st scope t) (binds_formula st scope u) (binds_comparison st scope name t u) (λ r. grows_formula st scope t r) (λ r. grows_formula st scope u r) s e
binds_formula st scope (named name (more_raws t (more_raws u (more_raws w ts)))) s e = binds_relation st scope name (more_raws t (more_raws u (more_raws w ts))) s e

-- a formula without misuse binds the variables of its term that aren't free, in their order
pub binders_read : (st : Style) (table : List Symbol) (t : RawTree) → (formula_reading st table t).reading.least ≡ None → binders_of (formula_reading st table t).tree ≡ bound_places 0 (variables_in st t)
binders_read st table t e = sym (binds_formula st [] t (unread table) e) ∙ ap (bound_places 0) (variables_read st table t)
