-- The variables of a reading are those that its term has, in their order.
use Rattle.std.proofs.Common.{◌≡◌, ℕ, suc, Bool, true, false, List, [], ◌∷◌, ◌++◌, Option, Some, None, Result, Ok, Err, refl, sym, ap, ◌∙◌, append_assoc}
use Rattle.std.specs.Prelude.{not, ◌||◌, ◌&&◌, is_some, if◌then◌else◌, filter, IfOk, codes}
use Rattle.std.specs.List.{list_any}
use Rattle.std.specs.Str.{bytes_eq}
use Rattle.std.proofs.lemmas.List.{append-nil}
use Rattle.std.proofs.lemmas.List.Folds.{list_any-append}
use Rattle.std.proofs.lemmas.Slice.Eq.{bytes_eq-Decides}
use Rattle.fol_core.specs.Fol.{Fol, verum, falsum, negation}
use Rattle.fol_core.specs.RawTree.{RawTree, named, quantified, RawTrees, no_raws, more_raws}
use Rattle.fol_core.specs.SymbolTable.{Symbol, is_clash, symbol}
use Rattle.fol_core.specs.Tree.{Tree, elem, app, none}
use Rattle.fol_core.specs.declared.symbols.Kind.{Kind}
use Rattle.fol_core.specs.declared.symbols.Kind.TheVariants.{Function, Relation}
use Rattle.ladr_lex.specs.Numeral.{limited_number_of}
use Rattle.ladr_lex.specs.declared.misuse.Misuse.{Misuse}
use Rattle.ladr_lex.specs.declared.misuse.Misuse.TheVariants.{TwoKinds, QuantifierInTerm, UnfitAttribute, UnfitNumeral}
use Rattle.ladr_formulas.specs.Counting.{names_bound}
use Rattle.ladr_formulas.specs.Formulas.{Variable, Reading, Made, Bound, Style, meets, bound_number, free_number, is_free_name, with_variable, variable_number, named_variable, with_symbol, symbol_number, arity_of, is_too_great, is_element, constant_as, term_of, terms_of, relation_of, sentence_as, equation_read, under, is_denial, connective_of, connective_read, joined_by, by_connective, comparison, formula_in, unread, formula_reading, names_of_variables}
use Rattle.ladr_formulas.specs.Occurring.{in_order}
use Rattle.ladr_formulas.specs.VariablesMet.{free_variable_of, variables_of_term, variables_of_terms, variables_met, is_same_free, numbered, variables_in}
use Rattle.ladr_formulas.specs.Whole.{IsWhole}
use Rattle.ladr_formulas.specs.declared.formulas.FormulaRead.{FormulaRead}
use Rattle.ladr_formulas.specs.declared.connectives.Connective.{Connective}
use Rattle.ladr_formulas.specs.declared.connectives.Connective.TheVariants.{And, Or, IfThen, ThenIf, IfAndOnlyIf}
use Rattle.ladr_formulas.proofs.OrderLemmas.{bound_among, filter_both}

-- one more variable, unless it is free and there already, and more of them
abbrev put : List Variable → Variable → List Variable
put vs v = if v.free && is_some (free_number 0 vs v.name) then vs else vs ++ v ∷ []

abbrev all_put : List Variable → List Variable → List Variable
all_put vs [] = vs
all_put vs (w ∷ ws) = all_put (put vs w) ws

put_on : (vs xs ys : List Variable) → all_put vs (xs ++ ys) ≡ all_put (all_put vs xs) ys
put_on vs [] ys = refl
put_on vs (x ∷ xs) ys = put_on (put vs x) xs ys

pub met_variables : (test : Bool) (row : Misuse) (s : Reading) → (meets test row s).variables ≡ s.variables
met_variables true row s = refl
met_variables false row s = refl

pub symbol_variables : (name : List ℕ) (arity : ℕ) (kind : Kind) (s : Reading) → (with_symbol name arity kind s).variables ≡ s.variables
symbol_variables name arity kind s =
    let clash = is_clash s.symbols (symbol name arity kind) in
    met_variables (bytes_eq name (codes "#")) UnfitAttribute (meets clash TwoKinds s) ∙ met_variables clash TwoKinds s

-- a name without arguments
variable_put : (st : Style) (scope : List Bound) (name : List ℕ) (s : Reading) → (named_variable st scope name s).reading.variables ≡ all_put s.variables (free_variable_of st (names_bound scope) name)
unfolding named_variable
variable_put st scope name s =
    by (is_some (bound_number scope name)) (is_free_name st name) ∙
    ap (λ (b : Bool). all_put s.variables (if not b && is_free_name st name then own ∷ [] else [])) (bound_among scope name)
  where
    own : Variable
    own = record { name = name; free = true }

    there : Bool
    there = is_some (free_number 0 s.variables name)

    after : Bool → Reading
    after b = if b then s else with_variable name true s

    made : Bool → Bool → Made (Option ℕ)
    made b f = if b || f then record { tree = Some (variable_number scope name s); reading = after (b || there) } else record { tree = None; reading = s }

    new : (b : Bool) → (after b).variables ≡ (if b then s.variables else s.variables ++ own ∷ [])
    new true = refl
    new false = refl

    by : (b f : Bool) → (made b f).reading.variables ≡ all_put s.variables (if not b && f then own ∷ [] else [])
    by true f = refl
    by false true = new there
    by false false = refl

pub constant_kept : (st : Style) (name : List ℕ) (o : Option ℕ) (s : Reading) → (constant_as st name o s).reading.variables ≡ s.variables
constant_kept st name (Some n) s = refl
constant_kept st name None s = by (is_element st name)
  where
    made : Bool → Made Tree
    made b = if b then record { tree = elem (limited_number_of name); reading = meets (is_too_great st name) UnfitNumeral s } else record { tree = app (symbol_number name 0 (with_symbol name 0 Function s)) none; reading = with_symbol name 0 Function s }

    by : (b : Bool) → (made b).reading.variables ≡ s.variables
    by true = met_variables (is_too_great st name) UnfitNumeral s
    by false = symbol_variables name 0 Function s

mutual
  term_put : (st : Style) (scope : List Bound) (s : Reading) (t : RawTree) → (term_of st scope s t).reading.variables ≡ all_put s.variables (variables_of_term st (names_bound scope) t)
  term_put st scope s (quantified q x t) = term_put st _ (with_variable x false (meets true QuantifierInTerm s)) t
  term_put st scope s (named name no_raws) =
      let v = named_variable st scope name s in
      constant_kept st name v.tree v.reading ∙ variable_put st scope name s
  term_put st scope s (named name (more_raws t ts)) =
      let arity = suc (arity_of ts) in
      let met = meets (is_too_great st name) UnfitNumeral s in
      terms_put st scope (with_symbol name arity Function met) (more_raws t ts) ∙
      ap (λ (vs : List Variable). all_put vs (variables_of_terms st (names_bound scope) (more_raws t ts))) (symbol_variables name arity Function met ∙ met_variables (is_too_great st name) UnfitNumeral s)

  terms_put : (st : Style) (scope : List Bound) (s : Reading) (ts : RawTrees) → (terms_of st scope s ts).reading.variables ≡ all_put s.variables (variables_of_terms st (names_bound scope) ts)
  terms_put st scope s no_raws = refl
  terms_put st scope s (more_raws t ts) =
      let others = variables_of_terms st (names_bound scope) ts in
      terms_put st scope (term_of st scope s t).reading ts ∙ ap (λ (vs : List Variable). all_put vs others) (term_put st scope s t) ∙
      sym (put_on s.variables (variables_of_term st (names_bound scope) t) others)

relation_put : (st : Style) (scope : List Bound) (name : List ℕ) (ts : RawTrees) (s : Reading) → (relation_of st scope name ts s).reading.variables ≡ all_put s.variables (variables_of_terms st (names_bound scope) ts)
relation_put st scope name ts s =
    let met = meets (is_element st name) UnfitNumeral s in
    terms_put st scope (with_symbol name (arity_of ts) Relation met) ts ∙
    ap (λ (vs : List Variable). all_put vs (variables_of_terms st (names_bound scope) ts)) (symbol_variables name (arity_of ts) Relation met ∙ met_variables (is_element st name) UnfitNumeral s)

pub sentence_kept : (st : Style) (scope : List Bound) (name : List ℕ) (o : Option ℕ) (s : Reading) → (sentence_as st scope name o s).reading.variables ≡ s.variables
sentence_kept st scope name (Some n) s = refl
sentence_kept st scope name None s = by (bytes_eq name (codes "$T")) (bytes_eq name (codes "$F"))
  where
    made : Bool → Bool → Made Fol
    made a b = if a then record { tree = verum; reading = s } else (if b then record { tree = falsum; reading = s } else relation_of st scope name no_raws s)

    by : (a b : Bool) → (made a b).reading.variables ≡ s.variables
    by true b = refl
    by false true = refl
    by false false = relation_put st scope name no_raws s

equation_put : (st : Style) (scope : List Bound) (t u : RawTree) (s : Reading)
    → (equation_read st scope t u s).reading.variables ≡ all_put s.variables (variables_of_term st (names_bound scope) t ++ variables_of_term st (names_bound scope) u)
equation_put st scope t u s =
    let right = variables_of_term st (names_bound scope) u in
    term_put st scope (term_of st scope s t).reading u ∙ ap (λ (vs : List Variable). all_put vs right) (term_put st scope s t) ∙
    sym (put_on s.variables (variables_of_term st (names_bound scope) t) right)

comparison_put : (st : Style) (scope : List Bound) (name : List ℕ) (t u : RawTree) (s : Reading)
    → (comparison st scope name t u s).reading.variables ≡ all_put s.variables (variables_of_term st (names_bound scope) t ++ variables_of_term st (names_bound scope) u)
comparison_put st scope name t u s = by (bytes_eq name (codes "=")) (bytes_eq name (codes "!="))
  where
    left : List Variable
    left = variables_of_term st (names_bound scope) t

    right : List Variable
    right = variables_of_term st (names_bound scope) u

    made : Bool → Bool → Made Fol
    made a b = if a then equation_read st scope t u s else (if b then under negation (equation_read st scope t u s) else relation_of st scope name (more_raws t (more_raws u no_raws)) s)

    by : (a b : Bool) → (made a b).reading.variables ≡ all_put s.variables (left ++ right)
    by true b = equation_put st scope t u s
    by false true = equation_put st scope t u s
    by false false = relation_put st scope name (more_raws t (more_raws u no_raws)) s ∙ ap (λ (vs : List Variable). all_put s.variables (left ++ vs)) (append-nil right)

abbrev Puts : (Reading → Made Fol) → List Variable → Type 0
Puts f vs = (s : Reading) → (f s).reading.variables ≡ all_put s.variables vs

joined_put : (join : Fol → Fol → Fol) (f g : Reading → Made Fol) (xs ys : List Variable) → Puts f xs → Puts g ys → Puts (connective_read join f g) (xs ++ ys)
joined_put join f g xs ys a b s = b (f s).reading ∙ ap (λ (vs : List Variable). all_put vs ys) (a s) ∙ sym (put_on s.variables xs ys)

connected_put : (o : Option Connective) (f g h : Reading → Made Fol) (xs ys zs : List Variable) → Puts f xs → Puts g ys → Puts h zs → Puts (by_connective o f g h) (in_order o xs ys zs)
connected_put None f g h xs ys zs a b c s = c s
connected_put (Some And) f g h xs ys zs a b c s = joined_put (joined_by And) f g xs ys a b s
connected_put (Some Or) f g h xs ys zs a b c s = joined_put (joined_by Or) f g xs ys a b s
connected_put (Some IfThen) f g h xs ys zs a b c s = joined_put (joined_by IfThen) f g xs ys a b s
connected_put (Some ThenIf) f g h xs ys zs a b c s = joined_put (joined_by ThenIf) g f ys xs b a s
connected_put (Some IfAndOnlyIf) f g h xs ys zs a b c s = joined_put (joined_by IfAndOnlyIf) f g xs ys a b s

formula_put : (st : Style) (scope : List Bound) (s : Reading) (t : RawTree) → (formula_in st scope s t).reading.variables ≡ all_put s.variables (variables_met st (names_bound scope) t)
formula_put st scope s (quantified q x t) = formula_put st _ (with_variable x false s) t
formula_put st scope s (named name no_raws) =
    let v = named_variable st scope name s in
    sentence_kept st scope name v.tree v.reading ∙ variable_put st scope name s
formula_put st scope s (named name (more_raws t no_raws)) = by (is_denial name) (formula_put st scope s t)
  where
    own : List Variable
    own = variables_of_term st (names_bound scope) t

    made : Bool → Made Fol
    made b = if b then under negation (formula_in st scope s t) else relation_of st scope name (more_raws t no_raws) s

    by : (b : Bool) → (formula_in st scope s t).reading.variables ≡ all_put s.variables (variables_met st (names_bound scope) t)
        → (made b).reading.variables ≡ all_put s.variables (if b then variables_met st (names_bound scope) t else own)
    by true part = part
    by false part = relation_put st scope name (more_raws t no_raws) s ∙ ap (all_put s.variables) (append-nil own)
formula_put st scope s (named name (more_raws t (more_raws u no_raws))) =
    let names = names_bound scope in
    connected_put (connective_of name) (λ r. formula_in st scope r t) (λ r. formula_in st scope r u) (comparison st scope name t u)
    (variables_met st names t) (variables_met st names u) (variables_of_term st names t ++ variables_of_term st names u)
    (λ r. formula_put st scope r t) (λ r. formula_put st scope r u) (comparison_put st scope name t u) s
formula_put st scope s (named name (more_raws t (more_raws u (more_raws v ts)))) = relation_put st scope name (more_raws t (more_raws u (more_raws v ts))) s

-- whether a variable would be one more
abbrev is_fresh : List Variable → Variable → Bool
is_fresh vs w = not (w.free && is_some (free_number 0 vs w.name))

abbrev is_free_called : Variable → Variable → Bool
is_free_called w v = v.free && bytes_eq v.name w.name

free_any : (n : ℕ) (vs : List Variable) (name : List ℕ) → is_some (free_number n vs name) ≡ list_any (λ v. v.free && bytes_eq v.name name) vs
free_any n [] name = refl
free_any n (v ∷ vs) name = by (v.free && bytes_eq v.name name) (free_any (suc n) vs name)
  where
    by : (b : Bool) → is_some (free_number (suc n) vs name) ≡ list_any (λ v. v.free && bytes_eq v.name name) vs
        → is_some (if b then Some n else free_number (suc n) vs name) ≡ (b || list_any (λ v. v.free && bytes_eq v.name name) vs)
    by true rest = refl
    by false rest = rest

fresh_any : (vs : List Variable) (w : Variable) → is_fresh vs w ≡ not (w.free && list_any (is_free_called w) vs)
fresh_any vs w = ap (λ (b : Bool). not (w.free && b)) (free_any 0 vs w.name)

-- what is fresh behind one more variable was so before, and isn't that one
fresh_last : (vs : List Variable) (v w : Variable) → is_fresh (vs ++ v ∷ []) w ≡ (is_fresh vs w && not (is_same_free v w))
fresh_last vs v w =
    fresh_any (vs ++ v ∷ []) w ∙ ap (λ (b : Bool). not (w.free && b)) (list_any-append (is_free_called w) vs (v ∷ [])) ∙
    by w.free (list_any (is_free_called w) vs) v.free (bytes_eq v.name w.name) ∙ ap (λ (b : Bool). b && not (is_same_free v w)) (sym (fresh_any vs w))
  where
    by : (f a g b : Bool) → not (f && (a || ((g && b) || false))) ≡ (not (f && a) && not (g && f && b))
    by false a true b = refl
    by false a false b = refl
    by true true true b = refl
    by true true false b = refl
    by true false true true = refl
    by true false true false = refl
    by true false false b = refl

fresh_still : (vs : List Variable) (v w : Variable) → is_fresh vs v ≡ false → is_fresh vs w ≡ (is_fresh vs w && not (is_same_free v w))
fresh_still vs v w h = by v.free w.free (bytes_eq v.name w.name) refl refl refl
  where
    whole : (b : Bool) → b ≡ (b && true)
    whole true = refl
    whole false = refl

    gone : (b : Bool) → b ≡ false → b ≡ (b && false)
    gone true e = e
    gone false e = refl

    by : (f g b : Bool) → v.free ≡ f → w.free ≡ g → bytes_eq v.name w.name ≡ b → is_fresh vs w ≡ (is_fresh vs w && not (f && g && b))
    by false g b d e i = whole (is_fresh vs w)
    by true false b d e i = whole (is_fresh vs w)
    by true true false d e i = whole (is_fresh vs w)
    by true true true d e i =
        let name = (bytes_eq-Decides v.name w.name).0 i in
        gone (is_fresh vs w) ((λ j. not ((e ∙ sym d) j && is_some (free_number 0 vs (sym name j)))) ∙ h)

-- variables that are put stand behind the others, each that is fresh where it is first met
put_behind : (vs ws : List Variable) → all_put vs ws ≡ vs ++ filter (is_fresh vs) (numbered ws)
put_behind vs [] = sym (append-nil vs)
put_behind vs (w ∷ ws) = by (w.free && is_some (free_number 0 vs w.name)) refl (λ us. put_behind us ws)
  where
    others : List Variable
    others = filter (λ v. not (is_same_free w v)) (numbered ws)

    chosen : Bool → List Variable
    chosen b = if b then w ∷ filter (is_fresh vs) others else filter (is_fresh vs) others

    by : (b : Bool) → (w.free && is_some (free_number 0 vs w.name)) ≡ b → ((us : List Variable) → all_put us ws ≡ us ++ filter (is_fresh us) (numbered ws)) → all_put (put vs w) ws ≡ vs ++ filter (is_fresh vs) (numbered (w ∷ ws))
    by true e rest =
        ap (λ (b : Bool). all_put (if b then vs else vs ++ w ∷ []) ws) e ∙ rest vs ∙
        ap (λ (l : List Variable). vs ++ l) (filter_both (is_fresh vs) (is_fresh vs) (λ v. not (is_same_free w v)) (numbered ws) (λ x. fresh_still vs w x (ap not e)) ∙ ap chosen (sym (ap not e)))
    by false e rest =
        ap (λ (b : Bool). all_put (if b then vs else vs ++ w ∷ []) ws) e ∙ rest (vs ++ w ∷ []) ∙ append_assoc vs (w ∷ []) (filter (is_fresh (vs ++ w ∷ [])) (numbered ws)) ∙
        ap (λ (l : List Variable). vs ++ l) (ap (λ (l : List Variable). w ∷ l) (filter_both (is_fresh (vs ++ w ∷ [])) (is_fresh vs) (λ v. not (is_same_free w v)) (numbered ws) (λ x. fresh_last vs w x)) ∙ ap chosen (sym (ap not e)))

-- none is there yet at the start
fresh_all : (ws : List Variable) → filter (is_fresh []) ws ≡ ws
fresh_all [] = refl
fresh_all (w ∷ ws) = by w.free (fresh_all ws)
  where
    by : (f : Bool) → filter (is_fresh []) ws ≡ ws → (if not (f && false) then w ∷ filter (is_fresh []) ws else filter (is_fresh []) ws) ≡ w ∷ ws
    by true rest = ap (λ (l : List Variable). w ∷ l) rest
    by false rest = ap (λ (l : List Variable). w ∷ l) rest

-- the variables of a formula that is read
pub variables_read : (st : Style) (table : List Symbol) (t : RawTree) → (formula_reading st table t).reading.variables ≡ variables_in st t
variables_read st table t = formula_put st [] (unread table) t ∙ put_behind [] (variables_met st [] t) ∙ fresh_all (numbered (variables_met st [] t))

-- and those of terms
pub terms_variables : (st : Style) (table : List Symbol) (ts : RawTrees) → (terms_of st [] (unread table) ts).reading.variables ≡ numbered (variables_of_terms st [] ts)
terms_variables st table ts = terms_put st [] (unread table) ts ∙ put_behind [] (variables_of_terms st [] ts) ∙ fresh_all (numbered (variables_of_terms st [] ts))

-- so are those that the code has
pub whole_numbered : {E : Type 0} (r : Result FormulaRead E) (st : Style) (table : List Symbol) (t : RawTree) (u : List Symbol) → IfOk r (λ f. IsWhole (formula_reading st table t) f u)
    → IfOk r (λ f. f.formula.names ≡ names_of_variables (variables_in st t))
whole_numbered (Ok f) st table t u h = h.named ∙ ap names_of_variables (variables_read st table t)
whole_numbered (Err e) st table t u h = tt
