-- A term that means something by the symbols that there are in the end breaks no row.
use Rattle.std.proofs.Common.{◌≡◌, ℕ, suc, Bool, true, false, List, [], ◌∷◌, length, Option, Some, None, refl, sym, ap, ◌∙◌, Result, Ok, Err, subst}
use Rattle.std.specs.Prelude.{not, ◌||◌, ◌&&◌, is_some, is_none, if◌then◌else◌, IfOk, codes}
use Rattle.std.specs.Str.{bytes_eq}
use Rattle.fol_core.specs.Fol.{Fol, verum, falsum, negation}
use Rattle.fol_core.specs.RawTree.{RawTree, named, RawTrees, no_raws, more_raws}
use Rattle.fol_core.specs.SymbolTable.{Symbol, symbol, number_of, is_clash, KeepsNumbers}
use Rattle.fol_core.specs.Tree.{Tree, Trees, elem, app, none}
use Rattle.fol_core.specs.declared.symbols.Kind.{Kind}
use Rattle.fol_core.specs.declared.symbols.Kind.TheVariants.{Function, Relation}
use Rattle.ladr_lex.specs.Numeral.{limited_number_of}
use Rattle.ladr_lex.specs.declared.misuse.Misuse.TheVariants.{TwoKinds, UnfitAttribute, UnfitNumeral}
use Rattle.ladr_formulas.specs.Formulas.{Variable, Reading, Made, Bound, Style, meets, bound_number, free_number, is_free_name, is_variable, with_variable, variable_number, reading_with_name, named_variable, with_symbol, symbol_number, arity_of, is_too_great, is_element, constant_as, constant, term_of, terms_of, relation_of, sentence_as, sentence, equation_read, under, is_denial, connective_of, by_connective, formula_in, unread, formula_reading}
use Rattle.ladr_formulas.specs.Means.{number_as, is_function, is_relation, IsMeaning, MeansTerm, bound_variable, free_variable, element, applied, MeanTerms, no_terms, more_terms, Means, for_all, there_is, truth, falsity, denied, both, either, if_then, then_if, if_and_only_if, equals, differs, related}
use Rattle.ladr_formulas.specs.VariablesMet.{variables_of_terms, numbered}
use Rattle.ladr_formulas.specs.Whole.{IsWhole}
use Rattle.ladr_formulas.specs.declared.formulas.FormulaRead.{FormulaRead}
use Rattle.ladr_formulas.specs.declared.connectives.Connective.{Connective}
use Rattle.ladr_formulas.proofs.Behind.{stands}
use Rattle.ladr_formulas.proofs.Growing.{Grows, grows_term, grows_terms, grows_formula}

-- the same names are bound, to whatever numbers
abbrev SameNames : List Bound → List Bound → Type 0
SameNames a b = (name : List ℕ) → is_some (bound_number a name) ≡ is_some (bound_number b name)

same_inside : (x : List ℕ) (m n : ℕ) (a b : List Bound) → SameNames a b → SameNames (record { name = x; number = m } ∷ a) (record { name = x; number = n } ∷ b)
same_inside x m n a b h name = by (bytes_eq x name)
  where
    by : (c : Bool) → is_some (if c then Some m else bound_number a name) ≡ is_some (if c then Some n else bound_number b name)
    by true = refl
    by false = h name

-- a name without arguments, as a variable or not
abbrev named_as : Bool → List Bound → List ℕ → Reading → Made (Option ℕ)
named_as c b name s = if c then record { tree = Some (variable_number b name s); reading = reading_with_name b name s } else record { tree = None; reading = s }

-- what is read up to a last table
module _ (st : Style) (T : List Symbol) where
  abbrev Kept : Reading → Type 0
  Kept s = KeepsNumbers s.symbols T

  kept_before : (a b : Reading) → Grows a b → Kept b → Kept a
  kept_before a b g k n s h = k n s (g.symbols n s h)

  variable_same : (a b : List Bound) (name : List ℕ) → SameNames a b → is_variable st b name ≡ is_variable st a name
  variable_same a b name h = ap (λ (c : Bool). c || is_free_name st name) (sym (h name))

  symbol_unmet : (name : List ℕ) (arity : ℕ) (kind : Kind) (n : ℕ) (s : Reading) → number_as kind T name arity ≡ Some n → Kept (with_symbol name arity kind s) → s.least ≡ None → (with_symbol name arity kind s).least ≡ None
  symbol_unmet name arity kind n s e k u =
      let x : Symbol = symbol name arity kind in
      let two = neither (bytes_eq name (codes "#")) (is_clash T x) e in
      let apart : is_clash s.symbols x ≡ false = sym ((stands s.symbols T x k).clash) ∙ two.1 in
      (λ i. (meets (two.0 i) UnfitAttribute (meets (apart i) TwoKinds s)).least) ∙ u
    where
      neither : (a b : Bool) → (if a || b then None else number_of T name arity) ≡ Some n → (a ≡ false) × (b ≡ false)
      neither true b e = cc
      neither false true e = cc
      neither false false e = (refl, refl)

  named_is : (b : List Bound) (name : List ℕ) (s : Reading) (c : Bool) → is_variable st b name ≡ c → named_variable st b name s ≡ named_as c b name s
  unfolding named_variable
  named_is b name s c e = ap (λ (d : Bool). named_as d b name s) e

  constant_is : (b : List Bound) (name : List ℕ) (s : Reading) (c : Bool) → is_variable st b name ≡ c → constant st b name s ≡ constant_as st name (named_as c b name s).tree (named_as c b name s).reading
  constant_is b name s c e = ap (λ (v : Made (Option ℕ)). constant_as st name v.tree v.reading) (named_is b name s c e)

  sentence_is : (b : List Bound) (name : List ℕ) (s : Reading) (c : Bool) → is_variable st b name ≡ c → sentence st b name s ≡ sentence_as st b name (named_as c b name s).tree (named_as c b name s).reading
  sentence_is b name s c e = ap (λ (v : Made (Option ℕ)). sentence_as st b name v.tree v.reading) (named_is b name s c e)

  name_unmet : (b : List Bound) (name : List ℕ) (s : Reading) → s.least ≡ None → (reading_with_name b name s).least ≡ None
  name_unmet b name s u = by (is_some (bound_number b name) || is_some (free_number 0 s.variables name))
    where
      by : (c : Bool) → (if c then s else with_variable name true s).least ≡ None
      by true = u
      by false = u

  variable_unmet : (b : List Bound) (name : List ℕ) (s : Reading) → is_variable st b name ≡ true → s.least ≡ None → (constant st b name s).reading.least ≡ None
  variable_unmet b name s e u = ap (λ (m : Made Tree). m.reading.least) (constant_is b name s true e) ∙ name_unmet b name s u

  -- a name that is no variable, as an element or a constant
  abbrev no_variable_as : Bool → Bool → List ℕ → Reading → Made Tree
  no_variable_as a b name s =
      if a then record { tree = elem (limited_number_of name); reading = meets b UnfitNumeral s }
      else record { tree = app (symbol_number name 0 (with_symbol name 0 Function s)) none; reading = with_symbol name 0 Function s }

  no_variable_is : (b : List Bound) (name : List ℕ) (s : Reading) (c : Bool) → is_variable st b name ≡ false → is_element st name ≡ c → constant st b name s ≡ no_variable_as c (is_too_great st name) name s
  no_variable_is b name s c e f = constant_is b name s false e ∙ ap (λ (d : Bool). no_variable_as d (is_too_great st name) name s) f

  abbrev Rest : List Bound → RawTrees → Type 0
  Rest b ts = (r : Reading) → r.least ≡ None → Kept (terms_of st b r ts).reading → (terms_of st b r ts).reading.least ≡ None

  application_unmet : (a b : List Bound) (name : List ℕ) (ts : RawTrees) (f : ℕ) (s : Reading) → is_function st a name ts ≡ true → number_as Function T name (arity_of ts) ≡ Some f → SameNames a b
      → Rest b ts → s.least ≡ None → Kept (term_of st b s (named name ts)).reading → (term_of st b s (named name ts)).reading.least ≡ None
  application_unmet a b name no_raws f s e n h rest u k =
      let two = neither (is_variable st a name) (is_element st name) e in
      let is = no_variable_is b name s false (variable_same a b name h ∙ two.0) two.1 in
      ap (λ (m : Made Tree). m.reading.least) is ∙ symbol_unmet name 0 Function f s n (subst (λ (m : Made Tree). Kept m.reading) is k) u
    where
      neither : (c d : Bool) → (not c && not d) ≡ true → (c ≡ false) × (d ≡ false)
      neither true d e = cc
      neither false true e = cc
      neither false false e = (refl, refl)
  application_unmet a b name (more_raws t ts) f s e n h rest u k =
      let great = meets (is_too_great st name) UnfitNumeral s in
      let after = with_symbol name (suc (arity_of ts)) Function great in
      let before : great.least ≡ None = ap (λ (c : Bool). (meets c UnfitNumeral s).least) (small (is_too_great st name) e) ∙ u in
      rest after (symbol_unmet name (suc (arity_of ts)) Function f great n (kept_before after _ (grows_terms st b after (more_raws t ts)) k) before) k
    where
      small : (c : Bool) → not c ≡ true → c ≡ false
      small true e = cc
      small false e = refl

  module _ (vs : List Variable) where
    mutual
      term_unmet : {a : List Bound} {t : RawTree} {u : Tree} → MeansTerm st T vs a t u → (b : List Bound) (s : Reading) → SameNames a b → s.least ≡ None → Kept (term_of st b s t).reading → (term_of st b s t).reading.least ≡ None
      term_unmet (bound_variable {scope} {name} {n} e) b s h w k =
          variable_unmet b name s (variable_same scope b name h ∙ ap (λ (o : Option ℕ). is_some o || is_free_name st name) e) w
      term_unmet (free_variable {scope} {name} {n} e is i) b s h w k =
          variable_unmet b name s (variable_same scope b name h ∙ (λ j. is_some (e j) || is j)) w
      term_unmet (element {scope} {name} other e small) b s h w k =
          ap (λ (m : Made Tree). m.reading.least) (no_variable_is b name s true (variable_same scope b name h ∙ other) e) ∙ ap (λ (c : Bool). (meets c UnfitNumeral s).least) small ∙ w
      term_unmet (applied {scope} {name} {ts} {us} {f} e n all) b s h w k = application_unmet scope b name ts f s e n h (λ r. terms_unmet all b r h) w k

      terms_unmet : {a : List Bound} {ts : RawTrees} {us : Trees} → MeanTerms st T vs a ts us → (b : List Bound) (s : Reading) → SameNames a b → s.least ≡ None → Kept (terms_of st b s ts).reading → (terms_of st b s ts).reading.least ≡ None
      terms_unmet no_terms b s h w k = w
      terms_unmet (more_terms {scope} {t} {ts} first others) b s h w k =
          let m = term_of st b s t in
          terms_unmet others b m.reading h (term_unmet first b s h w (kept_before m.reading _ (grows_terms st b m.reading ts) k)) k

    relation_unmet : (b : List Bound) (name : List ℕ) (ts : RawTrees) (r : ℕ) (s : Reading) → is_element st name ≡ false → number_as Relation T name (arity_of ts) ≡ Some r
        → Rest b ts → s.least ≡ None → Kept (relation_of st b name ts s).reading → (relation_of st b name ts s).reading.least ≡ None
    relation_unmet b name ts r s other n rest u k =
        let numeral = meets (is_element st name) UnfitNumeral s in
        let after = with_symbol name (arity_of ts) Relation numeral in
        let before : numeral.least ≡ None = ap (λ (c : Bool). (meets c UnfitNumeral s).least) other ∙ u in
        rest after (symbol_unmet name (arity_of ts) Relation r numeral n (kept_before after _ (grows_terms st b after ts) k) before) k

    -- a relation is read as one
    relation_is : (a b : List Bound) (name : List ℕ) (ts : RawTrees) (s : Reading) → SameNames a b → is_relation st a name ts ≡ true → formula_in st b s (named name ts) ≡ relation_of st b name ts s
    relation_is a b name no_raws s h e =
        let all = neither (is_variable st a name) (bytes_eq name (codes "$T")) (bytes_eq name (codes "$F")) e in
        sentence_is b name s false (variable_same a b name h ∙ all.0) ∙ (λ i. made (all.1.0 i) (all.1.1 i))
      where
        neither : (c d f : Bool) → not (c || d || f) ≡ true → (c ≡ false) × ((d ≡ false) × (f ≡ false))
        neither true d f e = cc
        neither false true f e = cc
        neither false false true e = cc
        neither false false false e = (refl, (refl, refl))

        made : Bool → Bool → Made Fol
        made c d = if c then record { tree = verum; reading = s } else (if d then record { tree = falsum; reading = s } else relation_of st b name no_raws s)
    relation_is a b name (more_raws t no_raws) s h e = by (is_denial name) e
      where
        by : (c : Bool) → not c ≡ true → (if c then under negation (formula_in st b s t) else relation_of st b name (more_raws t no_raws) s) ≡ relation_of st b name (more_raws t no_raws) s
        by true e = cc
        by false e = refl
    relation_is a b name (more_raws t (more_raws u no_raws)) s h e = by (connective_of name) (bytes_eq name (codes "=")) (bytes_eq name (codes "!=")) e
      where
        other : Bool → Bool → Reading → Made Fol
        other c d r =
            if c then equation_read st b t u r
            else (if d then under negation (equation_read st b t u r) else relation_of st b name (more_raws t (more_raws u no_raws)) r)

        by : (o : Option Connective) (c d : Bool) → (is_none o && not (c || d)) ≡ true
            → by_connective o (λ r. formula_in st b r t) (λ r. formula_in st b r u) (other c d) s ≡ relation_of st b name (more_raws t (more_raws u no_raws)) s
        by (Some o) c d e = cc
        by None true d e = cc
        by None false true e = cc
        by None false false e = refl
    relation_is a b name (more_raws t (more_raws u (more_raws v ts))) s h e = refl

    -- two formulas, read one behind the other
    pair_unmet : (t v : RawTree) (b : List Bound) (s : Reading) → ((r : Reading) → r.least ≡ None → Kept (formula_in st b r t).reading → (formula_in st b r t).reading.least ≡ None)
        → ((r : Reading) → r.least ≡ None → Kept (formula_in st b r v).reading → (formula_in st b r v).reading.least ≡ None)
        → s.least ≡ None → Kept (formula_in st b (formula_in st b s t).reading v).reading → (formula_in st b (formula_in st b s t).reading v).reading.least ≡ None
    pair_unmet t v b s p q u k =
        let left = formula_in st b s t in
        q left.reading (p s u (kept_before left.reading _ (grows_formula st b v left.reading) k)) k

    formula_unmet : {a : List Bound} {t : RawTree} {f : Fol} → Means st T vs a t f → (b : List Bound) (s : Reading) → SameNames a b → s.least ≡ None → Kept (formula_in st b s t).reading → (formula_in st b s t).reading.least ≡ None
    formula_unmet (for_all {scope} {x} {t} {f} {n} place m) b s h w k =
        formula_unmet m (record { name = x; number = length s.variables } ∷ b) (with_variable x false s) (same_inside x n (length s.variables) scope b h) w k
    formula_unmet (there_is {scope} {x} {t} {f} {n} place m) b s h w k =
        formula_unmet m (record { name = x; number = length s.variables } ∷ b) (with_variable x false s) (same_inside x n (length s.variables) scope b h) w k
    formula_unmet (truth {scope} e) b s h w k = ap (λ (m : Made Fol). m.reading.least) (sentence_is b (codes "$T") s false (variable_same scope b (codes "$T") h ∙ e)) ∙ w
    formula_unmet (falsity {scope} e) b s h w k = ap (λ (m : Made Fol). m.reading.least) (sentence_is b (codes "$F") s false (variable_same scope b (codes "$F") h ∙ e)) ∙ w
    formula_unmet (denied m) b s h w k = formula_unmet m b s h w k
    formula_unmet (both {scope} {t} {u} p q) b s h w k = pair_unmet t u b s (λ r. formula_unmet p b r h) (λ r. formula_unmet q b r h) w k
    formula_unmet (either {scope} {t} {u} p q) b s h w k = pair_unmet t u b s (λ r. formula_unmet p b r h) (λ r. formula_unmet q b r h) w k
    formula_unmet (if_then {scope} {t} {u} p q) b s h w k = pair_unmet t u b s (λ r. formula_unmet p b r h) (λ r. formula_unmet q b r h) w k
    formula_unmet (then_if {scope} {t} {u} p q) b s h w k = pair_unmet u t b s (λ r. formula_unmet q b r h) (λ r. formula_unmet p b r h) w k
    formula_unmet (if_and_only_if {scope} {t} {u} p q) b s h w k = pair_unmet t u b s (λ r. formula_unmet p b r h) (λ r. formula_unmet q b r h) w k
    formula_unmet (equals {scope} {t} {u} p q) b s h w k =
        let left = term_of st b s t in
        term_unmet q b left.reading h (term_unmet p b s h w (kept_before left.reading _ (grows_term st b left.reading u) k)) k
    formula_unmet (differs {scope} {t} {u} p q) b s h w k =
        let left = term_of st b s t in
        term_unmet q b left.reading h (term_unmet p b s h w (kept_before left.reading _ (grows_term st b left.reading u) k)) k
    formula_unmet (related {scope} {name} {ts} {us} {r} e other n all) b s h w k =
        let is = relation_is scope b name ts s h e in
        ap (λ (m : Made Fol). m.reading.least) is ∙ relation_unmet b name ts r s other n (λ q. terms_unmet all b q h) w (subst (λ (m : Made Fol). Kept m.reading) is k)

-- where a term means a formula by its own symbols, no row was met as it was read
pub reading_unmet : (st : Style) (table : List Symbol) (t : RawTree) (f : Fol) → IsMeaning st (formula_reading st table t).reading.symbols t f → (formula_reading st table t).reading.least ≡ None
reading_unmet st table t f h = formula_unmet st (formula_reading st table t).reading.symbols _ h.means [] (unread table) (λ name. refl) refl (λ n s e. e)

-- and so it is where terms mean terms
pub terms_reading_unmet : (st : Style) (table : List Symbol) (ts : RawTrees) (us : Trees) → MeanTerms st (terms_of st [] (unread table) ts).reading.symbols (numbered (variables_of_terms st [] ts)) [] ts us
    → (terms_of st [] (unread table) ts).reading.least ≡ None
terms_reading_unmet st table ts us h = terms_unmet st (terms_of st [] (unread table) ts).reading.symbols _ h [] (unread table) (λ name. refl) refl (λ n s e. e)

-- so it is in what the code has
pub whole_unmet : {E : Type 0} (r : Result FormulaRead E) (st : Style) (table : List Symbol) (t : RawTree) (u : List Symbol) → IfOk r (λ f. IsWhole (formula_reading st table t) f u)
    → IfOk r (λ f. (g : Fol) → IsMeaning st u t g → f.least ≡ None)
whole_unmet (Ok f) st table t u h = λ g m. h.least ∙ reading_unmet st table t g (subst (λ (v : List Symbol). IsMeaning st v t g) h.symbols m)
whole_unmet (Err e) st table t u h = tt
