-- What has been read stays as more is read.
use Rattle.std.proofs.Common.{◌≡◌, ℕ, suc, Bool, true, false, List, [], ◌∷◌, length, Option, Some, None, inl, inr}
use Rattle.std.specs.Prelude.{◌||◌, is_some, slice_get, codes}
use Rattle.std.specs.Str.{bytes_eq}
use Rattle.std.proofs.lemmas.Bool.{cases_Bool, cond_both}
use Rattle.fol_core.specs.Fol.{Fol, conjunction, disjunction, implication, equivalence}
use Rattle.fol_core.specs.RawTree.{RawTree, named, quantified, RawTrees, no_raws, more_raws}
use Rattle.fol_core.specs.SymbolTable.{Symbol, number_of, entered, is_clash, KeepsNumbers}
use Rattle.fol_core.specs.Tree.{Tree}
use Rattle.fol_core.specs.declared.symbols.Kind.{Kind}
use Rattle.fol_core.specs.declared.symbols.Kind.TheVariants.{Function, Relation}
use Rattle.fol_core.proofs.Places.{slice_get_more}
use Rattle.ladr_lex.specs.declared.misuse.Misuse.{Misuse}
use Rattle.ladr_lex.specs.declared.misuse.Misuse.TheVariants.{TwoKinds, VariableAsFormula, QuantifierInTerm, UnfitAttribute, UnfitNumeral}
use Rattle.ladr_formulas.specs.Formulas.{Variable, Reading, Made, Bound, meets, bound_number, free_number, is_variable, with_variable, reading_with_name, named_variable, with_symbol, arity_of, is_too_great, is_element, constant_as, constant, term_of, terms_of, relation_of, sentence_as, equation_read, is_denial, connective_of, connective_read, by_connective, comparison, formula_in}
use Rattle.ladr_formulas.specs.declared.connectives.Connective.{Connective}
use Rattle.ladr_formulas.specs.declared.connectives.Connective.TheVariants.{And, Or, IfThen, ThenIf, IfAndOnlyIf}
use Rattle.ladr_formulas.specs.declared.styles.Style.{Style}

-- what was read before stays: symbols keep their numbers and variables theirs, and no misuse is forgotten
pub record Grows (a b : Reading) : Type 0 where
  pub sound : b.least ≡ None → a.least ≡ None
  pub symbols : KeepsNumbers a.symbols b.symbols
  pub variables : (n : ℕ) (x : Variable) → slice_get a.variables n ≡ Some x → slice_get b.variables n ≡ Some x

pub same : (a : Reading) → Grows a a
same a = record { sound = λ e. e; symbols = λ n s e. e; variables = λ n x e. e }

pub beyond : (a b c : Reading) → Grows a b → Grows b c → Grows a c
beyond a b c h k = record { sound = λ e. h.sound (k.sound e); symbols = λ n s e. k.symbols n s (h.symbols n s e); variables = λ n x e. k.variables n x (h.variables n x e) }

pub grows_meets : (test : Bool) (row : Misuse) (s : Reading) → Grows s (meets test row s)
grows_meets true row s = record { sound = λ e. absurd (cc); symbols = λ n x e. e; variables = λ n x e. e }
grows_meets false row s = same s

entered_keeps : (table : List Symbol) (x : Symbol) → KeepsNumbers table (entered table x)
entered_keeps table x n s e =
    elim (cases_Bool (is_some (number_of table x.name x.arity))) [
      | inl y ↦ rw y e
      | inr k ↦ rw k (slice_get_more table (x ∷ []) n s e)
    ]

pub grows_symbol : (name : List ℕ) (arity : ℕ) (kind : Kind) (s : Reading) → Grows s (with_symbol name arity kind s)
grows_symbol name arity kind s =
    let x : Symbol = record { name = name; arity = arity; kind = kind } in
    let one = grows_meets (is_clash s.symbols x) TwoKinds s in
    let met = grows_meets (bytes_eq name (codes "#")) UnfitAttribute (meets (is_clash s.symbols x) TwoKinds s) in
    record {
      sound = λ e. one.sound (met.sound e);
      symbols = λ n y e. entered_keeps s.symbols x n y e;
      variables = λ n y e. met.variables n y (one.variables n y e);
    }

pub grows_variable : (name : List ℕ) (free : Bool) (s : Reading) → Grows s (with_variable name free s)
grows_variable name free s = record { sound = λ e. e; symbols = λ n x e. e; variables = λ n x e. slice_get_more s.variables _ n x e }

pub grows_name : (scope : List Bound) (name : List ℕ) (s : Reading) → Grows s (reading_with_name scope name s)
grows_name scope name s =
    elim (cases_Bool (is_some (bound_number scope name) || is_some (free_number 0 s.variables name))) [
      | inl y ↦ rw y (same s)
      | inr k ↦ rw k (grows_variable name true s)
    ]

-- so does all that is read further
pub grows_named : (st : Style) (scope : List Bound) (name : List ℕ) (s : Reading) → Grows s (named_variable st scope name s).reading
unfolding named_variable
grows_named st scope name s =
    elim (cases_Bool (is_variable st scope name)) [
      | inl y ↦ rw y (grows_name scope name s)
      | inr k ↦ rw k (same s)
    ]

pub grows_constant_as : (st : Style) (name : List ℕ) (o : Option ℕ) (s : Reading) → Grows s (constant_as st name o s).reading
grows_constant_as st name (Some n) s = same s
grows_constant_as st name None s =
    cond_both (is_element st name) _ _ (λ (m : Made Tree). Grows s m.reading) (λ e. grows_meets (is_too_great st name) UnfitNumeral s) (λ e. grows_symbol name 0 Function s)

pub grows_constant : (st : Style) (scope : List Bound) (name : List ℕ) (s : Reading) → Grows s (constant st scope name s).reading
grows_constant st scope name s =
    let v = named_variable st scope name s in
    beyond s v.reading (constant_as st name v.tree v.reading).reading (grows_named st scope name s) (grows_constant_as st name v.tree v.reading)

mutual
  pub grows_term : (st : Style) (scope : List Bound) (s : Reading) (t : RawTree) → Grows s (term_of st scope s t).reading
  grows_term st scope s (quantified q x t) =
      let met = meets true QuantifierInTerm s in
      let inner = with_variable x false met in
      beyond s met _ (grows_meets true QuantifierInTerm s) (beyond met inner _ (grows_variable x false met) (grows_term st _ inner t))
  grows_term st scope s (named name no_raws) = grows_constant st scope name s
  grows_term st scope s (named name (more_raws t ts)) =
      let met = meets (is_too_great st name) UnfitNumeral s in
      let after = with_symbol name (suc (arity_of ts)) Function met in
      beyond s met _ (grows_meets (is_too_great st name) UnfitNumeral s) (beyond met after _ (grows_symbol name (suc (arity_of ts)) Function met) (grows_terms st scope after (more_raws t ts)))

  pub grows_terms : (st : Style) (scope : List Bound) (s : Reading) (ts : RawTrees) → Grows s (terms_of st scope s ts).reading
  grows_terms st scope s no_raws = same s
  grows_terms st scope s (more_raws t ts) =
      let first = term_of st scope s t in
      beyond s first.reading _ (grows_term st scope s t) (grows_terms st scope first.reading ts)

pub grows_relation : (st : Style) (scope : List Bound) (name : List ℕ) (ts : RawTrees) (s : Reading) → Grows s (relation_of st scope name ts s).reading
grows_relation st scope name ts s =
    let met = meets (is_element st name) UnfitNumeral s in
    let after = with_symbol name (arity_of ts) Relation met in
    beyond s met _ (grows_meets (is_element st name) UnfitNumeral s) (beyond met after _ (grows_symbol name (arity_of ts) Relation met) (grows_terms st scope after ts))

pub grows_equation : (st : Style) (scope : List Bound) (t u : RawTree) (s : Reading) → Grows s (equation_read st scope t u s).reading
grows_equation st scope t u s =
    let left = term_of st scope s t in
    beyond s left.reading _ (grows_term st scope s t) (grows_term st scope left.reading u)

pub grows_sentence_as : (st : Style) (scope : List Bound) (name : List ℕ) (o : Option ℕ) (s : Reading) → Grows s (sentence_as st scope name o s).reading
grows_sentence_as st scope name (Some n) s = grows_meets true VariableAsFormula s
grows_sentence_as st scope name None s =
    elim (cases_Bool (bytes_eq name (codes "$T"))) [
      | inl y ↦ rw y (same s)
      | inr k ↦ rw k (elim (cases_Bool (bytes_eq name (codes "$F"))) [
        | inl y ↦ rw y (same s)
        | inr j ↦ rw j (grows_relation st scope name no_raws s)
      ])
    ]

pub grows_comparison : (st : Style) (scope : List Bound) (name : List ℕ) (t u : RawTree) (s : Reading) → Grows s (comparison st scope name t u s).reading
grows_comparison st scope name t u s =
    elim (cases_Bool (bytes_eq name (codes "="))) [
      | inl y ↦ rw y (grows_equation st scope t u s)
      | inr k ↦ rw k (elim (cases_Bool (bytes_eq name (codes "!="))) [
        | inl y ↦ rw y (grows_equation st scope t u s)
        | inr j ↦ rw j (grows_relation st scope name (more_raws t (more_raws u no_raws)) s)
      ])
    ]

pub grows_joined : (join : Fol → Fol → Fol) (f g : Reading → Made Fol) → ((s : Reading) → Grows s (f s).reading) → ((s : Reading) → Grows s (g s).reading) →
    (s : Reading) → Grows s (connective_read join f g s).reading
grows_joined join f g h k s = beyond s (f s).reading _ (h s) (k (f s).reading)

pub grows_connective : (o : Option Connective) (f g c : Reading → Made Fol) → ((s : Reading) → Grows s (f s).reading) → ((s : Reading) → Grows s (g s).reading) →
    ((s : Reading) → Grows s (c s).reading) → (s : Reading) → Grows s (by_connective o f g c s).reading
grows_connective None f g c h k l s = l s
grows_connective (Some And) f g c h k l s = grows_joined conjunction f g h k s
grows_connective (Some Or) f g c h k l s = grows_joined disjunction f g h k s
grows_connective (Some IfThen) f g c h k l s = grows_joined implication f g h k s
grows_connective (Some ThenIf) f g c h k l s = grows_joined implication g f k h s
grows_connective (Some IfAndOnlyIf) f g c h k l s = grows_joined equivalence f g h k s

pub grows_formula : (st : Style) (scope : List Bound) (t : RawTree) (s : Reading) → Grows s (formula_in st scope s t).reading
grows_formula st scope (quantified q x t) s = beyond s (with_variable x false s) _ (grows_variable x false s) (grows_formula st (record { name = x; number = length s.variables } ∷ scope) t (with_variable x false s))
grows_formula st scope (named name no_raws) s =
    let v = named_variable st scope name s in
    beyond s v.reading _ (grows_named st scope name s) (grows_sentence_as st scope name v.tree v.reading)
grows_formula st scope (named name (more_raws t no_raws)) s =
    elim (cases_Bool (is_denial name)) [
      | inl y ↦ rw y (grows_formula st scope t s)
      | inr k ↦ rw k (grows_relation st scope name (more_raws t no_raws) s)
    ]
grows_formula st scope (named name (more_raws t (more_raws u no_raws))) s =
    grows_connective (connective_of name) (λ r. formula_in st scope r t) (λ r. formula_in st scope r u) (comparison st scope name t u)
    (grows_formula st scope t) (grows_formula st scope u) (grows_comparison st scope name t u) s
grows_formula st scope (named name (more_raws t (more_raws u (more_raws w ts)))) s = grows_relation st scope name (more_raws t (more_raws u (more_raws w ts))) s
