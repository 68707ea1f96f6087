-- A formula that is read has no more variables than its term has names.
use Rattle.std.proofs.Common.{◌≡◌, ℕ, suc, ◌+◌, ◌≤◌, ◌||◌, Bool, true, false, List, [], ◌∷◌, length, Option, Some, None, refl, ap, ◌∙◌, arith}
use Rattle.std.specs.Prelude.{is_some, codes}
use Rattle.std.specs.Str.{bytes_eq}
use Rattle.std.proofs.lemmas.Bool.{cond_both}
use Rattle.std.proofs.lemmas.List.{length-append}
use Rattle.fol_core.specs.Fol.{Fol, negation}
use Rattle.fol_core.specs.RawTree.{RawTree, named, quantified, RawTrees, no_raws, more_raws}
use Rattle.fol_core.specs.SymbolTable.{is_clash, symbol}
use Rattle.fol_core.specs.Tree.{Tree}
use Rattle.fol_core.specs.declared.symbols.Kind.{Kind}
use Rattle.fol_core.specs.declared.symbols.Kind.TheVariants.{Function, Relation}
use Rattle.ladr_formulas.specs.Formulas.{Reading, Made, Bound, meets, bound_number, free_number, is_variable, with_variable, reading_with_name, named_variable, with_symbol, arity_of, is_element, is_too_great, constant_as, term_of, terms_of, relation_of, sentence_as, equation_read, under, is_denial, connective_of, connective_read, joined_by, by_connective, comparison, formula_in}
use Rattle.ladr_formulas.specs.declared.connectives.Connective.{Connective}
use Rattle.ladr_formulas.specs.declared.connectives.Connective.TheVariants.{And, Or, IfThen, ThenIf, IfAndOnlyIf}
use Rattle.ladr_formulas.specs.declared.styles.Style.{Style}
use Rattle.ladr_lex.specs.declared.misuse.Misuse.{Misuse}
use Rattle.ladr_lex.specs.declared.misuse.Misuse.TheVariants.{TwoKinds, QuantifierInTerm, UnfitAttribute, UnfitNumeral}
use Rattle.ladr_reader.specs.Counts.{names_count, names_count_of}

-- at most so many variables come
abbrev Brings : ℕ → Reading → Reading → Type 0
Brings n s u = length u.variables ≤ length s.variables + n

meets_same : (test : Bool) (row : Misuse) (s : Reading) → (meets test row s).variables ≡ s.variables
meets_same true row s = refl
meets_same false row s = refl

symbol_same : (name : List ℕ) (arity : ℕ) (kind : Kind) (s : Reading) → (with_symbol name arity kind s).variables ≡ s.variables
symbol_same name arity kind s =
    meets_same (bytes_eq name (codes "#")) UnfitAttribute (meets (is_clash s.symbols (symbol name arity kind)) TwoKinds s) ∙ meets_same (is_clash s.symbols (symbol name arity kind)) TwoKinds s

one_more : (name : List ℕ) (free : Bool) (s : Reading) → Brings 1 s (with_variable name free s)
one_more name free s = omega (arith, length-append s.variables (record { name = name; free = free } ∷ []))

name_brings : (scope : List Bound) (name : List ℕ) (s : Reading) → Brings 1 s (reading_with_name scope name s)
name_brings scope name s = cond_both (is_some (bound_number scope name) || is_some (free_number 0 s.variables name)) _ _ (λ (u : Reading). Brings 1 s u) (λ e. omega arith) (λ e. one_more name true s)

named_brings : (st : Style) (scope : List Bound) (name : List ℕ) (s : Reading) → Brings 1 s (named_variable st scope name s).reading
unfolding named_variable
named_brings st scope name s = cond_both (is_variable st scope name) _ _ (λ (m : Made (Option ℕ)). Brings 1 s m.reading) (λ e. name_brings scope name s) (λ e. omega arith)

constant_same : (st : Style) (name : List ℕ) (o : Option ℕ) (s : Reading) → (constant_as st name o s).reading.variables ≡ s.variables
constant_same st name (Some n) s = refl
constant_same st name None s = cond_both (is_element st name) _ _ (λ (m : Made Tree). m.reading.variables ≡ s.variables) (λ e. meets_same (is_too_great st name) UnfitNumeral s) (λ e. symbol_same name 0 Function s)

mutual
  term_brings : (st : Style) (scope : List Bound) (s : Reading) (t : RawTree) → Brings (names_count t) s (term_of st scope s t).reading
  term_brings st scope s (quantified q x t) =
      let met = meets true QuantifierInTerm s in
      omega (arith, one_more x false met, term_brings st (record { name = x; number = length s.variables } ∷ scope) (with_variable x false met) t)
  term_brings st scope s (named name no_raws) =
      let v = named_variable st scope name s in
      omega (arith, named_brings st scope name s, ap length (constant_same st name v.tree v.reading))
  term_brings st scope s (named name (more_raws t ts)) =
      let met = meets (is_too_great st name) UnfitNumeral s in
      let after = with_symbol name (suc (arity_of ts)) Function met in
      omega (arith, terms_bring st scope after (more_raws t ts), ap length (symbol_same name (suc (arity_of ts)) Function met), ap length (meets_same (is_too_great st name) UnfitNumeral s))

  terms_bring : (st : Style) (scope : List Bound) (s : Reading) (ts : RawTrees) → Brings (names_count_of ts) s (terms_of st scope s ts).reading
  terms_bring st scope s no_raws = omega arith
  terms_bring st scope s (more_raws t ts) = omega (arith, term_brings st scope s t, terms_bring st scope (term_of st scope s t).reading ts)

relation_brings : (st : Style) (scope : List Bound) (name : List ℕ) (ts : RawTrees) (s : Reading) → Brings (names_count_of ts) s (relation_of st scope name ts s).reading
relation_brings st scope name ts s =
    let met = meets (is_element st name) UnfitNumeral s in
    omega (arith, terms_bring st scope (with_symbol name (arity_of ts) Relation met) ts, ap length (symbol_same name (arity_of ts) Relation met), ap length (meets_same (is_element st name) UnfitNumeral s))

-- formulas
abbrev Within : ℕ → Reading → Made Fol → Type 0
Within n s m = Brings n s m.reading

sentence_brings : (st : Style) (scope : List Bound) (name : List ℕ) (o : Option ℕ) (s : Reading) → Within 0 s (sentence_as st scope name o s)
sentence_brings st scope name (Some n) s = omega arith
sentence_brings st scope name None s =
    cond_both (bytes_eq name (codes "$T")) _ _ (Within 0 s) (λ e. omega arith)
    (λ j. cond_both (bytes_eq name (codes "$F")) _ _ (Within 0 s) (λ e. omega arith) (λ k. relation_brings st scope name no_raws s))

equation_brings : (st : Style) (scope : List Bound) (t u : RawTree) (s : Reading) → Within (names_count t + names_count u) s (equation_read st scope t u s)
equation_brings st scope t u s = omega (arith, term_brings st scope s t, term_brings st scope (term_of st scope s t).reading u)

comparison_brings : (st : Style) (scope : List Bound) (name : List ℕ) (t u : RawTree) (s : Reading) → Within (names_count t + names_count u) s (comparison st scope name t u s)
comparison_brings st scope name t u s =
    cond_both (bytes_eq name (codes "=")) _ _ (Within (names_count t + names_count u) s) (λ e. equation_brings st scope t u s)
    (λ j. cond_both (bytes_eq name (codes "!=")) _ _ (Within (names_count t + names_count u) s) (λ e. equation_brings st scope t u s)
    (λ k. omega (arith, relation_brings st scope name (more_raws t (more_raws u no_raws)) s)))

joined_brings : (join : Fol → Fol → Fol) (p q : Reading → Made Fol) (n m : ℕ) → ((s : Reading) → Within n s (p s)) → ((s : Reading) → Within m s (q s)) → (s : Reading) → Within (n + m) s (connective_read join p q s)
joined_brings join p q n m h k s = omega (arith, h s, k (p s).reading)

connective_brings : (o : Option Connective) (p q c : Reading → Made Fol) (n m : ℕ) → ((s : Reading) → Within n s (p s)) → ((s : Reading) → Within m s (q s)) → ((s : Reading) → Within (n + m) s (c s))
    → (s : Reading) → Within (n + m) s (by_connective o p q c s)
connective_brings None p q c n m h k l s = l s
connective_brings (Some And) p q c n m h k l s = joined_brings (joined_by And) p q n m h k s
connective_brings (Some Or) p q c n m h k l s = joined_brings (joined_by Or) p q n m h k s
connective_brings (Some IfThen) p q c n m h k l s = joined_brings (joined_by IfThen) p q n m h k s
connective_brings (Some ThenIf) p q c n m h k l s = omega (arith, joined_brings (joined_by ThenIf) q p m n k h s)
connective_brings (Some IfAndOnlyIf) p q c n m h k l s = joined_brings (joined_by IfAndOnlyIf) p q n m h k s

pub formula_brings : (st : Style) (scope : List Bound) (s : Reading) (t : RawTree) → Within (names_count t) s (formula_in st scope s t)
formula_brings st scope s (quantified q x t) = omega (arith, one_more x false s, formula_brings st (record { name = x; number = length s.variables } ∷ scope) (with_variable x false s) t)
formula_brings st scope s (named name no_raws) =
    let v = named_variable st scope name s in
    omega (arith, named_brings st scope name s, sentence_brings st scope name v.tree v.reading)
formula_brings st scope s (named name (more_raws t no_raws)) =
    cond_both (is_denial name) (under negation (formula_in st scope s t)) (relation_of st scope name (more_raws t no_raws) s) (Within (suc (names_count t + 0)) s)
    (λ e. omega (arith, formula_brings st scope s t)) (λ e. omega (arith, relation_brings st scope name (more_raws t no_raws) s))
formula_brings st scope s (named name (more_raws t (more_raws u no_raws))) =
    let all = connective_brings (connective_of name) (λ r. formula_in st scope r t) (λ r. formula_in st scope r u) (comparison st scope name t u) (names_count t) (names_count u)
    (λ r. formula_brings st scope r t) (λ r. formula_brings st scope r u) (λ r. comparison_brings st scope name t u r) s in
    omega (arith, all)
formula_brings st scope s (named name (more_raws t (more_raws u (more_raws w ts)))) = omega (arith, relation_brings st scope name (more_raws t (more_raws u (more_raws w ts))) s)
