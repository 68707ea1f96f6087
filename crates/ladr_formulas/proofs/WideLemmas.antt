-- A symbol of a formula has too many arguments where a name of its term has.
use Rattle.std.proofs.Common.{◌≡◌, ◌∙◌, ℕ, suc, Bool, true, false, List, [], ◌∷◌, ◌++◌, Option, Some, None, refl, ap}
use Rattle.std.specs.Prelude.{◌||◌, if◌then◌else◌, nat_lt, codes}
use Rattle.std.specs.Str.{bytes_eq}
use Rattle.std.proofs.lemmas.List.Folds.{list_any-append}
use Rattle.fol_core.specs.RawTree.{RawTree, named, quantified, RawTrees, no_raws, more_raws}
use Rattle.fol_core.specs.SymbolTable.{Symbol, symbol}
use Rattle.fol_core.specs.declared.symbols.Kind.TheVariants.{Function, Relation}
use Rattle.ladr_lex.specs.declared.limits.TheConstants.{MOST_ARGUMENTS}
use Rattle.ladr_formulas.specs.Counting.{is_wide, are_wide}
use Rattle.ladr_formulas.specs.Formulas.{Style, arity_of, is_element, is_denial, connective_of, formula_reading}
use Rattle.ladr_formulas.specs.Occurring.{stands_for_variable, symbols_of_term, symbols_of_terms, symbols_of_relation, symbols_compared, in_order, occurring, has_many_arguments}
use Rattle.ladr_formulas.specs.declared.connectives.Connective.{Connective}
use Rattle.ladr_formulas.specs.declared.connectives.Connective.TheVariants.{And, Or, IfThen, ThenIf, IfAndOnlyIf}
use Rattle.ladr_formulas.proofs.OrderLemmas.{read_large}

many_in_both : (xs ys : List Symbol) → has_many_arguments (xs ++ ys) ≡ (has_many_arguments xs || has_many_arguments ys)
many_in_both xs ys = list_any-append (λ s. nat_lt MOST_ARGUMENTS s.arity) xs ys

or_false : (b : Bool) → b ≡ (b || false)
or_false true = refl
or_false false = refl

either_way : (a b : Bool) → (b || a) ≡ (a || (b || false))
either_way true true = refl
either_way true false = refl
either_way false true = refl
either_way false false = refl

mutual
  term_wide : (st : Style) (bound : List (List ℕ)) (t : RawTree) → has_many_arguments (symbols_of_term st bound t) ≡ is_wide t
  term_wide st bound (quantified q x t) = term_wide st (x ∷ bound) t
  term_wide st bound (named name no_raws) = by (stands_for_variable st bound name || is_element st name)
    where
      by : (c : Bool) → has_many_arguments (if c then [] else symbol name 0 Function ∷ []) ≡ false
      by true = refl
      by false = refl
  term_wide st bound (named name (more_raws t ts)) = ap (λ (b : Bool). nat_lt MOST_ARGUMENTS (suc (arity_of ts)) || b) (terms_wide st bound (more_raws t ts))

  terms_wide : (st : Style) (bound : List (List ℕ)) (ts : RawTrees) → has_many_arguments (symbols_of_terms st bound ts) ≡ are_wide ts
  terms_wide st bound no_raws = refl
  terms_wide st bound (more_raws t ts) =
      many_in_both (symbols_of_term st bound t) (symbols_of_terms st bound ts) ∙ (λ i. term_wide st bound t i || terms_wide st bound ts i)

relation_wide : (st : Style) (bound : List (List ℕ)) (name : List ℕ) (ts : RawTrees) → has_many_arguments (symbols_of_relation st bound name ts) ≡ is_wide (named name ts)
relation_wide st bound name ts = ap (λ (b : Bool). nat_lt MOST_ARGUMENTS (arity_of ts) || b) (terms_wide st bound ts)

compared_wide : (st : Style) (bound : List (List ℕ)) (name : List ℕ) (t u : RawTree) → has_many_arguments (symbols_compared st bound name t u) ≡ (is_wide t || (is_wide u || false))
compared_wide st bound name t u = by (bytes_eq name (codes "=") || bytes_eq name (codes "!="))
  where
    by : (c : Bool) → has_many_arguments (if c then symbols_of_term st bound t ++ symbols_of_term st bound u else symbols_of_relation st bound name (more_raws t (more_raws u no_raws))) ≡ (is_wide t || (is_wide u || false))
    by true = many_in_both (symbols_of_term st bound t) (symbols_of_term st bound u) ∙ (λ i. term_wide st bound t i || (term_wide st bound u ∙ or_false (is_wide u)) i)
    by false = relation_wide st bound name (more_raws t (more_raws u no_raws))

pub formula_wide : (st : Style) (bound : List (List ℕ)) (t : RawTree) → has_many_arguments (occurring st bound t) ≡ is_wide t
formula_wide st bound (quantified q x t) = formula_wide st (x ∷ bound) t
formula_wide st bound (named name no_raws) = by (stands_for_variable st bound name || bytes_eq name (codes "$T") || bytes_eq name (codes "$F"))
  where
    by : (c : Bool) → has_many_arguments (if c then [] else symbol name 0 Relation ∷ []) ≡ false
    by true = refl
    by false = refl
formula_wide st bound (named name (more_raws t no_raws)) = by (is_denial name) (formula_wide st bound t)
  where
    by : (c : Bool) → has_many_arguments (occurring st bound t) ≡ is_wide t
        → has_many_arguments (if c then occurring st bound t else symbols_of_relation st bound name (more_raws t no_raws)) ≡ (is_wide t || false)
    by true part = part ∙ or_false (is_wide t)
    by false part = relation_wide st bound name (more_raws t no_raws)
formula_wide st bound (named name (more_raws t (more_raws u no_raws))) = by (connective_of name) (formula_wide st bound t) (formula_wide st bound u)
  where
    first : List Symbol
    first = occurring st bound t

    second : List Symbol
    second = occurring st bound u

    in_turn : has_many_arguments first ≡ is_wide t → has_many_arguments second ≡ is_wide u → has_many_arguments (first ++ second) ≡ (is_wide t || (is_wide u || false))
    in_turn a b = many_in_both first second ∙ (λ i. a i || (b ∙ or_false (is_wide u)) i)

    by : (o : Option Connective) → has_many_arguments first ≡ is_wide t → has_many_arguments second ≡ is_wide u
        → has_many_arguments (in_order o first second (symbols_compared st bound name t u)) ≡ (is_wide t || (is_wide u || false))
    by None a b = compared_wide st bound name t u
    by (Some ThenIf) a b = many_in_both second first ∙ (λ i. b i || a i) ∙ either_way (is_wide t) (is_wide u)
    by (Some And) a b = in_turn a b
    by (Some Or) a b = in_turn a b
    by (Some IfThen) a b = in_turn a b
    by (Some IfAndOnlyIf) a b = in_turn a b
formula_wide st bound (named name (more_raws t (more_raws u (more_raws v ts)))) = relation_wide st bound name (more_raws t (more_raws u (more_raws v ts)))

-- an arity is too large in the reading of a formula just where its term is wide
pub large_is_wide : (st : Style) (table : List Symbol) (t : RawTree) → (formula_reading st table t).reading.large ≡ is_wide t
large_is_wide st table t = read_large st table t ∙ formula_wide st [] t
