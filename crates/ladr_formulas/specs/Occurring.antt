-- The symbols of a term as read, in their order.
use Rattle.std.specs.Prelude.{ℕ, suc, Bool, not, ◌||◌, List, [], ◌∷◌, ◌++◌, Option, Some, None, is_none, if◌then◌else◌, filter, nat_lt, codes}
use Rattle.std.specs.List.{list_any}
use Rattle.std.specs.Str.{bytes_eq}
use Rattle.fol_core.specs.RawTree.{RawTree, named, quantified, RawTrees, no_raws, more_raws}
use Rattle.fol_core.specs.SymbolTable.{Symbol, symbol, is_called, number_of}
use Rattle.fol_core.specs.declared.symbols.Kind.TheVariants.{Function, Relation}
use Rattle.ladr_lex.specs.declared.limits.TheConstants.{MOST_ARGUMENTS}
use Rattle.ladr_formulas.specs.Formulas.{Style, is_free_name, is_element, arity_of, is_denial, connective_of}
use Rattle.ladr_formulas.specs.declared.connectives.Connective.{Connective}
use Rattle.ladr_formulas.specs.declared.connectives.Connective.TheVariants.{ThenIf}

-- whether a name without arguments is a variable where quantifiers bind these names
abbrev pub stands_for_variable : Style → List (List ℕ) → List ℕ → Bool
stands_for_variable st bound name = list_any (λ b. bytes_eq b name) bound || is_free_name st name

abbrev mutual
  -- the symbols of a term below a relation, from left to right, each before those of its arguments
  pub symbols_of_term : Style → List (List ℕ) → RawTree → List Symbol
  symbols_of_term st bound (quantified q x t) = symbols_of_term st (x ∷ bound) t
  symbols_of_term st bound (named name no_raws) =
      if stands_for_variable st bound name || is_element st name then []
      else symbol name 0 Function ∷ []
  symbols_of_term st bound (named name (more_raws t ts)) =
      symbol name (suc (arity_of ts)) Function ∷
      (symbols_of_term st bound t ++ symbols_of_terms st bound ts)

  pub symbols_of_terms : Style → List (List ℕ) → RawTrees → List Symbol
  symbols_of_terms st bound no_raws = []
  symbols_of_terms st bound (more_raws t ts) =
      symbols_of_term st bound t ++ symbols_of_terms st bound ts

-- of a relation with its arguments
abbrev pub symbols_of_relation : Style → List (List ℕ) → List ℕ → RawTrees → List Symbol
symbols_of_relation st bound name ts =
    symbol name (arity_of ts) Relation ∷ symbols_of_terms st bound ts

-- of a formula without arguments: neither a variable nor `$T` nor `$F` is a symbol
abbrev pub symbols_of_sentence : Style → List (List ℕ) → List ℕ → List Symbol
symbols_of_sentence st bound name =
    if stands_for_variable st bound name || bytes_eq name (codes "$T") || bytes_eq name (codes "$F")
    then [] else symbol name 0 Relation ∷ []

-- of two terms in an equation or its denial, or in a relation
abbrev pub symbols_compared : Style → List (List ℕ) → List ℕ → RawTree → RawTree → List Symbol
symbols_compared st bound name t u =
    if bytes_eq name (codes "=") || bytes_eq name (codes "!=")
    then symbols_of_term st bound t ++ symbols_of_term st bound u
    else symbols_of_relation st bound name (more_raws t (more_raws u no_raws))

-- What the two formulas of a connective have, in the order in which they are read: in `a <- b`
-- b comes first. Without a connective it is what others have.
abbrev pub in_order : {X : Type 0} → Option Connective → List X → List X → List X → List X
in_order None first second others = others
in_order (Some ThenIf) first second others = second ++ first
in_order (Some c) first second others = first ++ second

-- The symbols of a formula as read, where quantifiers around bind these names: each with its
-- arity and kind, from left to right, and before those of its arguments.
abbrev pub occurring : Style → List (List ℕ) → RawTree → List Symbol
occurring st bound (quantified q x t) = occurring st (x ∷ bound) t
occurring st bound (named name no_raws) = symbols_of_sentence st bound name
occurring st bound (named name (more_raws t no_raws)) =
    if is_denial name then occurring st bound t
    else symbols_of_relation st bound name (more_raws t no_raws)
occurring st bound (named name (more_raws t (more_raws u no_raws))) =
    in_order (connective_of name) (occurring st bound t) (occurring st bound u)
    (symbols_compared st bound name t u)
occurring st bound (named name ts) = symbols_of_relation st bound name ts

-- the first symbol of each name and arity
abbrev pub first_of_each : List Symbol → List Symbol
first_of_each [] = []
first_of_each (s ∷ ss) = s ∷ filter (λ t. not (is_called s.name s.arity t)) (first_of_each ss)

-- of these symbols, the first of each name and arity that doesn't stand in a table
abbrev pub new_symbols : List Symbol → List Symbol → List Symbol
new_symbols table ss = filter (λ s. is_none (number_of table s.name s.arity)) (first_of_each ss)

-- whether one of these symbols has more arguments than a symbol may have
abbrev pub has_many_arguments : List Symbol → Bool
has_many_arguments ss = list_any (λ s. nat_lt MOST_ARGUMENTS s.arity) ss
