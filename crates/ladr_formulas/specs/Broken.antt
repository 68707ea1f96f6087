-- The rows of misuse that a term as read breaks as a formula, and the least of them.
use Rattle.std.specs.Prelude.{Bool, not, ◌&&◌, ◌||◌, ℕ, List, [], ◌∷◌, ◌++◌, Option, Some, None, if◌then◌else◌, codes}
use Rattle.std.specs.List.{list_any}
use Rattle.std.specs.Str.{bytes_eq}
use Rattle.fol_core.specs.RawTree.{RawTree, named, quantified, RawTrees, no_raws, more_raws}
use Rattle.fol_core.specs.SymbolTable.{Symbol, is_clash}
use Rattle.ladr_lex.specs.Misuses.{earlier}
use Rattle.ladr_lex.specs.declared.misuse.Misuse.{Misuse}
use Rattle.ladr_lex.specs.declared.misuse.Misuse.TheVariants.{TwoKinds, VariableAsFormula, QuantifierInTerm, UnfitAttribute, UnfitNumeral}
use Rattle.ladr_formulas.specs.Formulas.{Style, is_element, is_too_great, is_denial, connective_of}
use Rattle.ladr_formulas.specs.Occurring.{stands_for_variable, symbols_of_terms, in_order, occurring}

-- a row where a test says so
abbrev pub broken_if : Bool → Misuse → List Misuse
broken_if test row = if test then row ∷ [] else []

abbrev mutual
  -- Those that a term below a relation breaks, where quantifiers around bind these names: by a
  -- quantifier in it, or by a numeral that is too great for an element.
  pub broken_by_term : Style → List (List ℕ) → RawTree → List Misuse
  broken_by_term st bound (quantified q x t) = QuantifierInTerm ∷ broken_by_term st (x ∷ bound) t
  broken_by_term st bound (named name no_raws) =
      broken_if (not (stands_for_variable st bound name) && is_too_great st name) UnfitNumeral
  broken_by_term st bound (named name (more_raws t ts)) =
      broken_if (is_too_great st name) UnfitNumeral
      ++ (broken_by_term st bound t ++ broken_by_terms st bound ts)

  pub broken_by_terms : Style → List (List ℕ) → RawTrees → List Misuse
  broken_by_terms st bound no_raws = []
  broken_by_terms st bound (more_raws t ts) =
      broken_by_term st bound t ++ broken_by_terms st bound ts

-- by a relation with its arguments, whose name isn't an element's
abbrev pub broken_by_relation : Style → List (List ℕ) → List ℕ → RawTrees → List Misuse
broken_by_relation st bound name ts =
    broken_if (is_element st name) UnfitNumeral ++ broken_by_terms st bound ts

-- by a formula without arguments, which is no variable
abbrev pub broken_by_sentence : Style → List (List ℕ) → List ℕ → List Misuse
broken_by_sentence st bound name =
    if stands_for_variable st bound name then VariableAsFormula ∷ []
    else (if bytes_eq name (codes "$T") || bytes_eq name (codes "$F") then []
    else broken_if (is_element st name) UnfitNumeral)

-- by two terms in an equation or its denial, or in a relation
abbrev pub broken_by_compared : Style → List (List ℕ) → List ℕ → RawTree → RawTree → List Misuse
broken_by_compared st bound name t u =
    if bytes_eq name (codes "=") || bytes_eq name (codes "!=")
    then broken_by_term st bound t ++ broken_by_term st bound u
    else broken_by_relation st bound name (more_raws t (more_raws u no_raws))

-- by a formula, apart from its symbols
abbrev pub broken_by_formula : Style → List (List ℕ) → RawTree → List Misuse
broken_by_formula st bound (quantified q x t) = broken_by_formula st (x ∷ bound) t
broken_by_formula st bound (named name no_raws) = broken_by_sentence st bound name
broken_by_formula st bound (named name (more_raws t no_raws)) =
    if is_denial name then broken_by_formula st bound t
    else broken_by_relation st bound name (more_raws t no_raws)
broken_by_formula st bound (named name (more_raws t (more_raws u no_raws))) =
    in_order (connective_of name) (broken_by_formula st bound t) (broken_by_formula st bound u)
    (broken_by_compared st bound name t u)
broken_by_formula st bound (named name ts) = broken_by_relation st bound name ts

-- by symbols, where the table has these in the end: `#` is none, and none has two kinds
abbrev pub broken_by_symbols : List Symbol → List Symbol → List Misuse
broken_by_symbols table ss =
    broken_if (list_any (λ s. bytes_eq s.name (codes "#")) ss) UnfitAttribute
    ++ broken_if (list_any (λ s. is_clash table s) ss) TwoKinds

-- all that a term breaks as a formula
abbrev pub broken : Style → List Symbol → RawTree → List Misuse
broken st table t = broken_by_formula st [] t ++ broken_by_symbols table (occurring st [] t)

-- and that terms break which stand in no formula
abbrev pub broken_outside : Style → List Symbol → RawTrees → List Misuse
broken_outside st table ts =
    broken_by_terms st [] ts ++ broken_by_symbols table (symbols_of_terms st [] ts)

-- the misuse of the least row, if there is one
abbrev pub least_of : List Misuse → Option Misuse
least_of [] = None
least_of (m ∷ ms) = Some (earlier m (least_of ms))
