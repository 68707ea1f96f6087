-- What it means that names differ.
use Rattle.std.specs.Prelude.{◌≡◌, ◌↔◌, ℕ, ◌<◌, false, List, map, length, slice_index, None, unwrap_or, if◌then◌else◌}
use Rattle.std.specs.List.{list_any}
use Rattle.fol_core.specs.Meaning.{Meaning, IsLawful}
use Rattle.fol_core.specs.SymbolTable.{Symbol, number_of}
use Rattle.fol_core.specs.Tree.{Tree, elem, app, none}
use Rattle.fol_core.specs.Truth.{Assignment, Holds, value_of}
use Rattle.ladr_distinct.specs.Formula.{distinct_formula}
use Rattle.ladr_formulas.specs.Formulas.{Made, is_free_name, is_element, formula_reading}
use Rattle.ladr_formulas.specs.declared.styles.Style.{Style}
use Rattle.fol_core.specs.Fol.{Fol}
use Rattle.ladr_lex.specs.Numeral.{limited_number_of}

-- the term that a name stands for, which is no variable: an element, or the constant that a table
-- has for it
abbrev pub term_named : Style → List Symbol → List ℕ → Tree
term_named st table name =
    if is_element st name then elem (limited_number_of name)
    else app (unwrap_or (number_of table name 0) 0) none

-- at any two places the values differ
abbrev pub AreDifferent : List ℕ → Type 0
AreDifferent values =
    (i j : ℕ) → i < j → j < length values → ¬ slice_index values i ≡ slice_index values j

abbrev pub distinct_reading : Style → List Symbol → List (List ℕ) → Made Fol
distinct_reading st table names = formula_reading st table (distinct_formula names)

-- In every lawful interpretation and under every assignment the formula that is read for names, of
-- which none is a variable, holds exactly where their values differ pairwise.
abbrev pub DistinctMeansDifferent : Type 0
DistinctMeansDifferent =
    (M : Meaning) → IsLawful M → (e : Assignment) (st : Style) (table : List Symbol)
    (names : List (List ℕ)) → list_any (is_free_name st) names ≡ false →
    (distinct_reading st table names).reading.least ≡ None →
    Holds M e (distinct_reading st table names).tree
    ↔ AreDifferent
    (map (λ s. value_of M e (term_named st (distinct_reading st table names).reading.symbols s))
    names)
