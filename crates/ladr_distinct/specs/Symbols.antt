-- The symbols that names have as terms.
use Rattle.std.specs.Prelude.{ℕ, ◌||◌, List, [], ◌∷◌, ◌++◌, if◌then◌else◌}
use Rattle.fol_core.specs.SymbolTable.{Symbol, symbol}
use Rattle.fol_core.specs.declared.symbols.Kind.TheVariants.{Function}
use Rattle.ladr_formulas.specs.Formulas.{is_free_name, is_element}
use Rattle.ladr_formulas.specs.declared.styles.Style.{Style}

-- a name is a constant, unless it is a variable or an element
abbrev pub symbols_of_name : Style → List ℕ → List Symbol
symbols_of_name st name =
    if is_free_name st name || is_element st name then [] else symbol name 0 Function ∷ []

abbrev pub symbols_of_names : Style → List (List ℕ) → List Symbol
symbols_of_names st [] = []
symbols_of_names st (s ∷ ss) = symbols_of_name st s ++ symbols_of_names st ss
