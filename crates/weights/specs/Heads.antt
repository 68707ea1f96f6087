-- The rules of weights of a problem, by the numbers of its symbols.
use Rattle.std.specs.Prelude.{ℕ, Bool, ◌==◌, ◌&&◌, if◌then◌else◌, List, [], ◌∷◌, Option, Some, length, codes}
use Rattle.std.specs.Option.{option_map_or}
use Rattle.std.specs.Str.{bytes_eq}
use Rattle.fol_core.specs.Literals.{equality}
use Rattle.fol_core.specs.SymbolTable.{Symbol, number_of}
use Rattle.fol_core.specs.Tree.{list_of}
use Rattle.fol_core.specs.Weights.{Rule}
use Rattle.weights.specs.Weighing.{WeightRow}

-- how many arguments a pattern has
abbrev pub pattern_arity : Rule → ℕ
pattern_arity r = length (list_of r.arguments)

-- whether it is an equation: `=` with two sides
abbrev pub is_of_equality : Rule → Bool
is_of_equality r = bytes_eq r.head (codes "=") && pattern_arity r == 2

-- the symbol that it begins with: equality, or the one of its name and number of arguments
abbrev pub head_of : List Symbol → Rule → Option ℕ
head_of table r =
    if is_of_equality r then Some equality else number_of table r.head (pattern_arity r)

-- where there is no such symbol, nothing is an instance of the pattern
abbrev pub rows_for : List Symbol → List Rule → List WeightRow
rows_for table [] = []
rows_for table (r ∷ rs) =
    option_map_or
    (λ f. record { head = f; arguments = r.arguments; weight = r.weight } ∷ rows_for table rs)
    (head_of table r) (rows_for table rs)
