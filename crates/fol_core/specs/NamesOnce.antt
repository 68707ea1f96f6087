-- Lists of names with no name twice.
use Rattle.std.specs.Prelude.{ℕ, ◌≡◌, Bool, true, not, ◌&&◌, if◌then◌else◌, List, [], ◌∷◌, ◌++◌, map, Option, position}
use Rattle.std.specs.List.{list_any, AllByRecursion}
use Rattle.std.specs.Str.{bytes_eq}
use Rattle.fol_core.specs.SymbolTable.{Symbol}

-- the names that a program keeps as constants
abbrev pub constant_names : List Symbol → List (List ℕ)
constant_names constants = map (λ s. s.name) constants

-- each symbol is a constant
abbrev pub AreConstants : List Symbol → Type 0
AreConstants constants = AllByRecursion (λ s. s.arity ≡ 0) constants

-- whether a name is one of a list
abbrev pub is_in : List ℕ → List (List ℕ) → Bool
is_in name names = list_any (λ n. bytes_eq name n) names

-- whether no name stands twice
abbrev pub are_apart : List (List ℕ) → Bool
are_apart [] = true
are_apart (n ∷ ns) = not (is_in n ns) && are_apart ns

-- the list with a name at its end, unless it is one of them
abbrev pub with_name : List ℕ → List (List ℕ) → List (List ℕ)
with_name name names = if is_in name names then names else names ++ name ∷ []

-- the place of a name, counted from 0
abbrev pub place_in : List ℕ → List (List ℕ) → Option ℕ
place_in name names = position (λ n. bytes_eq name n) names
