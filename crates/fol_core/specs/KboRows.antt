-- The weights of symbols by their names, each name once.
use Rattle.std.specs.Prelude.{ℕ, Bool, if◌then◌else◌, List, [], ◌∷◌, ◌++◌, map, Option}
use Rattle.std.specs.Map.{lookup}
use Rattle.std.specs.Str.{bytes_eq}
use Rattle.fol_core.specs.NamesOnce.{is_in}

-- whether a name has a weight
abbrev pub is_weighed : List ℕ → List (List ℕ × ℕ) → Bool
is_weighed name rows = is_in name (map (λ r. r.0) rows)

-- the rows with a name's weight at their end, unless it has one
abbrev pub with_weight : List ℕ → ℕ → List (List ℕ × ℕ) → List (List ℕ × ℕ)
with_weight name weight rows = if is_weighed name rows then rows else rows ++ (name, weight) ∷ []

-- what a name weighs
abbrev pub weight_in : List ℕ → List (List ℕ × ℕ) → Option ℕ
weight_in name rows = lookup (λ n. bytes_eq name n) rows
