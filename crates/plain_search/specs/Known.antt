-- What a partial table tells of terms and literals, as far as cells are assigned.
use Rattle.std.specs.Prelude.{ℕ, ◌==◌, nat_lt, Bool, not, if◌then◌else◌, List, [], ◌∷◌, Option, None, Some}
use Rattle.std.specs.List.{list_all}
use Rattle.std.specs.Option.{option_map, option_and_then}
use Rattle.fol_core.specs.Literals.{equality}
use Rattle.fol_core.specs.Tree.{Tree, var, elem, app, Trees, none, more}
use Rattle.fol_core.specs.Truth.{Assignment}
use Rattle.fol_core.specs.declared.symbols.Kind.{Kind}
use Rattle.fol_core.specs.declared.symbols.Kind.TheVariants.{Function, Relation}
use Rattle.mace_ground.specs.Cells.{Cell, cell}
use Rattle.plain_search.specs.Lefts.{ValuesLeft, only_value}

-- the cell of a symbol for these arguments, where they are elements below n
abbrev pub cell_for : ℕ → Kind → ℕ → List ℕ → Option Cell
cell_for n kind s xs =
    if list_all (λ x. nat_lt x n) xs then Some (cell kind s xs) else None

abbrev pub value_left : ValuesLeft → Option Cell → Option ℕ
value_left p o = option_and_then (λ c. only_value (p c)) o

-- a value in front of others, where all of them are known
abbrev pub joined : Option ℕ → Option (List ℕ) → Option (List ℕ)
joined None o = None
joined (Some x) o = option_map (λ xs. x ∷ xs) o

abbrev mutual
  -- the value of a term, where it is known
  pub known : ℕ → ValuesLeft → Assignment → Tree → Option ℕ
  known n p e (var x) = Some (e x)
  known n p e (elem k) = Some k
  known n p e (app s ts) =
      value_left p (option_and_then (cell_for n Function s) (all_known n p e ts))

  pub all_known : ℕ → ValuesLeft → Assignment → Trees → Option (List ℕ)
  all_known n p e none = Some []
  all_known n p e (more t ts) = joined (known n p e t) (all_known n p e ts)

-- what is known of one side of a literal: its cell, where its arguments have values, and its value
pub record Side : Type 0 where
  pub cell : Option Cell
  pub value : Option ℕ

abbrev pub side : Option Cell → Option ℕ → Side
side cell value = record { cell = cell; value = value }

abbrev pub unknown : Side
unknown = side None None

-- the side that is a symbol's cell
abbrev pub cell_side : ℕ → ValuesLeft → Assignment → Kind → ℕ → Trees → Side
cell_side n p e kind s ts =
    let o : Option Cell = option_and_then (cell_for n kind s) (all_known n p e ts) in
    side o (value_left p o)

abbrev pub term_side : ℕ → ValuesLeft → Assignment → Tree → Side
term_side n p e (var x) = side None (Some (e x))
term_side n p e (elem k) = side None (Some k)
term_side n p e (app s ts) = cell_side n p e Function s ts

abbrev pub equation_sides : ℕ → ValuesLeft → Assignment → Trees → Side × Side
equation_sides n p e (more s (more t none)) = (term_side n p e s, term_side n p e t)
equation_sides n p e ts = (unknown, unknown)

-- the two sides of an atom: those of an equation; or a relation's cell and 1, which it has where
-- the relation holds
abbrev pub sides : ℕ → ValuesLeft → Assignment → Tree → Side × Side
sides n p e (app r ts) =
    if r == equality then equation_sides n p e ts
    else (cell_side n p e Relation r ts, side None (Some 1))
sides n p e t = (unknown, unknown)

abbrev pub compared : Option ℕ → Option ℕ → Option Bool
compared None o = None
compared (Some x) o = option_map (λ y. x == y) o

-- the truth of a literal, where both sides have values
abbrev pub truth_known : Bool → Side × Side → Option Bool
truth_known positive q =
    option_map (λ b. if positive then b else not b) (compared q.0.value q.1.value)
