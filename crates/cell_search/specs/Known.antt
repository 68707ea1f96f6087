-- What a partial table tells of terms and literals, as far as cells have values.
use Rattle.std.specs.Prelude.{ℕ, ◌+◌, ◌==◌, ◌&&◌, nat_lt, Bool, not, if◌then◌else◌, List, [], ◌∷◌, length, Option, None, Some}
use Rattle.std.specs.List.{list_all}
use Rattle.std.specs.Option.{option_map, option_and_then}
use Rattle.fol_core.specs.Literals.{Lit, equality}
use Rattle.fol_core.specs.SymbolTable.{is_same_kind}
use Rattle.fol_core.specs.Tree.{Tree, var, elem, app, Trees, none, more}
use Rattle.fol_core.specs.Truth.{Assignment}
use Rattle.fol_core.specs.declared.symbols.Kind.{Kind}
use Rattle.fol_core.specs.declared.symbols.Kind.TheVariants.{Function, Relation}
use Rattle.mace_cells.specs.Trails.{value_in}
use Rattle.mace_cells.specs.World.{World}
use Rattle.mace_cells.specs.declared.trail.TrailEntry.{TrailEntry}
use Rattle.mace_ground.specs.Cells.{Block, found}
use Rattle.model_tables.specs.Tables.{place_from}

-- the place of arguments behind those that lead to p, where all of them are elements
abbrev pub place_within : ℕ → ℕ → List ℕ → Option ℕ
place_within n p xs = if list_all (λ x. nat_lt x n) xs then Some (place_from n p xs) else None

-- the number of the cell that the block has for some arguments, where its symbol is of this kind;
-- its first cell has number q.0
abbrev pub number_of_cell : ℕ → Kind → List ℕ → Option (ℕ × Block) → Option ℕ
number_of_cell n kind xs None = None
number_of_cell n kind xs (Some q) =
    if is_same_kind q.1.kind kind && length xs == q.1.arity
    then option_map (λ p. q.0 + p) (place_within n 0 xs) else None

-- the number of a symbol's cell
abbrev pub cell_number : World → Kind → ℕ → List ℕ → Option ℕ
cell_number w kind s xs = number_of_cell w.size kind xs (found w.size w.blocks s)

-- a value in front of others, where all of them are known
abbrev pub joined_seen : Option ℕ → Option (List ℕ) → Option (List ℕ)
joined_seen None o = None
joined_seen (Some x) o = option_map (λ xs. x ∷ xs) o

abbrev mutual
  -- the value of a term, where it is known
  pub seen : World → List TrailEntry → Assignment → Tree → Option ℕ
  seen w es e (var x) = Some (e x)
  seen w es e (elem k) = Some k
  seen w es e (app s ts) =
      option_and_then (value_in es)
      (option_and_then (cell_number w Function s) (all_seen w es e ts))

  pub all_seen : World → List TrailEntry → Assignment → Trees → Option (List ℕ)
  all_seen w es e none = Some []
  all_seen w es e (more t ts) = joined_seen (seen w es e t) (all_seen w es e ts)

-- the number of the cell that a symbol has for the values of these terms
abbrev pub cell_seen : World → List TrailEntry → Assignment → Kind → ℕ → Trees → Option ℕ
cell_seen w es e kind s ts = option_and_then (cell_number w kind s) (all_seen w es e ts)

abbrev pub compared : Option ℕ → Option ℕ → Option Bool
compared None o = None
compared (Some x) o = option_map (λ y. x == y) o

-- whether an equation of two sides holds
abbrev pub equation_seen : World → List TrailEntry → Assignment → Trees → Option Bool
equation_seen w es e (more s (more t none)) = compared (seen w es e s) (seen w es e t)
equation_seen w es e ts = None

-- the truth of an atom, where it is known: a relation has the value 1 where it holds
abbrev pub atom_seen : World → List TrailEntry → Assignment → Tree → Option Bool
atom_seen w es e (app r ts) =
    if r == equality then equation_seen w es e ts
    else option_map (λ v. v == 1) (option_and_then (value_in es) (cell_seen w es e Relation r ts))
atom_seen w es e t = None

abbrev pub literal_seen : World → List TrailEntry → Assignment → Lit → Option Bool
literal_seen w es e l = option_map (λ b. if l.positive then b else not b) (atom_seen w es e l.atom)
