-- In which instances of clauses a cell counts, as far as cells have values.
use Rattle.std.specs.Prelude.{ℕ, ◌^◌, ◌==◌, ◌&&◌, ◌||◌, Bool, false, not, if◌then◌else◌, List, map, Option, None, Some, unwrap_or}
use Rattle.std.specs.List.{list_any, range_with_len}
use Rattle.fol_core.specs.Literals.{ClauseTree, Lit, equality}
use Rattle.fol_core.specs.Tree.{Tree, var, elem, app, Trees, none, more}
use Rattle.fol_core.specs.Truth.{Assignment}
use Rattle.fol_core.specs.declared.symbols.Kind.TheVariants.{Relation}
use Rattle.mace_cells.specs.World.{World}
use Rattle.mace_cells.specs.declared.trail.TrailEntry.{TrailEntry}
use Rattle.mace_ground.specs.Cells.{digits}
use Rattle.mace_ground.specs.Instances.{variables_in}
use Rattle.plain_search.specs.Closing.{Ground, ground}
use Rattle.cell_search.specs.Known.{cell_seen, literal_seen}
use Rattle.cell_search.specs.Telling.{term_number}

-- the numbers of the cells that the sides of an atom are, where their arguments have values
abbrev pub equation_numbers : World → List TrailEntry → Assignment → Trees → Option ℕ × Option ℕ
equation_numbers w es e (more s (more t none)) = (term_number w es e s, term_number w es e t)
equation_numbers w es e ts = (None, None)

abbrev pub numbers_seen : World → List TrailEntry → Assignment → Tree → Option ℕ × Option ℕ
numbers_seen w es e (app r ts) =
    if r == equality then equation_numbers w es e ts else (cell_seen w es e Relation r ts, None)
numbers_seen w es e t = (None, None)

abbrev pub is_number : ℕ → Option ℕ → Bool
is_number k None = false
is_number k (Some j) = k == j

-- whether a cell is a side of a literal
abbrev pub side_seen : World → List TrailEntry → Assignment → ℕ → Lit → Bool
side_seen w es e k l =
    let q : Option ℕ × Option ℕ = numbers_seen w es e l.atom in is_number k q.0 || is_number k q.1

abbrev pub true_seen : World → List TrailEntry → Assignment → Lit → Bool
true_seen w es e l = unwrap_or (literal_seen w es e l) false

-- whether it counts in an instance
abbrev pub counts_seen : World → List TrailEntry → Assignment → ClauseTree → ℕ → Bool
counts_seen w es e c k = not (list_any (true_seen w es e) c) && list_any (side_seen w es e k) c

-- the instances of a clause, the last variable running fastest
abbrev pub instances_of_clause : ℕ → ClauseTree → List Ground
instances_of_clause n c =
    map (λ k. ground c (digits n (variables_in c) k)) (range_with_len 0 (n ^ variables_in c))
