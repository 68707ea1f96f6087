-- What trying a value of a cell comes to.
use Rattle.std.specs.Prelude.{ℕ, Option, Some}
use Rattle.std.specs.Option.{option_map}
use Rattle.mace_cells.specs.World.{World}
use Rattle.mace_ground.specs.Cells.{Cell}
use Rattle.plain_search.specs.Lefts.{ValuesLeft}
use Rattle.plain_search.specs.Trying.{assigned, tried_table}

-- how many other cells it assigns, None where it meets a contradiction
abbrev pub come_of : World → ValuesLeft → Cell → ℕ → Option ℕ
come_of w p c v = option_map (λ q. assigned w p c (Some q)) (tried_table w p c v)
