-- How much a search takes on.
use Rattle.std.specs.Prelude.{ℕ, ◌+◌, ◌*◌, ◌<◌, ◌≤◌, ◌≡◌}
use Rattle.fol_core.specs.Occurs.{size_needed}
use Rattle.fol_problem.specs.Stated.{Stated}
use Rattle.ladr_mace4.specs.declared.ends.SearchEnd.{SearchEnd}
use Rattle.ladr_mace4.specs.declared.ends.SearchEnd.TheVariants.{MaxMegs, GroundLimit}
use Rattle.ladr_mace4.specs.declared.plan.Plan.{Plan}
use Rattle.model_tables.specs.Size.{formulas_of}
use Rattle.model_tables.specs.declared.limits.TheConstants.{MOST_CELLS}

-- as many cells and ground literals as are refused, and as end a search for want of room
abbrev pub refused_cells : ℕ
refused_cells = MOST_CELLS + 1

abbrev pub most_cells : Plan → ℕ
most_cells s = s.megs * 65536

-- there is room for so many
abbrev pub HasRoomForGround : Plan → ℕ → Type 0
HasRoomForGround s many = (many < refused_cells) × (many < most_cells s)

-- a search ends since size n has so many
abbrev pub IsCrowded : Plan → ℕ → ℕ → SearchEnd → Type 0
IsCrowded s n many MaxMegs = (many < refused_cells) × (most_cells s ≤ many)
IsCrowded s n many (GroundLimit size) = (refused_cells ≤ many) × (size ≡ n)
IsCrowded s n many end = ⊥

-- size n is one of the sizes, and has each element that the formulas name
abbrev pub IsBegun : Stated → Plan → ℕ → Type 0
IsBegun p s n = (n ≤ s.end) × (size_needed (formulas_of p) ≤ n)
