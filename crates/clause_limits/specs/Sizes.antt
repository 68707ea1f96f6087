-- How large clauses are, and how large one may be.
use Rattle.std.specs.Prelude.{ℕ, Bool, ◌+◌, nat_lt, max, ◌||◌, [], ◌∷◌}
use Rattle.clause_limits.specs.declared.measured.Measure.{Measure}
use Rattle.fol_core.specs.Literals.{ClauseTree}
use Rattle.fol_core.specs.Sizes.{size_of, sizes_of, depth_of, depths_of, saturated}
use Rattle.fol_core.specs.Tree.{Tree, Trees}

-- how many symbols and variables a clause has, and how many levels
abbrev pub clause_size : ClauseTree → ℕ
clause_size [] = 0
clause_size (l ∷ c) = size_of l.atom + clause_size c

abbrev pub clause_depth : ClauseTree → ℕ
clause_depth [] = 0
clause_depth (l ∷ c) = max (depth_of l.atom) (clause_depth c)

-- a clause that is too large to be processed
abbrev pub is_too_large : ClauseTree → Bool
is_too_large c = nat_lt 1000 (clause_depth c) || nat_lt 1000000 (clause_size c)

-- how large a term is, each number up to the greatest one, and how large several are
abbrev pub measured : Tree → Measure
measured t = record { size = saturated (size_of t); depth = saturated (depth_of t) }

abbrev pub measured_all : Trees → Measure
measured_all ts = record { size = saturated (sizes_of ts); depth = saturated (depths_of ts) }

-- terms with another beside them, and a symbol over terms
abbrev pub beside : Measure → Measure → Measure
beside m n = record { size = saturated (m.size + n.size); depth = max m.depth n.depth }

abbrev pub under_symbol : Measure → Measure
under_symbol m = record { size = saturated (m.size + 1); depth = saturated (m.depth + 1) }
