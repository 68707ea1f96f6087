-- Which clauses may be a large one, by how large they are.
use Rattle.std.specs.Prelude.{Bool, false, nat_le, ◌==◌, ◌&&◌}
use Rattle.clause_limits.specs.Sizes.{clause_size, clause_depth}
use Rattle.derivation.specs.Lines.{ContentTree, formula, clause}
use Rattle.fol_core.specs.Literals.{ClauseTree}
use Rattle.fol_core.specs.Sizes.{saturated}

-- a clause has as many symbols and variables as another one, each number as far as 64 bits hold it
abbrev pub is_as_large : ClauseTree → ClauseTree → Bool
is_as_large c d = saturated (clause_size c) == saturated (clause_size d)

-- it has as many levels, or more, those of the other one as far as 64 bits hold their number
abbrev pub is_as_deep : ClauseTree → ClauseTree → Bool
is_as_deep c d = nat_le (saturated (clause_depth d)) (clause_depth c)

-- by these a content may be a clause, but for the numbers of variables
abbrev pub may_be : ContentTree → ClauseTree → Bool
may_be (formula f) d = false
may_be (clause c) d = is_as_large c d && is_as_deep c d
