-- How large a clause is, each number up to the greatest one.
use Rattle.clause_limits.specs.Sizes.{clause_depth, clause_size}
use Rattle.clause_limits.specs.declared.measured.Measure.{Measure}
use Rattle.fol_core.specs.Literals.{ClauseTree}
use Rattle.fol_core.specs.Sizes.{saturated}

abbrev pub clause_measured : ClauseTree → Measure
clause_measured c =
    record { size = saturated (clause_size c); depth = saturated (clause_depth c) }
