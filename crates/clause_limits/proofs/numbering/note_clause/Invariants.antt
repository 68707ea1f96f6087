-- The variables found and those of the rest are those of the clause.
use Rattle.std.proofs.Common.{◌≡◌, map, drop}
use Rattle.fol_core.specs.ClauseView.{literal_of}
use Rattle.fol_core.specs.Free.{joined}
use Rattle.fol_core.specs.Renumbered.{clause_variables}
use Rattle.clause_limits.proofs.numbering.note_clause.Given as goal

abbrev pub invariant-loop-literal : goal.invariant-loop-literal
invariant-loop-literal l = joined l.found.items (clause_variables (map literal_of (drop l.literal-index l.literal-items))) ≡ clause_variables (map literal_of l.literal-items)
