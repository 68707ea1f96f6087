-- The rows are those of the values so far.
use Rattle.std.proofs.Common.{◌≡◌, take}
use Rattle.clausify.specs.View.{put_by, substitution_kept}
use Rattle.clausify.proofs.substitution.rows_of.Given as goal

abbrev pub invariant-loop-value : goal.invariant-loop-value
invariant-loop-value l = put_by l.rows ≡ substitution_kept (take l.value-index l.values)
