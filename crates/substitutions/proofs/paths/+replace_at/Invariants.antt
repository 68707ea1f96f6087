-- The path gets shorter.
use Rattle.std.proofs.Common.{length}
use Rattle.substitutions.proofs.paths.+replace_at.Given as goal

abbrev pub decreases-replace_at : goal.decreases-replace_at
decreases-replace_at l = length l.path.now
