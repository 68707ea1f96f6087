-- what is left to read of the comments
use Rattle.std.proofs.Common.{◌≡◌, length}
use Rattle.ladr_commands.specs.Form.{Form, comment, form_outcome}
use Rattle.ladr_commands.proofs.interpretation.comments.Given as goal

abbrev pub invariant-loop-cursor : goal.invariant-loop-cursor
invariant-loop-cursor l = (f : Form) → form_outcome (comment f) l.fn.cursor ≡ form_outcome (comment f) l.cursor

abbrev pub decreases-loop-cursor : goal.decreases-loop-cursor
decreases-loop-cursor l = length l.cursor
