-- the entries so far, and what is left to read of them
use Rattle.std.proofs.Common.{◌≡◌, [], length}
use Rattle.ladr_commands.specs.Form.{entry, form_outcome}
use Rattle.ladr_commands.proofs.interpretation.entries.Given as goal

abbrev pub invariant-loop-entries : goal.invariant-loop-entries
invariant-loop-entries l = form_outcome (entry l.fn.size [] l.fn.kind) l.fn.cursor ≡ form_outcome (entry l.fn.size l.entries.items l.kind) l.cursor

abbrev pub decreases-loop-entries : goal.decreases-loop-entries
decreases-loop-entries l = length l.cursor
