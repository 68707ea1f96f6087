-- the values so far, and what is left to read of the list
use Rattle.std.proofs.Common.{◌≡◌, ◌≤◌, ℕ, List, [], length}
use Rattle.ladr_commands.specs.Form.{Form, values, form_outcome}
use Rattle.ladr_commands.proofs.interpretation.values.Given as goal

abbrev pub invariant-loop-values : goal.invariant-loop-values
invariant-loop-values l = ((onward : List ℕ → Form) → form_outcome (values [] onward) l.fn.cursor ≡ form_outcome (values l.values.items onward) l.cursor) × (length l.cursor ≤ length l.fn.cursor)

abbrev pub decreases-loop-values : goal.decreases-loop-values
decreases-loop-values l = length l.cursor
