-- the places so far, and what is left to read of them
use Rattle.std.proofs.Common.{◌≡◌, ◌+◌, ◌≤◌, ℕ, length}
use Rattle.ladr_commands.specs.Form.{Form, places, form_outcome}
use Rattle.ladr_commands.proofs.interpretation.places.Given as goal

abbrev pub invariant-loop-before : goal.invariant-loop-before
invariant-loop-before l = ((onward : ℕ → Form) → form_outcome (places 0 onward) l.fn.cursor ≡ form_outcome (places l.before onward) l.cursor) × (l.before + length l.cursor ≤ length l.fn.cursor)
