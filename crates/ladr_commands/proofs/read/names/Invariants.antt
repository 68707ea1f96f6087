-- the names so far, and what is left to read of the list
use Rattle.std.proofs.Common.{◌≡◌, List, [], ℕ, length}
use Rattle.ladr_commands.specs.Form.{Form, members, form_outcome}
use Rattle.ladr_commands.specs.declared.wanted.Wanted.TheVariants.{Symbol}
use Rattle.ladr_commands.proofs.read.names.Given as goal

abbrev pub invariant-loop-names : goal.invariant-loop-names
invariant-loop-names l = (onward : List (List ℕ) → Form) → form_outcome (members Symbol [] onward) l.fn.cursor ≡ form_outcome (members Symbol l.names onward) l.cursor

abbrev pub decreases-loop-names : goal.decreases-loop-names
decreases-loop-names l = length l.cursor
