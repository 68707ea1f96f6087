-- whether those to come are filled decides
use Rattle.std.proofs.Common.{◌≡◌, drop}
use Rattle.std.specs.List.{list_all}
use Rattle.ladr_interpretations.specs.Good.{is_filled}
use Rattle.ladr_interpretations.proofs.named.are_filled.Given as goal

abbrev pub invariant-loop-entry : goal.invariant-loop-entry
invariant-loop-entry l = list_all (is_filled l.size) (drop l.entry-index l.entries) ≡ list_all (is_filled l.size) l.entries
