-- the symbols so far, and whether those to come are new
use Rattle.std.proofs.Common.{◌≡◌, [], take, drop}
use Rattle.ladr_interpretations.specs.Good.{heads_of, are_new}
use Rattle.ladr_interpretations.proofs.named.heads.Given as goal

abbrev pub invariant-loop-entry : goal.invariant-loop-entry
invariant-loop-entry l =
    (l.heads ≡ heads_of (take l.entry-index l.entries))
    × (are_new [] (heads_of l.entries) ≡ are_new l.heads (heads_of (drop l.entry-index l.entries)))
