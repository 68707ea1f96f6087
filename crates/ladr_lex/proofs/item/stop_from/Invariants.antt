-- the tokens so far and those ahead are those from the first place on, and no full stop is among those so far
use Rattle.std.proofs.Common.{◌≡◌, ◌-◌, false, length}
use Rattle.ladr_lex.specs.Cuts.{pieces_of}
use Rattle.ladr_lex.specs.Item.{has_stop}
use Rattle.ladr_lex.specs.Lexed.{Advances}
use Rattle.ladr_lex.proofs.item.stop_from.Given as goal

abbrev pub invariant-loop-at : goal.invariant-loop-at
invariant-loop-at l = Advances l.text.start l.text.bytes.now l.fn.found.items l.found.items l.fn.from l.at × (has_stop (pieces_of l.found.items) ≡ false)

abbrev pub decreases-loop-at : goal.decreases-loop-at
decreases-loop-at l = length l.text.bytes.now - l.at
