-- the tokens so far and those ahead are those of the whole text, no special byte but `-` is ahead, and no full stop was added
use Rattle.std.proofs.Common.{◌≡◌, ◌-◌, drop, length}
use Rattle.ladr_lex.specs.Cuts.{pieces_of}
use Rattle.ladr_lex.specs.Item.{has_stop}
use Rattle.ladr_lex.specs.Lexed.{kept, Advances}
use Rattle.ladr_lex.proofs.scan.dashes.Given as goal

abbrev pub invariant-loop-at : goal.invariant-loop-at
invariant-loop-at l = Advances l.text.start l.text.bytes.now l.fn.found.items l.found.items l.fn.from l.at × (kept (drop l.at l.text.bytes.now) ≡ 0) × (has_stop (pieces_of l.found.items) ≡ has_stop (pieces_of l.fn.found.items))

abbrev pub decreases-loop-at : goal.decreases-loop-at
decreases-loop-at l = length l.text.bytes.now - l.at
