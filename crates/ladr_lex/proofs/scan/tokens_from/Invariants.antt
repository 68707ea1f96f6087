-- the tokens so far and those ahead are those of the whole text
use Rattle.std.proofs.Common.{◌-◌, length, []}
use Rattle.ladr_lex.specs.Lexed.{Advances}
use Rattle.ladr_lex.proofs.scan.tokens_from.Given as goal

abbrev pub invariant-loop-at : goal.invariant-loop-at
invariant-loop-at l = Advances l.text.start l.text.bytes.now [] l.found.items 0 l.at

abbrev pub decreases-loop-at : goal.decreases-loop-at
decreases-loop-at l = length l.text.bytes.now - l.at
