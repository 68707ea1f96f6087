-- what is shown is the same for the tokens that are left as for all
use Rattle.std.proofs.Common.{◌≡◌, ◌-◌, length}
use Rattle.ladr_lex.specs.Lexed.{lexed_from}
use Rattle.ladr_problem.specs.Items.{tokens_of}
use Rattle.ladr_problem.specs.Places.{shown_at}
use Rattle.ladr_problem.proofs.read.shown_at.Given as goal

abbrev pub invariant-loop-at : goal.invariant-loop-at
invariant-loop-at l = shown_at (lexed_from l.text.start l.at l.text.bytes.now) l.byte ≡ shown_at (tokens_of l.text) l.byte

abbrev pub decreases-loop-at : goal.decreases-loop-at
decreases-loop-at l = length l.text.bytes.now - l.at
