-- what is left goes on as the whole does
use Rattle.std.proofs.Common.{◌-◌, length}
use Rattle.ladr_lex.specs.Lexed.{lexed_from}
use Rattle.ladr_problem.specs.Items.{items_of, tokens_of}
use Rattle.ladr_problem.specs.Draft.{sofar_of}
use Rattle.ladr_problem.specs.File.{Outcome, File}
use Rattle.ladr_problem.proofs.file.take_items.Given as goal

abbrev pub invariant-loop-at : goal.invariant-loop-at
invariant-loop-at l =
    (o : Outcome) → File l.program l.end (sofar_of l.draft) (items_of (lexed_from l.text.start l.at l.text.bytes.now)) o → File l.program l.end (sofar_of l.fn.draft) (items_of (tokens_of l.text)) o

abbrev pub decreases-loop-at : goal.decreases-loop-at
decreases-loop-at l = length l.text.bytes.now - l.at
