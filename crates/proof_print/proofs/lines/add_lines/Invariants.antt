-- The text so far, and that of the lines to come, is that of all.
use Rattle.std.proofs.Common.{◌≡◌, ◌++◌, drop}
use Rattle.proof_lines.specs.ContentTokens.{tables_of}
use Rattle.proof_print.specs.LineTexts.{lines_text}
use Rattle.proof_print.proofs.lines.add_lines.Given as goal

abbrev pub invariant-loop-next : goal.invariant-loop-next
invariant-loop-next l =
    l.out.items ++ lines_text (tables_of l.operators) l.symbols l.prolog (drop l.next-index l.lines)
    ≡ l.fn.out.items ++ lines_text (tables_of l.operators) l.symbols l.prolog l.lines
