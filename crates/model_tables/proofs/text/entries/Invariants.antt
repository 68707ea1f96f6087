-- the text so far and that of the entries to come is that of all
use Rattle.std.proofs.Common.{◌≡◌, ◌++◌}
use Rattle.model_tables.specs.ModelText.{entries_of, entry_lines}
use Rattle.model_tables.proofs.Texts.{rest_of, lines_from}
use Rattle.model_tables.proofs.text.entries.Given as goal

abbrev pub invariant-loop-number : goal.invariant-loop-number
invariant-loop-number l = l.out.items ++ lines_from l.before (rest_of l.symbols l.rows l.number) ≡ l.fn.out.items ++ entry_lines (entries_of l.symbols l.rows)
