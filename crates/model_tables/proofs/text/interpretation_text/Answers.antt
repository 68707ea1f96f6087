use Rattle.std.proofs.Common.{◌+◌}
use Rattle.model_tables.specs.ModelText.{model_text, text_beginning, entries_of, entry_lines}
use Rattle.model_tables.proofs.Texts.{closed_text}
use Rattle.model_tables.proofs.text.interpretation_text.Goals as goal

pub returns : goal.returns
unfolding model_text
returns c =
    let t = c.args.tables.now in
    rw c.in_ok-put_end.ensures
    (closed_text (text_beginning (t.top + 1) c.args.k) (entry_lines (entries_of c.args.symbols.now t.rows)) _ _ (rw (c.in_ok-out.ensures, c.size.ensures, c.rows.ensures) at c.in_ok-before.ensures))
