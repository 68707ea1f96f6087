use Rattle.std.proofs.Common.{◌==◌, not, length, map}
use Rattle.ladr_interpretations.specs.NamedText.{table_text, named_text}
use Rattle.model_tables.specs.ModelText.{text_beginning, entry_lines}
use Rattle.model_tables.proofs.Texts.{closed_text}
use Rattle.ladr_interpretations.proofs.text.named_text.Goals as goal

pub returns : goal.returns
unfolding named_text
returns c =
    let it = c.args.named.now in
    rw (c.in_ok-put_end.ensures, c.is_empty.ensures, c.entries-2.ensures)
    (closed_text (text_beginning it.size c.args.k) (entry_lines (map table_text it.entries)) _ (not (length it.entries == 0))
    (rw (c.in_ok-out.ensures, c.size.ensures, c.entries.ensures) at c.in_ok-put_entries.ensures))
