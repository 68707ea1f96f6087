use Rattle.std.proofs.Common.{refl}
use Rattle.model_tables.proofs.entries.text_beginning.Goals as goal

pub returns : goal.returns
returns c = rw (c.in_ok-text-3.ensures, c.in_ok-number-2.ensures, c.in_ok-text-2.ensures, c.in_ok-number.ensures, c.from.ensures, c.in_ok-text.ensures, c.new-out.ensures.items) refl
