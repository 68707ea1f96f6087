use Rattle.std.proofs.Common.{sym, ap}
use Rattle.ladr_lex.specs.Bytes.{is_blank, is_ordinary, is_special}
use Rattle.ladr_lex.specs.Starts.{start_of}
use Rattle.ladr_lex.proofs.bytes.start_of.Goals as goal

pub returns-in-46 : goal.returns-in-46
unfolding start_of is_blank is_ordinary is_special
returns-in-46 c = ap start_of (sym c.in-46.is)

pub returns-in-44 : goal.returns-in-44
unfolding start_of is_blank is_ordinary is_special
returns-in-44 c = ap start_of (sym c.in-44.is)

pub returns-in-41 : goal.returns-in-41
unfolding start_of is_blank is_ordinary is_special
returns-in-41 c = ap start_of (sym c.in-41.is)

pub returns-in-40 : goal.returns-in-40
unfolding start_of is_blank is_ordinary is_special
returns-in-40 c = ap start_of (sym c.in-40.is)
