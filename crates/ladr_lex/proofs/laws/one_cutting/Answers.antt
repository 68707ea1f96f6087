use Rattle.std.proofs.Common.{◌+◌, drop}
use Rattle.ladr_lex.proofs.Lexing.{cuts_text, cuts_at}
use Rattle.ladr_lex.proofs.Unique.{cut_once}
use Rattle.ladr_lex.proofs.laws.one_cutting.Goals as goal

pub returns : goal.returns
returns c = record { some = cuts_text; only = cut_once; from = λ start at bytes. cuts_at (start + at) (drop at bytes) }
