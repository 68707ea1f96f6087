use Rattle.std.proofs.Common.{refl}
use Rattle.ladr_lex.specs.Bytes.{is_blank, is_ordinary, is_special}
use Rattle.ladr_lex.specs.Starts.{start_of}
use Rattle.ladr_problem.proofs.item_laws.worked_cuts.Goals as goal

pub returns : goal.returns
unfolding start_of is_blank is_ordinary is_special
returns c = refl
