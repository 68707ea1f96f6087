use Rattle.std.proofs.Common.{refl}
use Rattle.ladr_lex.specs.Bytes.{is_ordinary, is_special}
use Rattle.ladr_settings.proofs.laws.worked.Goals as goal

pub returns-clause-too_late : goal.returns-clause-too_late
unfolding is_ordinary is_special
returns-clause-too_late _ = refl
