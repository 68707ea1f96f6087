use Rattle.std.proofs.Common.{refl}
use Rattle.std.specs.Fmt.{digits}
use Rattle.model_tables.specs.ModelText.{model_text}
use Rattle.ladr_mace4.proofs.laws.worked.Goals as goal

pub returns-clause-searched : goal.returns-clause-searched
unfolding digits model_text
returns-clause-searched c = refl
