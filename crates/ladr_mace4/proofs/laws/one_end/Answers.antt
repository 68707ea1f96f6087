use Rattle.ladr_formulas.specs.declared.styles.Mode.TheVariants.{Mace}
use Rattle.ladr_mace4.proofs.OneEnd.{ends_once, runs_alike}
use Rattle.ladr_mace4.proofs.laws.one_end.Goals as goal

pub returns-clause-once : goal.returns-clause-once
returns-clause-once c = ends_once

pub returns-clause-alike : goal.returns-clause-alike
returns-clause-alike c = runs_alike (c.files_are_a_language.ensures Mace) ends_once
