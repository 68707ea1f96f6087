use Rattle.clause_store.proofs.Keeping.{ancestors_are_lines, ancestors_are_refuted}
use Rattle.clause_store.proofs.laws.ancestors_derive.Goals as goal

pub returns-clause-derive : goal.returns-clause-derive
returns-clause-derive c = ancestors_are_lines

pub returns-clause-refute : goal.returns-clause-refute
returns-clause-refute c = ancestors_are_refuted
