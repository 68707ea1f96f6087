use Rattle.derivation_laws.proofs.NoElements.{element_nowhere, no_elements}
use Rattle.derivation_laws.proofs.laws.lines_name_no_elements.Goals as goal

pub returns-clause-nowhere : goal.returns-clause-nowhere
returns-clause-nowhere _ = element_nowhere

pub returns-clause-none : goal.returns-clause-none
returns-clause-none _ = no_elements
