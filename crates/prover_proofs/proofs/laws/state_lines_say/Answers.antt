-- What lines say.
use Rattle.prover_proofs.proofs.Saying as saying
use Rattle.prover_proofs.proofs.laws.state_lines_say.Goals as goal

pub returns-clause-formulas : goal.returns-clause-formulas
returns-clause-formulas c = saying.formula_lines_say

pub returns-clause-all : goal.returns-clause-all
returns-clause-all c = saying.state_lines_say
