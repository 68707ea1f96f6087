use Rattle.proof_print.proofs.FormulaShown.{formula_has, formula_reads}
use Rattle.proof_print.proofs.laws.formulas_are_printable.Goals as goal

pub returns : goal.returns
returns _ formulas clauses prolog problem table f label fixed given = (formula_has formulas prolog problem table fixed f label given, formula_reads formulas prolog problem table fixed f label given)
