use Rattle.proof_print.proofs.Skolems.{skolem_readable, formula_readable}
use Rattle.proof_print.proofs.laws.symbols_are_readable.Goals as goal

pub returns-clause-formulas : goal.returns-clause-formulas
returns-clause-formulas _ = λ prolog formulas clauses table f names label are given. formula_readable prolog formulas clauses are table f names label given

pub returns-clause-skolems : goal.returns-clause-skolems
returns-clause-skolems _ = λ prolog formulas clauses table s x are there k. skolem_readable prolog formulas clauses are table s x there k
