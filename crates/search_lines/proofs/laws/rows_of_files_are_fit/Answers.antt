use Rattle.ladr_formulas.specs.declared.styles.Mode.TheVariants.{Prover}
use Rattle.search_lines.proofs.FileRows.{rows_fit}
use Rattle.search_lines.proofs.laws.rows_of_files_are_fit.Goals as goal

pub returns : goal.returns
returns c = rows_fit (c.formulas_state_themselves.ensures.formulas Prover) c.skolems_stand_behind.ensures
