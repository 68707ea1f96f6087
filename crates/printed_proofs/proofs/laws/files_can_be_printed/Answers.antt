use Rattle.ladr_formulas.specs.declared.styles.Mode.TheVariants.{Prover}
use Rattle.printed_proofs.proofs.FileTexts.{can_print}
use Rattle.printed_proofs.proofs.laws.files_can_be_printed.Goals as goal

pub returns : goal.returns
returns c = can_print (c.formulas_state_themselves.ensures.formulas Prover) (c.formulas_state_themselves.ensures.operators Prover) (c.problems_are_proper.ensures Prover) c.skolems_stand_behind.ensures
