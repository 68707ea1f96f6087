use Rattle.ladr_prover9.proofs.Sounding.{asked_sound}
use Rattle.ladr_prover9.proofs.laws.quests_are_sound.Goals as goal

pub returns : goal.returns
returns c = asked_sound (λ m bytes s h. c.files_are_fit.ensures m s (c.problems_grow.ensures m bytes s h)) c.rows_are_of_formulas.ensures c.orders_of_files_keep_variables.ensures
