-- The numbers are those of all terms.
use Rattle.std.proofs.Common.{length, ap, ◌∙◌}
use Rattle.carried_answers.proofs.FreshSteps.{atoms_in}
use Rattle.carried_answers.proofs.fresh.fresh_number.Goals as goal

pub above_literals-requires : goal.above_literals-requires
above_literals-requires c = atoms_in (length c.as_slice.result.now) c.parts.result.0.now c.parts.result.1.now (ap length c.as_slice.ensures.value ∙ c.in_ok-above.ensures.as_many) c.parts.ensures.within
