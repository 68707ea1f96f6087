use Rattle.ladr_intake.proofs.Readings.{posed_proper, posed_once, posed_unrefused}
use Rattle.ladr_intake.proofs.laws.files_are_a_language.Goals as goal

pub returns : goal.returns
returns c = λ m. record { proper = posed_proper (λ m bytes s h. c.problems_are_proper.ensures m s (c.problems_grow.ensures m bytes s h)) m; once = posed_once c.one_outcome.ensures m; unrefused = posed_unrefused c.one_outcome.ensures m }
