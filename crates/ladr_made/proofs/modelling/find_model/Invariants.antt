-- each size so far is exhausted
use Rattle.ladr_made.specs.Modelling.{AreExhaustedBefore}
use Rattle.ladr_made.proofs.modelling.find_model.Given as goal

abbrev pub invariant-loop-n : goal.invariant-loop-n
invariant-loop-n l = AreExhaustedBefore l.text l.n
