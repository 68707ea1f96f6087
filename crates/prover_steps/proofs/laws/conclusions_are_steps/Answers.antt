use Rattle.std.proofs.Common.{refl, []}
use Rattle.derivation.specs.Lines.{clause}
use Rattle.proof_words.specs.Written.{meant}
use Rattle.prover_steps.specs.StepLaws.{IsStep}
use Rattle.prover_steps.proofs.Steps.{is_line, conclusions_are}
use Rattle.prover_steps.proofs.laws.conclusions_are_steps.Goals as goal

pub returns : goal.returns
returns c = λ ss rows ls rules greater held g are has.
    conclusions_are c.steps_are_worked_out.ensures ls (IsStep ss rows ls)
    (λ n d. is_line ss rows ls (meant n.first) d.by [] (clause n.clause) d.is (d.clauses, n.clause, d.are, d.fits, d.concludes, refl)) rules greater held g are has
