-- Behind a proof the prover may go on.
use Rattle.std.proofs.Common.{◌∙◌, Ok, sym, ap, rules}
use Rattle.given_clause.specs.States.{state_of}
use Rattle.prover.proofs.Answering.{comes_reached, only_proof}
use Rattle.prover.proofs.standing.Prover.run.Goals as goal
use Rattle.prover.specs.Provers.{setting_at, state_at, IsGoing}

pub returns-in-Ok-clause-goes : goal.returns-in-Ok-clause-goes
returns-in-Ok-clause-goes g c = λ going.
    let st = setting_at c.args.self.now in
    let s = state_at c.args.self.now in
    let t = state_of c.seek.new.search in
    let before : IsGoing c.args.self.now = record { unended = search rules; sufficed = search rules } in
    let proof = only_proof c.in-Ok.answer (sym c.end_of-self.ensures ∙ going.unended) in
    record {
      fit = record {
        ordered = c.searches_stay_in_order.ensures.reached st s t (c.requires before).fit.ordered (comes_reached st s t c.in-Ok.answer c.in-Ok.ensures.runs.0);
        noted = c.in-Ok.ensures.noted;
      };
      watched = c.seek.ensures.watched proof.0 (c.in-Ok.is ∙ ap Ok proof.1);
    }
