use Rattle.ladr_formulas.specs.declared.styles.Mode.TheVariants.{Prover}
use Rattle.accepted_output.proofs.Accepting.{outputs_accepted, so_far_accepted}
use Rattle.accepted_output.proofs.laws.outputs_are_accepted.Goals as goal

pub returns-clause-accepted : goal.returns-clause-accepted
returns-clause-accepted c =
    outputs_accepted c.one_outcome.ensures (λ m bytes s h. c.problems_are_proper.ensures m s (c.problems_grow.ensures m bytes s h)) (λ m bytes s h. c.formulas_state_themselves.ensures.operators m s (c.problems_grow.ensures m bytes s h)) c.quests_are_sound.ensures c.proofs_refute.ensures.found (λ bytes s f clauses h. c.files_can_be_printed.ensures s f clauses (c.problems_grow.ensures Prover bytes s h))
    (λ bytes s f h. c.rows_of_files_are_fit.ensures s f (c.problems_grow.ensures Prover bytes s h)) c.fit_rows_are_lines.ensures c.lines_stay_in.ensures c.lines_are_fit.ensures.lines c.printed_refutations_are_accepted.ensures

pub returns-clause-so_far : goal.returns-clause-so_far
returns-clause-so_far c =
    so_far_accepted c.one_outcome.ensures (λ m bytes s h. c.problems_are_proper.ensures m s (c.problems_grow.ensures m bytes s h)) (λ m bytes s h. c.formulas_state_themselves.ensures.operators m s (c.problems_grow.ensures m bytes s h)) c.quests_are_sound.ensures c.proofs_refute.ensures.found (λ bytes s f clauses h. c.files_can_be_printed.ensures s f clauses (c.problems_grow.ensures Prover bytes s h))
    (λ bytes s f h. c.rows_of_files_are_fit.ensures s f (c.problems_grow.ensures Prover bytes s h)) c.fit_rows_are_lines.ensures c.lines_stay_in.ensures c.lines_are_fit.ensures.lines c.printed_refutations_are_accepted.ensures c.ends_have_reasons.ensures.start c.ends_have_reasons.ensures.reached
