use Rattle.ladr_check.proofs.Sound.{answer}
use Rattle.ladr_check.proofs.laws.refutations_answer.Goals as goal

pub returns : goal.returns
returns c =
    answer c.problems_grow.ensures (λ m bytes s h. c.problems_are_proper.ensures m s (c.problems_grow.ensures m bytes s h)) c.prover_names_no_element.ensures.clauses c.lines_without_elements.ensures c.refutations_show_answers.ensures
