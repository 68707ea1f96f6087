use Rattle.ladr_check.proofs.Sound.{suffices}
use Rattle.ladr_check.proofs.laws.one_refutation_suffices.Goals as goal

pub returns : goal.returns
returns c = suffices (λ m bytes s h. c.problems_are_proper.ensures m s (c.problems_grow.ensures m bytes s h)) c.prover_names_no_element.ensures.clauses c.lines_without_elements.ensures c.no_countermodel.ensures c.lines_are_plain.ensures.refutations
