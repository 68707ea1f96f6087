use Rattle.printed_proofs.proofs.Accepting.{accepted}
use Rattle.printed_proofs.proofs.laws.printed_refutations_are_accepted.Goals as goal

pub returns : goal.returns
returns c = accepted c.plain_lines_stay.ensures.refutations c.axioms_are_in_order.ensures.order c.axioms_are_in_order.ensures.new (λ m bytes s h. c.problems_are_proper.ensures m s (c.problems_grow.ensures m bytes s h)) c.offers_are_alone.ensures c.printed_refutations_are_read.ensures
