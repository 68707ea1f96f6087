use Rattle.printed_proofs.proofs.Printing.{refutations_read}
use Rattle.printed_proofs.proofs.laws.printed_refutations_are_read.Goals as goal

pub returns : goal.returns
returns c = refutations_read (λ m bytes s h. c.problems_are_proper.ensures m s (c.problems_grow.ensures m bytes s h))
