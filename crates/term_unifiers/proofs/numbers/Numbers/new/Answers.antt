-- None is noted.
use Rattle.term_unifiers.proofs.Numbered.{none_noted}
use Rattle.term_unifiers.proofs.numbers.Numbers.new.Goals as goal

pub invariant_of-result : goal.invariant_of-result
invariant_of-result c = none_noted c.new.result.items c.new-2.result.items c.new-3.result.entries c.new-2.ensures.items c.new-3.ensures.empty
