-- The first terms are put in.
use Rattle.std.proofs.Common.{map, take}
use Rattle.term_unifiers.specs.Shared.{ArePut, numbers_of, of_parent}
use Rattle.term_unifiers.specs.Solutions.{bindings_of}
use Rattle.term_unifiers.proofs.sharing.put_all_among.Given as goal

abbrev pub invariant-loop-one : goal.invariant-loop-one
invariant-loop-one l = ArePut l.fn.bank l.bank l.fn.numbers l.numbers (map (of_parent l.many (bindings_of l.found)) (take l.one-index l.terms)) (numbers_of l.made.items)
