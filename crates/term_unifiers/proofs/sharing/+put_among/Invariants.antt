-- The first arguments are put in.
use Rattle.std.proofs.Common.{map, take}
use Rattle.fol_core.specs.Substitutions.{substitute}
use Rattle.fol_core.specs.TermView.{tree_of}
use Rattle.substitutions.specs.Bindings.{by_bindings}
use Rattle.term_unifiers.specs.Renamed.{own_among}
use Rattle.term_unifiers.specs.Shared.{ArePut, numbers_of}
use Rattle.term_unifiers.specs.Solutions.{bindings_of}
use Rattle.term_unifiers.proofs.sharing.+put_among.Given as goal

abbrev pub decreases-put_among : goal.decreases-put_among
decreases-put_among l = goal.size-put_among l

abbrev pub invariant-loop-term : goal.invariant-loop-term
invariant-loop-term l = ArePut l.fn.bank l.bank l.fn.numbers l.numbers (map (λ t. substitute (own_among l.many (by_bindings (bindings_of l.found)) l.parent) (tree_of t)) (take l.term-index l.term-items)) (numbers_of l.made.items)
