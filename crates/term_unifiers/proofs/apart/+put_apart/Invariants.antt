-- The first arguments have nodes.
use Rattle.std.proofs.Common.{map, take}
use Rattle.fol_core.specs.Substitutions.{substitute}
use Rattle.fol_core.specs.TermView.{tree_of}
use Rattle.substitutions.specs.Apart.{interleaved}
use Rattle.term_unifiers.specs.Arenas.{AreNodes}
use Rattle.term_unifiers.proofs.apart.+put_apart.Given as goal

abbrev pub decreases-put_apart : goal.decreases-put_apart
decreases-put_apart l = goal.size-put_apart l

abbrev pub invariant-loop-term : goal.invariant-loop-term
invariant-loop-term l = AreNodes l.fn.arena l.arena l.fn.numbers.items l.numbers.items (map (λ t. substitute (interleaved l.many l.place) (tree_of t)) (take l.term-index l.term-items))
