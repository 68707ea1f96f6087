-- None yet, a literal more, and all of them.
use Rattle.fol_core.specs.TermView.{tree_of}
use Rattle.substitutions.specs.Bindings.{by_bindings}
use Rattle.inference.proofs.WriteSteps.{literals_all, literals_next, no_literals}
use Rattle.term_unifiers.specs.Renamed.{own_among}
use Rattle.inference.proofs.building.built.Goals as goal

pub loop-one-init : goal.loop-one-init
loop-one-init c = no_literals c.new-numbers.result c.in_ok-made.made c.new-numbers.ensures c.in_ok-made.ensures

pub loop-one-preserved : goal.loop-one-preserved
loop-one-preserved c =
    literals_next (own_among c.args.many (by_bindings c.args.unifier.now)) c.args.left.now c.loop-one.one-index c.one-item.result c.loop-one.numbers c.written_atom.new.numbers c.loop-one.made c.push.new.self (tree_of c.in_ok-atom.atom)
    c.loop-one-test.true c.one-item.is c.loop-one.invariant c.in_ok-atom.ensures c.in_ok-push.ensures.ok

pub returns : goal.returns
returns c = literals_all (own_among c.args.many (by_bindings c.args.unifier.now)) c.args.left.now c.loop-one.one-index c.loop-one.numbers c.loop-one.made c.loop-one-test.false c.loop-one.invariant
