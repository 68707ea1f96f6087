-- A literal more.
use Rattle.std.proofs.Common.{◌<◌, length, map, arith}
use Rattle.shared_clauses.specs.Lefts.{part_atom, whole_atom}
use Rattle.substitutions.specs.Bindings.{by_bindings}
use Rattle.term_unifiers.specs.Renamed.{own_among}
use Rattle.shared_clauses.proofs.MakeSteps.{conclude_end, conclude_next, held_below, others_length, terms_length}
use Rattle.shared_clauses.proofs.making.conclusion_literals.Goals as goal

pub index-requires : goal.index-requires
index-requires c = let e = terms_length (own_among c.args.many (by_bindings c.args.unifier.now)) c.args.left.now c.loop-i.i c.loop-i.bank c.in_ok-shared.shared.terms.items c.in_ok-shared.shared.others.items c.loop-i.made.items c.loop-i.invariant in omega (arith, e, c.loop-i-test.true, c.in_ok-shared.shared.terms.ok.0)

pub index-requires-in-loop-i : goal.index-requires-in-loop-i
index-requires-in-loop-i c = let e = others_length (own_among c.args.many (by_bindings c.args.unifier.now)) c.args.left.now c.loop-i.i c.loop-i.bank c.in_ok-shared.shared.terms.items c.in_ok-shared.shared.others.items c.loop-i.made.items c.loop-i.invariant in omega (arith, e, c.loop-i-test.true, c.in_ok-shared.shared.others.ok.0)

pub left_atom-requires-clause-atom : goal.left_atom-requires-clause-atom
left_atom-requires-clause-atom c =
    let e = terms_length (own_among c.args.many (by_bindings c.args.unifier.now)) c.args.left.now c.loop-i.i c.loop-i.bank c.in_ok-shared.shared.terms.items c.in_ok-shared.shared.others.items c.loop-i.made.items c.loop-i.invariant in
    let inside : c.loop-i.i < length c.in_ok-shared.shared.terms.items = omega (arith, e, c.loop-i-test.true) in
    held_below c.loop-i.bank c.loop-i.invariant.variables (map (whole_atom (own_among c.args.many (by_bindings c.args.unifier.now))) c.args.left.now) c.in_ok-shared.shared.terms.items c.loop-i.i c.index.result.now inside c.index.ensures c.loop-i.invariant.atoms

pub left_atom-requires-clause-part : goal.left_atom-requires-clause-part
left_atom-requires-clause-part c =
    let e = others_length (own_among c.args.many (by_bindings c.args.unifier.now)) c.args.left.now c.loop-i.i c.loop-i.bank c.in_ok-shared.shared.terms.items c.in_ok-shared.shared.others.items c.loop-i.made.items c.loop-i.invariant in
    let inside : c.loop-i.i < length c.in_ok-shared.shared.others.items = omega (arith, e, c.loop-i-test.true) in
    held_below c.loop-i.bank c.loop-i.invariant.variables (map (part_atom (own_among c.args.many (by_bindings c.args.unifier.now))) c.args.left.now) c.in_ok-shared.shared.others.items c.loop-i.i c.index-in-loop-i.result.now inside c.index-in-loop-i.ensures c.loop-i.invariant.parts

pub loop-i-preserved : goal.loop-i-preserved
loop-i-preserved c =
    conclude_next (own_among c.args.many (by_bindings c.args.unifier.now)) c.args.left.now c.loop-i.i c.index-left-i.result c.loop-i.bank c.left_atom.new.bank c.in_ok-shared.shared.terms.items c.in_ok-shared.shared.others.items c.loop-i.made.items c.push.new.self.items c.in_ok-atom.atom c.index.result.now c.index-in-loop-i.result.now
    c.loop-i-test.true c.index-left-i.is c.index.ensures c.index-in-loop-i.ensures c.loop-i.invariant c.in_ok-atom.ensures.grows c.in_ok-atom.ensures.made c.in_ok-push.ensures.items

pub returns : goal.returns
returns c = conclude_end (own_among c.args.many (by_bindings c.args.unifier.now)) c.args.left.now c.loop-i.i c.loop-i.bank c.in_ok-shared.shared.terms.items c.in_ok-shared.shared.others.items c.loop-i.made.items c.loop-i-test.false c.loop-i.invariant
