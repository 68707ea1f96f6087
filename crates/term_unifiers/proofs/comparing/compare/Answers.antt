-- What stands at the two nodes.
use Rattle.std.proofs.Common.{[]}
use Rattle.term_unifiers.specs.Arenas.{shapes_of}
use Rattle.term_unifiers.specs.Shapes.{element, application}
use Rattle.term_unifiers.proofs.Compares.{second_variable, no_variable, same_elements, other_arities, more_pairs}
use Rattle.term_unifiers.proofs.comparing.compare.Goals as goal

pub returns-then-ks-js-clause-compared : goal.returns-then-ks-js-clause-compared
returns-then-ks-js-clause-compared c =
    other_arities (shapes_of c.args.arena.now) c.args.p c.args.q [] [] [] [] c.in-Application.f c.in-Application-view-2.g c.in-Application.ks.now c.in-Application-view-2.js.now c.in-Application.ensures c.in-Application-view-2.ensures c.if-ks-js.true

pub returns-in-Variable-view-clause-compared : goal.returns-in-Variable-view-clause-compared
returns-in-Variable-view-clause-compared c =
    second_variable (shapes_of c.args.arena.now) c.args.p c.args.q c.args.lefts.now.items c.args.rights.now.items c.in-Variable-view.field-0 (no_variable (element c.in-Element.k) (shapes_of c.args.arena.now) c.args.p c.in-Element.ensures tt) c.in-Variable-view.ensures

pub returns-then-k-n-clause-compared : goal.returns-then-k-n-clause-compared
returns-then-k-n-clause-compared c =
    same_elements (shapes_of c.args.arena.now) c.args.p c.args.q c.args.lefts.now.items c.args.rights.now.items c.in-Element.k c.in-Element-view.n c.in-Element.ensures c.in-Element-view.ensures c.if-k-n.true

pub returns-in-Variable-view-2-clause-compared : goal.returns-in-Variable-view-2-clause-compared
returns-in-Variable-view-2-clause-compared c =
    second_variable (shapes_of c.args.arena.now) c.args.p c.args.q c.args.lefts.now.items c.args.rights.now.items c.in-Variable-view-2.field-0
    (no_variable (application c.in-Application.f c.in-Application.ks.now) (shapes_of c.args.arena.now) c.args.p c.in-Application.ensures tt) c.in-Variable-view-2.ensures

pub returns-else-ks-js-clause-compared : goal.returns-else-ks-js-clause-compared
returns-else-ks-js-clause-compared c =
    more_pairs (shapes_of c.args.arena.now) c.args.p c.args.q c.args.lefts.now.items c.args.rights.now.items c.put_behind.new.numbers.items c.put_behind-in-Application-view-2.new.numbers.items
    c.in-Application.f c.in-Application-view-2.g c.in-Application.ks.now c.in-Application-view-2.js.now c.requires.arena.postorder c.requires.p c.requires.q c.in-Application.ensures c.in-Application-view-2.ensures
    c.if-f-g.false c.if-ks-js.false c.put_behind.ensures.numbers c.put_behind-in-Application-view-2.ensures.numbers
