-- The atom as it is, and with another term in it.
use Rattle.fol_core.specs.Substitutions.{substitute}
use Rattle.fol_core.specs.TermView.{tree_of}
use Rattle.substitutions.specs.Bindings.{by_bindings}
use Rattle.inference.proofs.WriteSteps.{atom_changed, atom_whole, written_of}
use Rattle.term_unifiers.specs.Renamed.{own_among}
use Rattle.inference.proofs.building.written_atom.Goals as goal

pub returns-in-None : goal.returns-in-None
returns-in-None c =
    let own = own_among c.args.many (by_bindings c.args.unifier.now) in
    atom_whole c.write.result own c.args.left.now c.args.numbers.now c.write.new.numbers c.in-None.is
    (written_of c.write.result c.args.numbers.now c.write.new.numbers (substitute (own c.args.left.now.parent) (tree_of c.args.left.now.literal.now.atom)) c.write.ensures.numbers c.write.ensures.term)

pub returns-in-Some : goal.returns-in-Some
returns-in-Some c =
    let own = own_among c.args.many (by_bindings c.args.unifier.now) in
    atom_changed c.written_with.result own c.args.left.now c.in-Some.change c.args.numbers.now c.written_with.new.numbers c.in-Some.is c.written_with.ensures
