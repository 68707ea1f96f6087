-- The literal is there.
use Rattle.std.proofs.Common.{false, arith}
use Rattle.shared_clauses.proofs.FollowSteps.{atom_there, atom_within, place_there}
use Rattle.shared_clauses.proofs.following.atom.Goals as goal

pub bounds-literals-place : goal.bounds-literals-place
bounds-literals-place c = place_there c.args.bank.now c.args.literals.now c.args.place c.requires.place

pub offset_bounds-literals-place : goal.offset_bounds-literals-place
offset_bounds-literals-place c = let within = place_there c.args.bank.now c.args.literals.now c.args.place c.requires.place in omega (arith, within)

pub returns-clause-tree : goal.returns-clause-tree
returns-clause-tree c = atom_there c.args.bank.now c.args.literals.now c.args.place (record { positive = false; atom = record { 0 = 0 } }) (place_there c.args.bank.now c.args.literals.now c.args.place c.requires.place)

pub returns-clause-within : goal.returns-clause-within
returns-clause-within c = atom_within c.args.bank.now c.args.literals.now c.args.place (record { positive = false; atom = record { 0 = 0 } }) (place_there c.args.bank.now c.args.literals.now c.args.place c.requires.place) c.requires.literals
