-- The atom as it is, or with another term in it.
use Rattle.shared_clauses.proofs.MakeSteps.{left_whole, result_changed}
use Rattle.shared_clauses.proofs.making.left_atom.Goals as goal

pub returns-in-None-clause-made : goal.returns-in-None-clause-made
returns-in-None-clause-made c = λ s own is that. left_whole c.args.bank.now c.args.atom.0 c.args.one.now c.in-None.is c.requires.atom s own is

pub returns-in-Some-clause-made : goal.returns-in-Some-clause-made
returns-in-Some-clause-made c = result_changed c.change_at.result c.args.bank.now c.change_at.new.bank c.args.atom.0 c.args.part.0 c.args.one.now c.in-Some.change c.in-Some.is c.change_at.ensures.term
