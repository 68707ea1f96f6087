-- The literals are there.
use Rattle.shared_clauses.proofs.UsedSteps.{as_long, literal_below, same_places}
use Rattle.shared_clauses.proofs.shared.SharedClause.are_same.Goals as goal

pub is_same-requires-clause-l : goal.is_same-requires-clause-l
is_same-requires-clause-l c = literal_below c.self.inside.bank c.self.inside.literals.items c.args.a c.index.result.now (as_long c.self.inside.bank c.self.inside.literals.items c.args.self.now c.args.a c.self.view_is c.requires.a) c.index.ensures c.self.invariant

pub is_same-requires-clause-m : goal.is_same-requires-clause-m
is_same-requires-clause-m c = literal_below c.self.inside.bank c.self.inside.literals.items c.args.b c.index-2.result.now (as_long c.self.inside.bank c.self.inside.literals.items c.args.self.now c.args.b c.self.view_is c.requires.b) c.index-2.ensures c.self.invariant

pub returns : goal.returns
returns c =
    same_places c.self.inside.bank c.self.inside.literals.items c.args.self.now c.args.a c.args.b c.index.result.now c.index-2.result.now c.is_same.result c.self.view_is
    (as_long c.self.inside.bank c.self.inside.literals.items c.args.self.now c.args.a c.self.view_is c.requires.a)
    (as_long c.self.inside.bank c.self.inside.literals.items c.args.self.now c.args.b c.self.view_is c.requires.b) c.index.ensures c.index-2.ensures c.is_same.ensures
