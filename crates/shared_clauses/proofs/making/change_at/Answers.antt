-- The path isn't there, or another term is put there.
use Rattle.std.proofs.Common.{Some, refl, sym}
use Rattle.fol_core.specs.TermView.{tree_of}
use Rattle.shared_clauses.proofs.MakeSteps.{change_missing, change_never, result_made}
use Rattle.shared_clauses.proofs.making.change_at.Goals as goal

pub returns-in-None-clause-term : goal.returns-in-None-clause-term
returns-in-None-clause-term c = change_missing c.args.bank.now c.args.id.0 c.args.new.0 (tree_of c.args.general.now) c.args.path.now c.requires.id (sym c.in-None.ensures)

pub returns-in-None-2-clause-term : goal.returns-in-None-2-clause-term
returns-in-None-2-clause-term c =
    let gone = rw c.in-None-2.is at c.in_ok-way_along.ensures in
    change_never c.args.bank.now c.args.id.0 c.args.new.0 (tree_of c.args.general.now) c.args.path.now c.requires.id (Some (tree_of c.in-Some.field-0.now)) (sym c.in-Some.ensures) (tree_of c.in-Some.field-0.now) refl gone

pub returns-in-Some-2-clause-term : goal.returns-in-Some-2-clause-term
returns-in-Some-2-clause-term c =
    let way = rw c.in-Some-2.is at c.in_ok-way_along.ensures in
    result_made c.put_along.result c.args.bank.now c.args.id.0 c.args.new.0 (tree_of c.args.general.now) c.args.path.now c.requires.id c.put_along.new.bank (tree_of c.in-Some.field-0.now) c.as_slice.result.now c.in-Some-2.way.items c.as_slice.ensures.value (sym c.in-Some.ensures) way c.put_along.ensures.term
