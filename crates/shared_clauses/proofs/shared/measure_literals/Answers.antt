-- A literal more.
use Rattle.std.proofs.Common.{false}
use Rattle.std.proofs.lemmas.List.{get_or_default}
use Rattle.shared_clauses.proofs.FollowSteps.{atom_within}
use Rattle.shared_clauses.proofs.MakeSteps.{bank_measured, shared_beside}
use Rattle.shared_clauses.proofs.shared.measure_literals.Goals as goal

pub size-requires : goal.size-requires
size-requires c = atom_within c.args.bank.now c.args.literals.now c.loop-literal.literal-index (record { positive = false; atom = record { 0 = 0 } }) c.loop-literal-test.true c.requires

pub depth-requires : goal.depth-requires
depth-requires c = atom_within c.args.bank.now c.args.literals.now c.loop-literal.literal-index (record { positive = false; atom = record { 0 = 0 } }) c.loop-literal-test.true c.requires

pub loop-literal-preserved : goal.loop-literal-preserved
loop-literal-preserved c =
    shared_beside c.args.bank.now c.args.literals.now c.loop-literal.literal-index _ c.loop-literal.all (record { size = c.size.result; depth = c.depth.result }) c.beside-all.result c.loop-literal-test.true (get_or_default c.args.literals.now c.loop-literal.literal-index (record { positive = false; atom = record { 0 = 0 } }) _ c.loop-literal-test.true) c.loop-literal.invariant
    (bank_measured _ c.size.result c.depth.result c.size.ensures c.depth.ensures c.depth.type_inv) c.beside-all.ensures
