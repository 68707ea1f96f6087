-- A literal more.
use Rattle.std.proofs.Common.{false, refl, arith}
use Rattle.std.proofs.lemmas.List.{get_or_default}
use Rattle.carried_answers.proofs.FreshSteps.{atom_below, atoms_end, atoms_next, atoms_start}
use Rattle.carried_answers.proofs.fresh.above_literals.Goals as goal

pub bounds-above-literal : goal.bounds-above-literal
bounds-above-literal c = atom_below _ c.args.literals.now c.loop-literal.literal-index _ c.loop-literal-test.true (get_or_default c.args.literals.now c.loop-literal.literal-index (record { positive = false; atom = record { 0 = 0 } }) _ c.loop-literal-test.true) c.requires

pub offset_bounds-above-literal : goal.offset_bounds-above-literal
offset_bounds-above-literal c = let within = atom_below _ c.args.literals.now c.loop-literal.literal-index _ c.loop-literal-test.true (get_or_default c.args.literals.now c.loop-literal.literal-index (record { positive = false; atom = record { 0 = 0 } }) _ c.loop-literal-test.true) c.requires in omega (arith, within)

pub loop-literal-init : goal.loop-literal-init
loop-literal-init c = λ bank are. atoms_start bank c.args.literals.now

pub loop-literal-preserved : goal.loop-literal-preserved
loop-literal-preserved c = λ bank are.
    atoms_next bank c.args.above.now c.args.literals.now c.loop-literal.literal-index _ _ c.loop-literal.most c.max-most.result c.loop-literal-test.true (get_or_default c.args.literals.now c.loop-literal.literal-index (record { positive = false; atom = record { 0 = 0 } }) _ c.loop-literal-test.true) c.requires are refl c.max-most.ensures (c.loop-literal.invariant bank are)

pub returns : goal.returns
returns c = λ bank are. atoms_end bank c.args.literals.now c.loop-literal.literal-index c.loop-literal.most c.loop-literal-test.false (c.loop-literal.invariant bank are)
