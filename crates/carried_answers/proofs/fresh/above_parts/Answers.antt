-- A term more.
use Rattle.std.proofs.Common.{refl, arith}
use Rattle.std.proofs.lemmas.List.{get_or_default}
use Rattle.carried_answers.proofs.FreshSteps.{id_below, parts_end, parts_next, parts_start}
use Rattle.carried_answers.proofs.fresh.above_parts.Goals as goal

pub bounds-above-part : goal.bounds-above-part
bounds-above-part c = id_below _ c.args.parts.now c.loop-part.part-index _ c.loop-part-test.true (get_or_default c.args.parts.now c.loop-part.part-index (record { 0 = 0 }) _ c.loop-part-test.true) c.requires

pub offset_bounds-above-part : goal.offset_bounds-above-part
offset_bounds-above-part c = let within = id_below _ c.args.parts.now c.loop-part.part-index _ c.loop-part-test.true (get_or_default c.args.parts.now c.loop-part.part-index (record { 0 = 0 }) _ c.loop-part-test.true) c.requires in omega (arith, within)

pub loop-part-init : goal.loop-part-init
loop-part-init c = λ bank are. parts_start bank c.args.parts.now

pub loop-part-preserved : goal.loop-part-preserved
loop-part-preserved c = λ bank are.
    parts_next bank c.args.above.now c.args.parts.now c.loop-part.part-index _ _ c.loop-part.most c.max-most.result c.loop-part-test.true (get_or_default c.args.parts.now c.loop-part.part-index (record { 0 = 0 }) _ c.loop-part-test.true) c.requires are refl c.max-most.ensures (c.loop-part.invariant bank are)

pub returns : goal.returns
returns c = λ bank are. parts_end bank c.args.parts.now c.loop-part.part-index c.loop-part.most c.loop-part-test.false (c.loop-part.invariant bank are)
