use Rattle.std.proofs.Common.{arith}
use Rattle.model_tables.proofs.Elements.{room_now, element_below, set_there, steps_none, steps_up, steps_over, steps_all}
use Rattle.model_tables.proofs.closures.advance.Goals as goal

pub overflow_add-next : goal.overflow_add-next
overflow_add-next c = omega (arith, c.element-next.ensures, element_below _ _ _ _ _ c.requires.room c.loop-at.invariant c.loop-at-test.true, c.size-size.ensures, c.size-size.type_inv)

pub loop-at-init : goal.loop-at-init
loop-at-init c = steps_none _ _ _ c.requires.digits

pub set-requires : goal.set-requires
set-requires c = room_now _ _ _ _ _ c.requires.room c.loop-at.invariant c.loop-at-test.true

pub returns-then-next-size-clause-digits : goal.returns-then-next-size-clause-digits
returns-then-next-size-clause-digits c = rw c.set.ensures (set_there _ _ _ _ _ c.requires.room c.loop-at.invariant c.loop-at-test.true c.requires.apart _ (omega (arith, c.size-size.ensures, c.if-next-size.true)))

pub returns-then-next-size-clause-next : goal.returns-then-next-size-clause-next
returns-then-next-size-clause-next c = rw (c.set.ensures, c.element-next.ensures) (steps_up _ _ _ _ _ c.requires.room c.loop-at.invariant c.loop-at-test.true c.requires.apart)

pub set-requires-in-loop-at : goal.set-requires-in-loop-at
set-requires-in-loop-at c = room_now _ _ _ _ _ c.requires.room c.loop-at.invariant c.loop-at-test.true

pub loop-at-preserved : goal.loop-at-preserved
loop-at-preserved c = rw c.set-in-loop-at.ensures (steps_over _ _ _ _ _ c.requires.room c.loop-at.invariant c.loop-at-test.true c.requires.apart (omega (arith, c.element-next.ensures, c.size-size.ensures, c.if-next-size.false)))

pub returns-clause-next : goal.returns-clause-next
returns-clause-next c = steps_all _ _ _ _ _ c.loop-at.invariant c.loop-at-test.false c.requires.digits
