use Rattle.std.proofs.Common.{ℕ, ◌^◌}
use Rattle.mace_ground.proofs.Placing.{first_left, goes_on}
use Rattle.fol_core.specs.declared.clause.Entry.{Entry}
use Rattle.mace_ground.proofs.ground.add_skolem.Goals as goal

pub loop-entry-preserved : goal.loop-entry-preserved
loop-entry-preserved c =
    let number : Entry → ℕ = λ e. e.symbol.0 in
    let left = first_left number c.args.symbols.now c.args.skolem.now c.loop-entry.entry-index c.entry-item.result c.entry-item.result c.loop-entry-test.true c.entry-item.is in
    let on = rw (← c.block.ensures) at left in
    let after = goes_on _ _ (2 ^ 32) c.loop-entry.blocks c.push.new.self _ _ _ c.in_ok-push.ensures.ok on c.loop-entry.invariant.size c.loop-entry.invariant.all c.loop-entry.invariant.room in
    record { size = after.0; all = after.1; room = after.2 }
