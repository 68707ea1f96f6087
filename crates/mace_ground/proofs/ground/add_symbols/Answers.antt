use Rattle.std.proofs.Common.{ℕ, ◌^◌, refl}
use Rattle.mace_ground.proofs.Placing.{first_left, goes_on}
use Rattle.fol_core.specs.declared.symbols.Sym.{Sym}
use Rattle.mace_ground.proofs.ground.add_symbols.Goals as goal

pub loop-symbol-preserved : goal.loop-symbol-preserved
loop-symbol-preserved c =
    let number : Sym → ℕ = λ s. s.0 in
    let left = first_left number c.args.symbols.now c.args.used.now c.loop-symbol.symbol-index _ (record { 0 = 0 }) c.loop-symbol-test.true refl in
    let on = rw (← c.block.ensures) at left in
    let after = goes_on _ _ (2 ^ 32) c.loop-symbol.blocks c.push.new.self _ _ _ c.in_ok-push.ensures.ok on c.loop-symbol.invariant.size c.loop-symbol.invariant.all c.loop-symbol.invariant.room in
    record { size = after.0; all = after.1; room = after.2 }
