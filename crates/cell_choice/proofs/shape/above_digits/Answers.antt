use Rattle.std.proofs.Common.{◌∙◌, ap, max, ℕ, ◌-◌, ◌/◌, ◌%◌, arith}
use Rattle.std.proofs.Math.Nat.{one-le-pow}
use Rattle.mace_cells.specs.Numbers.{above_each}
use Rattle.mace_ground.specs.Cells.{digits}
use Rattle.cell_choice.proofs.Shaping.{digits_down}
use Rattle.cell_choice.proofs.shape.above_digits.Goals as goal

pub nonzero_div-rest : goal.nonzero_div-rest
nonzero_div-rest c =
    let d = digits_down c.args.size c.loop-left.left c.loop-left.step c.loop-left.rest c.loop-left.above c.requires.some c.loop-left-test.true c.loop-left.invariant.step c.loop-left.invariant.rest in
    let power = one-le-pow (c.loop-left.left - 1) c.args.size c.requires.some in
    omega (arith, d.0, power)

pub loop-left-preserved : goal.loop-left-preserved
loop-left-preserved c =
    let d = digits_down c.args.size c.loop-left.left c.loop-left.step c.loop-left.rest c.loop-left.above c.requires.some c.loop-left-test.true c.loop-left.invariant.step c.loop-left.invariant.rest in
    let step : ℕ = c.loop-left.step / c.args.size in
    record {
      step = d.0;
      rest = d.1;
      above = ap (λ (m : ℕ). max m (above_each (digits c.args.size (c.loop-left.left - 1) (c.loop-left.rest % step)))) c.max-above.ensures ∙ d.3 ∙ c.loop-left.invariant.above;
      fits = omega (arith, c.max-above.ensures, d.2, c.loop-left.invariant.fits);
    }
