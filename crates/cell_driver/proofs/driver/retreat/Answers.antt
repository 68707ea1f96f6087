use Rattle.std.proofs.Common.{◌≡◌, ◌≤◌, false, true, refl, ◌∙◌, ap, subst, List, arith}
use Rattle.mace_cells.specs.Stacked.{rest_of}
use Rattle.mace_cells.specs.Standing.{beyond}
use Rattle.mace_cells.specs.World.{World, many_cells}
use Rattle.mace_cells.specs.declared.frame.Frame.{Frame}
use Rattle.mace_cells.proofs.Steps.{itself}
use Rattle.mace_cells.proofs.Drives.{both, latest_of, beyond_rest}
use Rattle.cell_driver.proofs.Coming.{came_on}
use Rattle.cell_driver.proofs.driver.retreat.Goals as goal

pub loop-frame-init : goal.loop-frame-init
loop-frame-init g c = record { world = refl; standing = c.requires.standing; leaves = itself (g.B.Board.world c.args.board.now) false _; came = refl; behind = omega arith }

pub returns-then-revise-clause-leaves : goal.returns-then-revise-clause-leaves
returns-then-revise-clause-leaves g c = both _ _ false false true _ _ _ c.loop-frame.invariant.world c.loop-frame.invariant.leaves c.if-revise.ensures.leaves

pub loop-frame-preserved : goal.loop-frame-preserved
loop-frame-preserved g c =
    let w = g.B.Board.world c.args.board.now in
    let old : List Frame = c.loop-frame.frames.list in
    let latest = latest_of old c.in-Some.ensures.0 c.in-Some.frame c.in-Some.ensures.1 in
    let standing = c.loop-frame.invariant.standing in
    let less : beyond (many_cells w) old ≤ beyond (many_cells w) (rest_of old) =
    subst (λ (v : World). beyond (many_cells v) old ≤ beyond (many_cells v) (rest_of old)) c.loop-frame.invariant.world (beyond_rest (g.B.Board.world c.loop-frame.board) old c.in-Some.frame standing.within standing.few latest) in
    let new : beyond (many_cells w) c.revise.new.frames.list ≡ beyond (many_cells w) (rest_of old) = ap (beyond (many_cells w)) c.if-revise.ensures.rises in
    record {
      world = c.revise.ensures.world ∙ c.loop-frame.invariant.world;
      standing = c.revise.ensures.standing;
      leaves = both _ _ false false false _ _ _ c.loop-frame.invariant.world c.loop-frame.invariant.leaves c.if-revise.ensures.leaves;
      came = came_on (g.B.Board.world c.args.board.now) (g.B.Board.world c.loop-frame.board) false false false c.args.frames.now.list c.loop-frame.frames.list c.revise.new.frames.list c.loop-frame.invariant.world c.loop-frame.invariant.came c.if-revise.ensures.comes;
      behind = omega (arith, c.loop-frame.invariant.behind, less, new);
    }

pub returns-then-revise-clause-comes : goal.returns-then-revise-clause-comes
returns-then-revise-clause-comes g c =
    came_on (g.B.Board.world c.args.board.now) (g.B.Board.world c.loop-frame.board) false false true c.args.frames.now.list c.loop-frame.frames.list c.revise.new.frames.list c.loop-frame.invariant.world c.loop-frame.invariant.came c.if-revise.ensures.comes
