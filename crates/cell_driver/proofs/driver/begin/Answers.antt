use Rattle.std.proofs.Common.{Bool, true, sym, ap, subst}
use Rattle.plain_search.specs.Coming.{to_come}
use Rattle.mace_cells.specs.Leaves.{LeavesOpen, choices_of}
use Rattle.mace_cells.proofs.Steps.{itself}
use Rattle.cell_driver.proofs.driver.begin.Goals as goal

pub returns-then-live-clause-leaves : goal.returns-then-live-clause-leaves
returns-then-live-clause-leaves g c =
    let w = g.B.Board.world c.args.board.now in
    let cs = choices_of w c.args.frames.now.list in
    subst (λ (b : Bool). LeavesOpen w b cs true cs) (sym c.if-live.true) (itself w true cs)

pub returns-then-live-clause-comes : goal.returns-then-live-clause-comes
returns-then-live-clause-comes g c =
    let w = g.B.Board.world c.args.board.now in
    ap (λ (b : Bool). to_come w b (choices_of w c.args.frames.now.list)) c.if-live.true
