use Rattle.std.proofs.Common.{ap}
use Rattle.mace_cells.specs.Stacked.{Stacked}
use Rattle.mace_cells.specs.declared.frame.Frame.{Frame}
use Rattle.mace_cells.proofs.Drives.{few_decided, first_value, no_value, comes_on}
use Rattle.cell_driver.proofs.Coming.{chose_none, chose_value}
use Rattle.cell_driver.proofs.driver.choose.Goals as goal

pub decide-requires-clause-room : goal.decide-requires-clause-room
decide-requires-clause-room g c = few_decided (g.B.Board.world c.args.board.now) _ _ _ c.requires.standing.decided c.requires.room

pub returns-in-None-clause-leaves : goal.returns-in-None-clause-leaves
returns-in-None-clause-leaves g c = no_value _ _ _ c.requires.standing.decided c.args.cell c.most-most.result c.most-most.ensures.bound c.in-None.ensures.next

pub returns-in-Some-clause-leaves : goal.returns-in-Some-clause-leaves
returns-in-Some-clause-leaves g c =
    first_value _ _ _ c.requires.standing.decided c.args.cell c.in-Some.value c.most-most.result _ (ap (λ (s : Stacked Frame). s.list) c.push.ensures) c.most-most.ensures.bound c.in-Some.ensures.next

pub returns-in-Some-clause-rises : goal.returns-in-Some-clause-rises
returns-in-Some-clause-rises g c = comes_on _ _ _ (record { cell = c.args.cell; value = c.in-Some.value; most = c.most-most.result }) (ap (λ (s : Stacked Frame). s.list) c.push.ensures)

pub returns-in-Some-clause-comes : goal.returns-in-Some-clause-comes
returns-in-Some-clause-comes g c =
    chose_value (g.B.Board.world c.args.board.now) (g.B.Board.decided c.args.board.now) c.args.frames.now.list c.push.new.self.list c.args.cell c.in-Some.value c.most-most.result c.requires.standing.decided c.requires.stands c.most-most.ensures.tried
    c.in-Some.ensures.first (ap (λ (s : Stacked Frame). s.list) c.push.ensures)

pub returns-in-None-clause-comes : goal.returns-in-None-clause-comes
returns-in-None-clause-comes g c =
    chose_none (g.B.Board.world c.args.board.now) (g.B.Board.decided c.args.board.now) c.args.frames.now.list c.args.cell c.most-most.result c.requires.standing.decided c.requires.stands c.most-most.ensures.tried c.in-None.ensures.first
