use Rattle.std.proofs.Common.{List, subst}
use Rattle.cell_driver.specs.Boards.{StandsAs}
use Rattle.mace_cells.specs.Choices.{Decision}
use Rattle.mace_cells.specs.World.{World}
use Rattle.plain_search.proofs.Meeting.{refuted_by_search}
use Rattle.cell_search.specs.Losses.{decided_in}
use Rattle.cell_search.specs.Positions.{BoardPosition}
use Rattle.cell_search.proofs.cells.CellsBoard.status.Goals as goal

pub returns-then-close-clause-stands : goal.returns-then-close-clause-stands
returns-then-close-clause-stands c =
    subst (λ (ds : List Decision). StandsAs c.args.self.now.world ds c.chosen.result) c.close.ensures.decided
    (subst (λ (w : World). StandsAs w (decided_in w c.close.new.self.table.entries) c.chosen.result) c.close.ensures.world
    (subst (λ (p : BoardPosition). StandsAs p.world (decided_in p.world p.table.entries) c.chosen.result) c.picked-picked.ensures.same c.chosen.ensures.stands))

pub returns-else-close-clause-told : goal.returns-else-close-clause-told
returns-else-close-clause-told c = refuted_by_search c.args.self.now.world (decided_in c.args.self.now.world c.args.self.now.table.entries) c.if-close.ensures.behind
