use Rattle.std.proofs.Common.{List, ap, ◌∙◌, subst}
use Rattle.cell_driver.specs.Comings.{ComesInTime}
use Rattle.cell_search.specs.Courses.{Course, AnswersByCells, live_in, late_in}
use Rattle.mace_cells.specs.Choices.{Decision}
use Rattle.mace_cells.specs.Leaves.{choices_of}
use Rattle.cell_search.specs.Finites.{AreLeafTables, finite_of}
use Rattle.cell_search.proofs.Givings.{comes_by, gives_by}
use Rattle.cell_search.proofs.search.CellSearch.go.Goals as goal

pub returns-clause-gives : goal.returns-clause-gives
returns-clause-gives g c =
    let a = c.self.inside in
    let new = c.next_model-answer.new in
    let next : Course = record {
      world = new.board.world;
      live = live_in c.follows_after-self-inside.result;
      choices = choices_of new.board.world new.frames.list;
      table = new.board.table;
      tables = finite_of new.board.world new.board.table.entries;
      stop = a.stop;
      late = late_in c.follows_after-self-inside.result;
    } in
    subst (λ (s : Course). AnswersByCells s next c.next_model-answer.result (g.C.Clock.times new.clock)) c.self.view_is
    (gives_by a.cells.world new.board.world a.cells.table new.board.table a.frames.list new.frames.list c.args.live (live_in a.state) a.stop (late_in a.state) (g.C.Clock.times new.clock) c.next_model-answer.result
    c.len.result c.follows_after-self-inside.result c.next_model-answer.ensures.world (ap (λ (s : Course). s.live) c.self.view_is ∙ c.requires.live) c.follows_after-self-inside.ensures c.next_model-answer.ensures.found
    (λ e. (c.next_model-answer.ensures.full e).0)
    c.next_model-answer.ensures.late)

pub returns-clause-comes : goal.returns-clause-comes
returns-clause-comes g c =
    let a = c.self.inside in
    let new = c.next_model-answer.new in
    let t = g.C.Clock.times c.args.clock.now in
    let t' = g.C.Clock.times new.clock in
    subst (λ (s : Course). ComesInTime s.world s.stop s.live s.choices c.next_model-answer.result (choices_of new.board.world new.frames.list) t t') c.self.view_is
    (comes_by a.cells.world new.board.world a.frames.list new.frames.list c.args.live (live_in a.state) a.stop t t' c.next_model-answer.result c.next_model-answer.ensures.world (ap (λ (s : Course). s.live) c.self.view_is ∙ c.requires.live) c.next_model-answer.ensures.comes)

pub returns-clause-leaf : goal.returns-clause-leaf
returns-clause-leaf g c = λ e.
    let new = c.next_model-answer.new in
    subst (λ (ds : List Decision). AreLeafTables new.board.world ds (finite_of new.board.world new.board.table.entries)) c.next_model-answer.ensures.standing.decided (c.next_model-answer.ensures.full e).1
