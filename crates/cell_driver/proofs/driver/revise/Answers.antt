use Rattle.std.proofs.Common.{◌≡◌, suc, List, ◌∷◌, length, ap, ◌∙◌, arith}
use Rattle.mace_cells.specs.Stacked.{Stacked, rest_of}
use Rattle.mace_cells.specs.World.{many_cells}
use Rattle.mace_cells.specs.declared.frame.Frame.{Frame}
use Rattle.mace_cells.proofs.Drives.{few_decided, rest_decided, further_value, no_further, latest_decided, latest_within}
use Rattle.cell_driver.proofs.Coming.{further, no_further as no_more}
use Rattle.cell_driver.proofs.driver.revise.Goals as goal

pub decide-requires-clause-room : goal.decide-requires-clause-room
decide-requires-clause-room g c =
    let same = rest_decided _ _ _ _ _ c.args.frame c.undo.ensures.world c.requires.standing.decided c.requires.latest c.undo.ensures.decided in
    let list : List Frame = c.args.frames.now.list in
    let length_is : length list ≡ suc (length (rest_of list)) = ap (λ (fs : List Frame). length fs) c.requires.latest in
    let many : many_cells (g.B.Board.world c.undo.new.self) ≡ many_cells (g.B.Board.world c.args.board.now) = ap many_cells c.undo.ensures.world in
    few_decided (g.B.Board.world c.undo.new.self) _ _ _ same (omega (arith, length_is, many, c.requires.standing.few))

pub returns-in-None-clause-leaves : goal.returns-in-None-clause-leaves
returns-in-None-clause-leaves g c =
    let same = rest_decided _ _ _ _ _ c.args.frame c.undo.ensures.world c.requires.standing.decided c.requires.latest c.undo.ensures.decided in
    no_further (g.B.Board.world c.args.board.now) (g.B.Board.world c.undo.new.self) (g.B.Board.decided c.undo.new.self) c.args.frames.now.list c.pop.new.self.list c.args.frame c.from.result c.from.ensures
    c.undo.ensures.world same c.requires.latest c.in-None.ensures.next (ap (λ (s : Stacked Frame). s.list) c.pop.ensures)

pub returns-in-Some-clause-leaves : goal.returns-in-Some-clause-leaves
returns-in-Some-clause-leaves g c =
    let same = rest_decided _ _ _ _ _ c.args.frame c.undo.ensures.world c.requires.standing.decided c.requires.latest c.undo.ensures.decided in
    let popped : c.pop.new.self.list ≡ rest_of c.args.frames.now.list = ap (λ (s : Stacked Frame). s.list) c.pop.ensures in
    let frame : Frame = record { cell = c.args.frame.cell; value = c.in-Some.value; most = c.args.frame.most } in
    further_value (g.B.Board.world c.args.board.now) (g.B.Board.world c.undo.new.self) (g.B.Board.decided c.undo.new.self) c.args.frames.now.list c.push.new.self.list c.args.frame c.in-Some.value c.from.result c.from.ensures
    c.undo.ensures.world same c.requires.latest c.in-Some.ensures.next (ap (λ (s : Stacked Frame). s.list) c.push.ensures ∙ ap (λ (fs : List Frame). frame ∷ fs) popped)

pub next_value-requires-clause-open : goal.next_value-requires-clause-open
next_value-requires-clause-open g c =
    c.undo.ensures.open c.args.frame.cell (latest_within (g.B.Board.world c.args.board.now) _ _ c.args.frame c.requires.standing.within c.requires.latest) (latest_decided (g.B.Board.world c.args.board.now) _ _ _ c.args.frame c.requires.standing.decided c.requires.latest)

pub returns-in-Some-clause-comes : goal.returns-in-Some-clause-comes
returns-in-Some-clause-comes g c =
    let same = rest_decided _ _ _ _ _ c.args.frame c.undo.ensures.world c.requires.standing.decided c.requires.latest c.undo.ensures.decided in
    let popped : c.pop.new.self.list ≡ rest_of c.args.frames.now.list = ap (λ (s : Stacked Frame). s.list) c.pop.ensures in
    let frame : Frame = record { cell = c.args.frame.cell; value = c.in-Some.value; most = c.args.frame.most } in
    further (g.B.Board.world c.args.board.now) (g.B.Board.world c.undo.new.self) (g.B.Board.decided c.undo.new.self) c.args.frames.now.list c.push.new.self.list c.args.frame c.from.result c.from.ensures c.undo.ensures.world same c.requires.latest
    c.in-Some.value c.in-Some.ensures.first (ap (λ (s : Stacked Frame). s.list) c.push.ensures ∙ ap (λ (fs : List Frame). frame ∷ fs) popped)

pub returns-in-None-clause-comes : goal.returns-in-None-clause-comes
returns-in-None-clause-comes g c =
    let same = rest_decided _ _ _ _ _ c.args.frame c.undo.ensures.world c.requires.standing.decided c.requires.latest c.undo.ensures.decided in
    no_more (g.B.Board.world c.args.board.now) (g.B.Board.world c.undo.new.self) (g.B.Board.decided c.undo.new.self) c.args.frames.now.list c.pop.new.self.list c.args.frame c.from.result c.from.ensures c.undo.ensures.world same c.requires.latest
    c.in-None.ensures.first (ap (λ (s : Stacked Frame). s.list) c.pop.ensures)
