use Rattle.std.proofs.Common.{true, false, refl, ◌∙◌}
use Rattle.mace_cells.proofs.Steps.{itself}
use Rattle.mace_cells.proofs.Drives.{both, at_end, smaller, few_choices, still, refuted_still, few_still, undecided_still}
use Rattle.mace_cells.specs.Leaves.{choices_of}
use Rattle.cell_driver.proofs.Coming.{come_nowhere, goes_on_by, goes_on_chosen, goes_to_end, goes_to_leaf, goes_too_late, stands_still}
use Rattle.cell_driver.specs.declared.board.Status.TheVariants.{Choose, Refuted, Settled}
use Rattle.cell_driver.proofs.driver.descend.Goals as goal

pub loop-board-init : goal.loop-board-init
loop-board-init g c = record {
  world = refl;
  standing = c.requires.standing;
  leaves = itself (g.B.Board.world c.args.board.now) true _;
  early = c.requires.early;
  came = come_nowhere (g.B.Board.world c.args.board.now) c.args.stop true (choices_of (g.B.Board.world c.args.board.now) c.args.frames.now.list) (g.C.Clock.times c.args.clock.now);
}

pub back-requires-clause-standing : goal.back-requires-clause-standing
back-requires-clause-standing g c = still _ _ _ _ c.loop-board.frames c.status.ensures.world c.status.ensures.decided c.loop-board.invariant.standing

pub back-requires-clause-refuted : goal.back-requires-clause-refuted
back-requires-clause-refuted g c = refuted_still _ _ _ _ c.status.ensures.world c.status.ensures.decided c.in-Refuted.ensures.told

pub returns-then-not-back-clause-found : goal.returns-then-not-back-clause-found
returns-then-not-back-clause-found g c =
    at_end (g.B.Board.world c.args.board.now) (g.B.Board.world c.status.new.self) true true _ _ _ (c.status.ensures.world ∙ c.loop-board.invariant.world) c.loop-board.invariant.leaves c.if-not-back.ensures.leaves c.if-not-back.ensures.rises

pub loop-board-smaller-else-not-back : goal.loop-board-smaller-else-not-back
loop-board-smaller-else-not-back g c =
    smaller (g.B.Board.world c.args.board.now) (g.B.Board.world c.status.new.self) _ c.loop-board.frames c.back.new.frames.list (c.status.ensures.world ∙ c.loop-board.invariant.world)
    (still _ _ _ _ c.loop-board.frames c.status.ensures.world c.status.ensures.decided c.loop-board.invariant.standing) c.if-not-back.ensures.rises

pub loop-board-preserved-else-not-back : goal.loop-board-preserved-else-not-back
loop-board-preserved-else-not-back g c = record {
  world = c.back.ensures.world ∙ c.status.ensures.world ∙ c.loop-board.invariant.world;
  standing = c.back.ensures.standing;
  leaves = both (g.B.Board.world c.args.board.now) (g.B.Board.world c.status.new.self) true true true _ _ _ (c.status.ensures.world ∙ c.loop-board.invariant.world) c.loop-board.invariant.leaves c.if-not-back.ensures.leaves;
  came = goes_on_by (g.B.Board.world c.args.board.now) (g.B.Board.world c.status.new.self) (c.status.ensures.world ∙ c.loop-board.invariant.world) c.args.stop true c.args.frames.now.list c.loop-board.frames.list (g.C.Clock.times c.args.clock.now) (g.C.Clock.times c.loop-board.clock) true true c.back.new.frames.list c.loop-board.invariant.came c.if-not-back.ensures.comes;
  early = c.loop-board.invariant.early;
}

pub step-requires-clause-standing : goal.step-requires-clause-standing
step-requires-clause-standing g c = still _ _ _ _ c.loop-board.frames c.status.ensures.world c.status.ensures.decided c.loop-board.invariant.standing

pub step-requires-clause-room : goal.step-requires-clause-room
step-requires-clause-room g c =
    few_choices (g.B.Board.world c.status.new.self) _ _ (still _ _ _ _ c.loop-board.frames c.status.ensures.world c.status.ensures.decided c.loop-board.invariant.standing).decided
    (few_still _ _ _ _ c.status.ensures.world c.status.ensures.decided c.in-Choose.ensures.told.1)

pub step-requires-clause-undecided : goal.step-requires-clause-undecided
step-requires-clause-undecided g c = undecided_still _ _ _ _ c.in-Choose.cell c.status.ensures.world c.status.ensures.decided c.in-Choose.ensures.told.2

pub returns-then-not-step-clause-found : goal.returns-then-not-step-clause-found
returns-then-not-step-clause-found g c =
    at_end (g.B.Board.world c.args.board.now) (g.B.Board.world c.status.new.self) true true _ _ _ (c.status.ensures.world ∙ c.loop-board.invariant.world) c.loop-board.invariant.leaves c.if-not-step.ensures.leaves c.if-not-step.ensures.rises

pub loop-board-smaller : goal.loop-board-smaller
loop-board-smaller g c =
    smaller (g.B.Board.world c.args.board.now) (g.B.Board.world c.status.new.self) _ c.loop-board.frames c.step.new.frames.list (c.status.ensures.world ∙ c.loop-board.invariant.world)
    (still _ _ _ _ c.loop-board.frames c.status.ensures.world c.status.ensures.decided c.loop-board.invariant.standing) c.if-not-step.ensures.rises

pub loop-board-preserved : goal.loop-board-preserved
loop-board-preserved g c = record {
  world = c.step.ensures.world ∙ c.status.ensures.world ∙ c.loop-board.invariant.world;
  standing = c.step.ensures.standing;
  leaves = both (g.B.Board.world c.args.board.now) (g.B.Board.world c.status.new.self) true true true _ _ _ (c.status.ensures.world ∙ c.loop-board.invariant.world) c.loop-board.invariant.leaves c.if-not-step.ensures.leaves;
  came = goes_on_chosen (g.B.Board.world c.args.board.now) (g.B.Board.world c.status.new.self) (c.status.ensures.world ∙ c.loop-board.invariant.world) c.args.stop true c.args.frames.now.list c.loop-board.frames.list (g.C.Clock.times c.args.clock.now) (g.C.Clock.times c.loop-board.clock) true true c.step.new.frames.list _ c.loop-board.invariant.came c.if-not-step.ensures.comes c.late.ensures.goes;
  early = c.in_default.ensures.late;
}

pub back-requires-clause-stands : goal.back-requires-clause-stands
back-requires-clause-stands g c = stands_still _ _ _ _ Refuted c.status.ensures.world c.status.ensures.decided c.in-Refuted.ensures.stands

pub step-requires-clause-stands : goal.step-requires-clause-stands
step-requires-clause-stands g c = stands_still _ _ _ _ (Choose c.in-Choose.cell) c.status.ensures.world c.status.ensures.decided c.in-Choose.ensures.stands

pub step-requires-clause-closed : goal.step-requires-clause-closed
step-requires-clause-closed g c = c.in-Choose.ensures.closed c.in-Choose.cell refl

pub returns-in-Settled-clause-comes : goal.returns-in-Settled-clause-comes
returns-in-Settled-clause-comes g c =
    goes_to_leaf (g.B.Board.world c.args.board.now) (g.B.Board.world c.status.new.self) (c.status.ensures.world ∙ c.loop-board.invariant.world) c.args.stop true c.args.frames.now.list c.loop-board.frames.list (g.C.Clock.times c.args.clock.now) (g.C.Clock.times c.loop-board.clock) (g.B.Board.decided c.status.new.self) (still _ _ _ _ c.loop-board.frames c.status.ensures.world c.status.ensures.decided c.loop-board.invariant.standing).decided
    (stands_still _ _ _ _ Settled c.status.ensures.world c.status.ensures.decided c.in-Settled.ensures.stands) c.loop-board.invariant.came

pub returns-then-not-back-clause-comes : goal.returns-then-not-back-clause-comes
returns-then-not-back-clause-comes g c =
    goes_to_end (g.B.Board.world c.args.board.now) (g.B.Board.world c.status.new.self) (c.status.ensures.world ∙ c.loop-board.invariant.world) c.args.stop true c.args.frames.now.list c.loop-board.frames.list (g.C.Clock.times c.args.clock.now) (g.C.Clock.times c.loop-board.clock) c.back.new.frames.list _ c.if-not-back.ensures.rises
    (goes_on_by (g.B.Board.world c.args.board.now) (g.B.Board.world c.status.new.self) (c.status.ensures.world ∙ c.loop-board.invariant.world) c.args.stop true c.args.frames.now.list c.loop-board.frames.list (g.C.Clock.times c.args.clock.now) (g.C.Clock.times c.loop-board.clock) true false c.back.new.frames.list c.loop-board.invariant.came c.if-not-back.ensures.comes)

pub returns-in-Some-clause-comes : goal.returns-in-Some-clause-comes
returns-in-Some-clause-comes g c =
    goes_too_late (g.B.Board.world c.args.board.now) (g.B.Board.world c.status.new.self) (c.status.ensures.world ∙ c.loop-board.invariant.world) c.args.stop true c.args.frames.now.list c.loop-board.frames.list (g.C.Clock.times c.args.clock.now) (g.C.Clock.times c.loop-board.clock) (g.B.Board.decided c.status.new.self) c.in-Choose.cell c.in-Some.last _ (still _ _ _ _ c.loop-board.frames c.status.ensures.world c.status.ensures.decided c.loop-board.invariant.standing).decided
    (stands_still _ _ _ _ (Choose c.in-Choose.cell) c.status.ensures.world c.status.ensures.decided c.in-Choose.ensures.stands) c.loop-board.invariant.came c.late.ensures.goes

pub returns-then-not-step-clause-comes : goal.returns-then-not-step-clause-comes
returns-then-not-step-clause-comes g c =
    goes_to_end (g.B.Board.world c.args.board.now) (g.B.Board.world c.status.new.self) (c.status.ensures.world ∙ c.loop-board.invariant.world) c.args.stop true c.args.frames.now.list c.loop-board.frames.list (g.C.Clock.times c.args.clock.now) (g.C.Clock.times c.loop-board.clock) c.step.new.frames.list _ c.if-not-step.ensures.rises
    (goes_on_chosen (g.B.Board.world c.args.board.now) (g.B.Board.world c.status.new.self) (c.status.ensures.world ∙ c.loop-board.invariant.world) c.args.stop true c.args.frames.now.list c.loop-board.frames.list (g.C.Clock.times c.args.clock.now) (g.C.Clock.times c.loop-board.clock) true false c.step.new.frames.list _ c.loop-board.invariant.came c.if-not-step.ensures.comes c.late.ensures.goes)
