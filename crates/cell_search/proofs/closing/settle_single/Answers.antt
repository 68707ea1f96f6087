use Rattle.std.proofs.Common.{List, refl, ◌∙◌, subst, arith}
use Rattle.mace_cells.specs.Choices.{Decision}
use Rattle.mace_cells.specs.World.{IsRefuted}
use Rattle.cell_search.proofs.Beginning.{begins_well}
use Rattle.cell_search.proofs.Growing.{grows_none, grows_on}
use Rattle.cell_search.proofs.Leaving.{single_more}
use Rattle.cell_search.proofs.closing.settle_single.Goals as goal

pub loop-cell-preserved : goal.loop-cell-preserved
loop-cell-preserved c = record {
  crossings = c.settle_one.ensures.crossings ∙ c.loop-cell.invariant.crossings;
  follows = λ cells none. c.loop-cell.invariant.follows cells none ∙ c.if-not-settle_one.ensures.follows cells (c.loop-cell.invariant.crossings ∙ none);
  grows = grows_on c.args.trail.now c.loop-cell.trail c.settle_one.new.trail c.loop-cell.invariant.grows c.settle_one.ensures.grows;
  board = c.settle_one.ensures.board;
  decided = c.settle_one.ensures.decided ∙ c.loop-cell.invariant.decided;
  given = single_more c.args.setup.now c.loop-cell.trail.entries c.settle_one.new.trail.entries c.loop-cell.cell c.loop-cell.invariant.given c.settle_one.ensures.kept (c.if-not-settle_one.ensures.given refl);
}

pub returns-then-not-settle_one-clause-refuted : goal.returns-then-not-settle_one-clause-refuted
returns-then-not-settle_one-clause-refuted c = λ _. subst (λ (ds : List Decision). IsRefuted c.args.setup.now ds) c.loop-cell.invariant.decided (c.if-not-settle_one.ensures.refuted refl)

pub returns-then-not-settle_one-clause-grows : goal.returns-then-not-settle_one-clause-grows
returns-then-not-settle_one-clause-grows c = grows_on c.args.trail.now c.loop-cell.trail c.settle_one.new.trail c.loop-cell.invariant.grows c.settle_one.ensures.grows

pub returns-then-not-settle_one-clause-follows : goal.returns-then-not-settle_one-clause-follows
returns-then-not-settle_one-clause-follows c = λ cells none. c.loop-cell.invariant.follows cells none ∙ c.if-not-settle_one.ensures.follows cells (c.loop-cell.invariant.crossings ∙ none)

pub returns-clause-well : goal.returns-clause-well
returns-clause-well c = λ _ none.
    begins_well c.args.setup.now c.loop-cell.trail c.requires.some (c.loop-cell.invariant.crossings ∙ none) (λ k few. c.loop-cell.invariant.given k (omega (arith, few, c.loop-cell-test.false)))

pub loop-cell-init : goal.loop-cell-init
loop-cell-init c = record {
  grows = grows_none c.args.trail.now;
  crossings = refl;
  follows = λ cells none. refl;
  board = c.requires;
  decided = refl;
  given = λ k less. absurd (omega (arith, less));
}
