use Rattle.std.proofs.Common.{ℕ, true, false, List, refl, sym, ◌∙◌, subst}
use Rattle.mace_cells.specs.Choices.{Decision}
use Rattle.mace_cells.specs.World.{IsRefuted}
use Rattle.cell_search.proofs.Growing.{grows_none, grows_on}
use Rattle.cell_search.proofs.Passing.{goes_nowhere, goes_on}
use Rattle.cell_search.proofs.Spreading.{whole_more, whole_none}
use Rattle.cell_search.specs.Full.{HaveVariables}
use Rattle.cell_search.proofs.going.begin.Goals as goal

pub returns-then-not-go-clause-refuted : goal.returns-then-not-go-clause-refuted
returns-then-not-go-clause-refuted c = λ _. subst (λ (ds : List Decision). IsRefuted c.args.setup.now ds) c.loop-walk.invariant.decided (c.if-not-go.ensures.refuted refl)

pub returns-then-not-go-clause-goes : goal.returns-then-not-go-clause-goes
returns-then-not-go-clause-goes c =
    goes_on c.args.setup.now c.args.trail.now c.loop-walk.trail false c.go.new.trail c.loop-walk.invariant.goes c.if-not-go.ensures.goes

pub loop-walk-preserved : goal.loop-walk-preserved
loop-walk-preserved c = record {
  grows = grows_on c.args.trail.now c.loop-walk.trail c.go.new.trail c.loop-walk.invariant.grows c.go.ensures.grows;
  board = c.go.ensures.board;
  decided = c.go.ensures.decided ∙ c.loop-walk.invariant.decided;
  env = c.go.ensures.env;
  goes = goes_on c.args.setup.now c.args.trail.now c.loop-walk.trail true c.go.new.trail c.loop-walk.invariant.goes c.if-not-go.ensures.goes;
  many = c.go.ensures.many ∙ c.loop-walk.invariant.many;
  covers = λ whole room.
      whole_more c.args.setup.now c.args.walks.now c.loop-walk.walk-index c.walk-item.result c.loop-walk.env c.args.trail.now c.loop-walk.trail c.go.new.trail whole
      (subst (λ (n : ℕ). HaveVariables c.args.setup.now.clauses n) (sym c.loop-walk.invariant.many) room) c.loop-walk.invariant.env c.loop-walk-test.true c.walk-item.is c.loop-walk.invariant.goes
      (c.loop-walk.invariant.covers whole room) c.if-not-go.ensures.goes (c.if-not-go.ensures.covers refl);
}

pub loop-walk-init : goal.loop-walk-init
loop-walk-init c = record {
  grows = grows_none c.args.trail.now;
  board = c.requires.board;
  decided = refl;
  env = c.requires.env;
  goes = goes_nowhere c.args.setup.now c.args.trail.now;
  many = refl;
  covers = λ whole room. whole_none c.args.setup.now c.args.trail.now c.args.trail.now;
}

pub returns-then-not-go-clause-grows : goal.returns-then-not-go-clause-grows
returns-then-not-go-clause-grows c = grows_on c.args.trail.now c.loop-walk.trail c.go.new.trail c.loop-walk.invariant.grows c.go.ensures.grows
