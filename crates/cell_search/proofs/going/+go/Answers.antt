use Rattle.std.proofs.Common.{ℕ, ◌+◌, true, false, List, length, drop, get_or, refl, sym, ap, ◌∙◌, subst, arith}
use Rattle.std.proofs.lemmas.List.{get_or_default, length-set}
use Rattle.mace_cells.specs.Choices.{Decision}
use Rattle.mace_cells.specs.World.{IsRefuted}
use Rattle.cell_search.specs.Covering.{AgreeOutside, Covers}
use Rattle.cell_search.proofs.Growing.{grows_none, grows_on}
use Rattle.cell_search.proofs.Covering.{covers_all, covers_first, covers_last, covers_next, covers_none, covers_single, frame_more}
use Rattle.cell_search.proofs.Passing.{goes_nowhere, goes_on}
use Rattle.cell_search.proofs.going.+go.Goals.{then-at-len-via-then-at-len, then-at-len-via-else-at-len+then-size-eq1}
use Rattle.cell_search.proofs.going.+go.Goals as goal

pub returns-then-not-go-clause-refuted : goal.returns-then-not-go-clause-refuted
returns-then-not-go-clause-refuted t c = λ _. subst (λ (ds : List Decision). IsRefuted c.args.setup.now ds) c.loop-element.invariant.decided (c.if-not-go.ensures.refuted refl)

pub returns-then-not-go-clause-goes : goal.returns-then-not-go-clause-goes
returns-then-not-go-clause-goes t c =
    goes_on c.args.setup.now c.args.trail.now c.loop-element.trail false c.go.new.trail c.loop-element.invariant.goes c.if-not-go.ensures.goes

pub loop-element-preserved : goal.loop-element-preserved
loop-element-preserved t c = record {
  grows = grows_on c.args.trail.now c.loop-element.trail c.go.new.trail c.loop-element.invariant.grows c.go.ensures.grows;
  board = c.go.ensures.board;
  decided = c.go.ensures.decided ∙ c.loop-element.invariant.decided;
  env = c.go.ensures.env;
  goes = goes_on c.args.setup.now c.args.trail.now c.loop-element.trail true c.go.new.trail c.loop-element.invariant.goes c.if-not-go.ensures.goes;
  frame =
      frame_more c.args.walk.now.order.items c.args.at c.index.result.now (omega (arith, c.if-at-len.false, c.len.ensures)) c.index.ensures c.go.new.env c.loop-element.env c.args.env.now c.loop-element.element c.loop-element.invariant.frame
      (subst (λ (xs : List ℕ). AgreeOutside (drop (c.args.at + 1) c.args.walk.now.order.items) c.go.new.env xs) c.set.ensures.set c.go.ensures.frame);
  many =
      c.go.ensures.many ∙ ap (λ (xs : List ℕ). length xs) c.set.ensures.set ∙ length-set c.loop-element.env c.index.result.now c.loop-element.element
      ∙ c.loop-element.invariant.many;
  covers =
      covers_next c.args.setup.now c.args.walk.now c.args.cell c.args.at c.index.result.now c.args.env.now c.loop-element.env c.args.trail.now c.loop-element.trail c.go.new.trail c.loop-element.element
      (omega (arith, c.if-at-len.false, c.len.ensures)) c.index.ensures c.loop-element.invariant.goes c.loop-element.invariant.covers c.loop-element.invariant.frame c.loop-element.invariant.many c.if-not-go.ensures.goes
      (subst (λ (xs : List ℕ). Covers c.args.setup.now c.args.walk.now c.args.cell (c.args.at + 1) xs c.loop-element.trail c.go.new.trail) c.set.ensures.set (c.if-not-go.ensures.covers refl));
}

pub returns-then-not-is_here-clause-covers : goal.returns-then-not-is_here-clause-covers
returns-then-not-is_here-clause-covers t c = λ _.
    covers_none c.args.setup.now c.args.walk.now c.args.cell c.args.at c.args.env.now c.args.trail.now c.is_here.result c.if-at-walk.true c.is_here.ensures c.if-not-is_here.true

pub returns-then-at-len-clause-covers : goal.returns-then-at-len-clause-covers
returns-then-at-len-clause-covers t c = λ done.
    elim c.then-at-len.branch [
      | then-at-len-via-then-at-len v ↦ covers_last c.args.setup.now c.args.walk.now c.args.cell c.args.at c.args.env.now c.args.trail.now c.pursue.new.trail (λ cells well d is. c.pursue.ensures.looked cells well done d is) (omega (arith, v.if-at-len.true, c.len.ensures))
      | then-at-len-via-else-at-len+then-size-eq1 v ↦
          covers_single c.args.setup.now c.args.walk.now c.args.cell c.args.at c.args.env.now c.args.trail.now c.pursue.new.trail (λ cells well d is. c.pursue.ensures.looked cells well done d is)
          (omega (arith, v.if-size-eq1.true, c.size-size.ensures.size)) c.requires.env
    ]

pub returns-clause-covers : goal.returns-clause-covers
returns-clause-covers t c = λ _.
    covers_all c.args.setup.now c.args.walk.now c.args.cell c.args.at (get_or c.args.walk.now.order.items c.args.at 0) c.args.env.now c.args.trail.now c.loop-element.trail c.loop-element.element
    (sym (get_or_default c.args.walk.now.order.items c.args.at _ 0 (omega (arith, c.if-at-len.false, c.len.ensures))))
    (omega (arith, c.loop-element-test.false, c.size-size.ensures.size)) c.loop-element.invariant.covers

pub returns-then-not-go-clause-grows : goal.returns-then-not-go-clause-grows
returns-then-not-go-clause-grows t c = grows_on c.args.trail.now c.loop-element.trail c.go.new.trail c.loop-element.invariant.grows c.go.ensures.grows

pub returns-then-not-is_here-clause-grows : goal.returns-then-not-is_here-clause-grows
returns-then-not-is_here-clause-grows t c = grows_none c.args.trail.now

pub loop-element-init : goal.loop-element-init
loop-element-init t c = record {
  grows = grows_none c.args.trail.now;
  board = c.requires.board;
  decided = refl;
  env = c.requires.env;
  goes = goes_nowhere c.args.setup.now c.args.trail.now;
  frame = λ x away. refl;
  many = refl;
  covers = covers_first c.args.setup.now c.args.walk.now c.args.cell c.args.at c.args.env.now c.args.trail.now c.args.trail.now;
}
