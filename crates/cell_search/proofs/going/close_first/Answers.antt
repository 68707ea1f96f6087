use Rattle.std.proofs.Common.{ℕ, List, length, refl, sym, ◌∙◌, subst}
use Rattle.mace_cells.specs.Choices.{Decision}
use Rattle.mace_cells.specs.World.{IsRefuted}
use Rattle.cell_search.proofs.Closed.{first_closes, first_fails}
use Rattle.cell_search.proofs.Gone.{gone_at_first}
use Rattle.cell_search.proofs.Growing.{grows_on}
use Rattle.cell_search.specs.Ways.{AreWays}
use Rattle.cell_search.proofs.going.close_first.Goals as goal

pub returns-then-not-begin-clause-refuted : goal.returns-then-not-begin-clause-refuted
returns-then-not-begin-clause-refuted c = λ _. subst (λ (ds : List Decision). IsRefuted c.args.setup.now ds) c.settle_single.ensures.decided (c.if-not-begin.ensures.refuted refl)

pub returns-then-not-begin-clause-closes : goal.returns-then-not-begin-clause-closes
returns-then-not-begin-clause-closes c = λ ways whole each none free.
    first_fails c.args.setup.now c.args.trail.now c.settle_single.new.trail c.begin.new.trail ways.cells none free (c.if-not-settle_single.ensures.follows ways.cells free) (c.if-not-settle_single.ensures.well refl free)
    c.if-not-begin.ensures.goes

pub returns-clause-grows : goal.returns-clause-grows
returns-clause-grows c =
    grows_on c.args.trail.now c.begin.new.trail c.close.new.trail
    (grows_on c.args.trail.now c.settle_single.new.trail c.begin.new.trail c.settle_single.ensures.grows c.begin.ensures.grows) c.close.ensures.grows

pub returns-clause-refuted : goal.returns-clause-refuted
returns-clause-refuted c = λ over. subst (λ (ds : List Decision). IsRefuted c.args.setup.now ds) (c.begin.ensures.decided ∙ c.settle_single.ensures.decided) (c.close.ensures.refuted over)

pub returns-clause-closes : goal.returns-clause-closes
returns-clause-closes c = λ ways whole each none free.
    let w = c.args.setup.now in
    let t1 = c.settle_single.new.trail in
    let t2 = c.begin.new.trail in
    let well = c.if-not-settle_single.ensures.well refl free in
    let first = c.if-not-begin.ensures.goes in
    let gone =
    gone_at_first w t1 t2 (length c.args.walks.now) ways.cells well c.begin.ensures.board.fresh c.begin.ensures.grows each (c.if-not-begin.ensures.covers refl whole ways.room) in
    first_closes w c.args.trail.now t1 t2 c.close.result c.close.new.trail ways.cells none free (c.if-not-settle_single.ensures.follows ways.cells free) well first c.close.ensures.goes
    (c.close.ensures.closes (subst (λ (n : ℕ). AreWays w c.args.groups.now n) (sym c.begin.ensures.many) ways) ((first ways.cells well).1 refl) gone)

pub returns-clause-well : goal.returns-clause-well
returns-clause-well c = λ cells free done.
    let well = c.if-not-settle_single.ensures.well refl free in
    (c.close.ensures.goes cells ((c.if-not-begin.ensures.goes cells well).1 refl)).1 done
