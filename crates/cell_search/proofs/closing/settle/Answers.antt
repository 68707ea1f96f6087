use Rattle.std.proofs.Common.{◌≡◌, true, false, Some, length, refl, sym, ap, ◌∙◌, subst, arith}
use Rattle.mace_cells.specs.Trails.{Partial, value_in}
use Rattle.mace_cells.specs.World.{cell_of}
use Rattle.plain_search.specs.Closing.{asks}
use Rattle.cell_search.specs.Following.{IsFollowed, StayWellLeft}
use Rattle.cell_search.specs.Losses.{IsBoard}
use Rattle.cell_search.proofs.Boarding.{entry, assigned, kept_by}
use Rattle.cell_search.proofs.Growing.{grows_none, grows_step}
use Rattle.cell_search.proofs.Following.{gets, struck_off, too_great, well_assigned}
use Rattle.cell_search.proofs.Leaving.{out_of_range, struck_out}
use Rattle.cell_search.proofs.closing.settle.Goals as goal

pub returns-then-value-bound-clause-refuted : goal.returns-then-value-bound-clause-refuted
returns-then-value-bound-clause-refuted c = λ _.
    out_of_range c.args.setup.now c.args.trail.now c.requires.board c.args.cell c.requires.cell c.args.value c.bound.result c.requires.only c.bound.ensures.bound c.if-value-bound.true

pub overflow_cast-value : goal.overflow_cast-value
overflow_cast-value c = omega (arith, c.if-value-bound.false, c.bound.ensures.byte)

pub returns-then-is_crossed-clause-refuted : goal.returns-then-is_crossed-clause-refuted
returns-then-is_crossed-clause-refuted c = λ _.
    struck_out c.args.setup.now c.args.trail.now c.requires.board c.args.cell c.requires.cell c.args.value c.requires.only
    (omega (arith, c.if-value-bound.false, c.bound.ensures.fits, c.requires.board.stride)) (sym c.is_crossed.ensures ∙ c.if-is_crossed.true)

pub returns-clause-board : goal.returns-clause-board
returns-clause-board c =
    subst (λ (t : Partial). IsBoard c.args.setup.now t) (sym c.assign.ensures) (assigned c.args.setup.now c.args.trail.now c.requires.board c.args.cell c.args.value _ c.requires.cell c.requires.blank c.requires.only)

pub returns-clause-kept : goal.returns-clause-kept
returns-clause-kept c = λ k v h.
    subst (λ (t : Partial). value_in t.entries k ≡ Some v) (sym c.assign.ensures) (kept_by (entry c.args.cell c.args.value false (length c.args.trail.now.crossings)) c.args.trail.now.entries c.requires.blank k v h)

pub returns-then-value-bound-clause-follows : goal.returns-then-value-bound-clause-follows
returns-then-value-bound-clause-follows c = λ cells.
    too_great c.args.setup.now c.args.trail.now cells c.args.cell c.requires.cell c.args.value c.bound.result c.requires.blank c.bound.ensures.bound c.if-value-bound.true

pub returns-then-is_crossed-clause-follows : goal.returns-then-is_crossed-clause-follows
returns-then-is_crossed-clause-follows c = λ cells.
    struck_off c.args.setup.now c.args.trail.now cells c.args.cell c.requires.cell c.args.value c.requires.blank (sym c.is_crossed.ensures ∙ c.if-is_crossed.true)

pub returns-clause-follows : goal.returns-clause-follows
returns-clause-follows c = λ cells.
    subst (λ (t : Partial). IsFollowed c.args.setup.now c.args.trail.now (asks (cell_of c.args.setup.now c.args.cell) c.args.value true) true t) (sym c.assign.ensures)
    (gets c.args.setup.now c.args.trail.now cells c.args.cell c.requires.cell (entry c.args.cell c.args.value false (length c.args.trail.now.crossings)) refl c.requires.blank
    (omega (arith, c.if-value-bound.false, c.bound.ensures.bound)) (sym c.is_crossed.ensures ∙ c.if-is_crossed.false))

pub returns-clause-well : goal.returns-clause-well
returns-clause-well c = λ _.
    subst (λ (t : Partial). StayWellLeft c.args.setup.now c.args.trail.now t) (sym c.assign.ensures)
    (well_assigned c.args.setup.now c.args.trail.now (entry c.args.cell c.args.value false (length c.args.trail.now.crossings)) c.requires.blank)

pub returns-clause-grows : goal.returns-clause-grows
returns-clause-grows c = grows_step c.args.trail.now c.assign.new.self (entry c.args.cell c.args.value false (length c.args.trail.now.crossings)) refl c.assign.ensures

pub returns-clause-crossings : goal.returns-clause-crossings
returns-clause-crossings c = ap (λ (t : Partial). t.crossings) c.assign.ensures

pub returns-then-value-bound-clause-grows : goal.returns-then-value-bound-clause-grows
returns-then-value-bound-clause-grows c = grows_none c.args.trail.now

pub returns-then-is_crossed-clause-grows : goal.returns-then-is_crossed-clause-grows
returns-then-is_crossed-clause-grows c = grows_none c.args.trail.now
