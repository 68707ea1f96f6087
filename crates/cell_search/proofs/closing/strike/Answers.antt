use Rattle.std.proofs.Common.{ℕ, ◌<◌, true, false, List, None, Some, inl, inr, sym, ap, ◌∙◌, subst, arith}
use Rattle.mace_cells.specs.Choices.{Decision}
use Rattle.mace_cells.specs.Trails.{Partial, HasTwoLeft}
use Rattle.mace_cells.specs.World.{cell_of, IsRefuted}
use Rattle.plain_search.specs.Closing.{asks}
use Rattle.cell_search.specs.Asking.{AreCrossedBut}
use Rattle.cell_search.specs.Following.{IsFollowed, StayWellLeft}
use Rattle.cell_search.specs.Losses.{decided_in}
use Rattle.cell_search.proofs.Growing.{grows_none, grows_crossed, grows_on}
use Rattle.cell_search.proofs.Boarding.{struck_off}
use Rattle.cell_search.proofs.Following.{less_one, missing_great, missing_struck, none_left, one_alone, some_left, taken, well_crossed}
use Rattle.cell_search.proofs.Leaving.{fits_in, nothing_left, one_left}
use Rattle.cell_search.proofs.closing.strike.Goals as goal

pub settle-requires-clause-board : goal.settle-requires-clause-board
settle-requires-clause-board c = struck_off c.args.setup.now c.args.trail.now c.cross.new.self c.bound-end.result c.args.cell c.args.value c.requires.board c.if-value-end.false c.bound-end.ensures.fits (sym c.is_crossed.ensures ∙ c.if-is_crossed.false) c.bound-end.ensures.bound c.requires.none c.cross.ensures

pub settle-requires-clause-only : goal.settle-requires-clause-only
settle-requires-clause-only c =
    let board = struck_off c.args.setup.now c.args.trail.now c.cross.new.self c.bound-end.result c.args.cell c.args.value c.requires.board c.if-value-end.false c.bound-end.ensures.fits (sym c.is_crossed.ensures ∙ c.if-is_crossed.false) c.bound-end.ensures.bound c.requires.none c.cross.ensures in
    one_left c.args.setup.now c.cross.new.self board c.args.cell c.requires.cell c.bound-end.result c.in-One.value c.bound-end.ensures.bound
    (fits_in c.args.setup.now c.cross.new.self board c.args.cell c.requires.cell c.bound-end.result c.bound-end.ensures.fits) c.in-One.ensures.1

pub returns-in-Nothing-clause-board : goal.returns-in-Nothing-clause-board
returns-in-Nothing-clause-board c = struck_off c.args.setup.now c.args.trail.now c.cross.new.self c.bound-end.result c.args.cell c.args.value c.requires.board c.if-value-end.false c.bound-end.ensures.fits (sym c.is_crossed.ensures ∙ c.if-is_crossed.false) c.bound-end.ensures.bound c.requires.none c.cross.ensures

pub returns-in-Nothing-clause-refuted : goal.returns-in-Nothing-clause-refuted
returns-in-Nothing-clause-refuted c = λ _.
    let board = struck_off c.args.setup.now c.args.trail.now c.cross.new.self c.bound-end.result c.args.cell c.args.value c.requires.board c.if-value-end.false c.bound-end.ensures.fits (sym c.is_crossed.ensures ∙ c.if-is_crossed.false) c.bound-end.ensures.bound c.requires.none c.cross.ensures in
    let none = nothing_left c.args.setup.now c.cross.new.self board c.args.cell c.requires.cell c.bound-end.result c.bound-end.ensures.bound
    (fits_in c.args.setup.now c.cross.new.self board c.args.cell c.requires.cell c.bound-end.result c.bound-end.ensures.fits) c.in-Nothing.ensures in
    subst (λ (ds : List Decision). IsRefuted c.args.setup.now ds) (ap (λ (t : Partial). decided_in c.args.setup.now t.entries) c.cross.ensures) none

pub returns-in-One-clause-refuted : goal.returns-in-One-clause-refuted
returns-in-One-clause-refuted c = λ over.
    subst (λ (ds : List Decision). IsRefuted c.args.setup.now ds) (ap (λ (t : Partial). decided_in c.args.setup.now t.entries) c.cross.ensures) (c.settle.ensures.refuted over)

pub returns-in-Several-clause-board : goal.returns-in-Several-clause-board
returns-in-Several-clause-board c = struck_off c.args.setup.now c.args.trail.now c.cross.new.self c.bound-end.result c.args.cell c.args.value c.requires.board c.if-value-end.false c.bound-end.ensures.fits (sym c.is_crossed.ensures ∙ c.if-is_crossed.false) c.bound-end.ensures.bound c.requires.none c.cross.ensures

pub returns-then-value-end-clause-follows : goal.returns-then-value-end-clause-follows
returns-then-value-end-clause-follows c = λ cells well.
    missing_great c.args.setup.now c.args.trail.now cells c.args.cell c.requires.cell c.args.value c.bound-end.result c.requires.blank well c.bound-end.ensures.bound c.if-value-end.true

pub returns-then-is_crossed-clause-follows : goal.returns-then-is_crossed-clause-follows
returns-then-is_crossed-clause-follows c = λ cells well.
    missing_struck c.args.setup.now c.args.trail.now cells c.args.cell c.requires.cell c.args.value c.requires.blank well (sym c.is_crossed.ensures ∙ c.if-is_crossed.true)

pub returns-in-Nothing-clause-follows : goal.returns-in-Nothing-clause-follows
returns-in-Nothing-clause-follows c = λ cells well.
    none_left c.args.setup.now c.args.trail.now c.args.cell c.args.value cells c.requires.cell c.requires.board.stride (omega (arith, c.if-value-end.false, c.bound-end.ensures.fits, c.requires.board.stride)) c.requires.blank
    (subst (λ (n : ℕ). AreCrossedBut (less_one c.args.trail.now c.args.cell c.args.value) c.args.cell n None) c.bound-end.ensures.bound
    (subst (λ (t : Partial). AreCrossedBut t c.args.cell c.bound-end.result None) c.cross.ensures c.in-Nothing.ensures))

pub returns-in-One-clause-follows : goal.returns-in-One-clause-follows
returns-in-One-clause-follows c = λ cells well.
    let within : c.args.value < c.args.trail.now.stride = omega (arith, c.if-value-end.false, c.bound-end.ensures.fits, c.requires.board.stride) in
    let left = some_left c.args.setup.now c.args.trail.now c.args.cell c.args.value cells c.requires.cell c.requires.board.stride within c.requires.blank well in
    let crossed = subst (λ (n : ℕ). AreCrossedBut (less_one c.args.trail.now c.args.cell c.args.value) c.args.cell n (Some c.in-One.value)) c.bound-end.ensures.bound
    (subst (λ (t : Partial). AreCrossedBut t c.args.cell c.bound-end.result (Some c.in-One.value)) c.cross.ensures c.in-One.ensures.1) in
    taken c.args.setup.now c.args.trail.now c.args.cell c.args.value cells c.requires.cell c.requires.board.stride within c.requires.blank left.0 left.1
    ∙ sym (one_alone c.args.setup.now c.args.trail.now c.args.cell c.args.value cells c.requires.cell c.requires.board.stride within c.requires.blank c.in-One.value left.0 left.1 crossed)
    ∙ subst (λ (t : Partial). IsFollowed c.args.setup.now t (asks (cell_of c.args.setup.now c.args.cell) c.in-One.value true) c.settle.result c.settle.new.trail) c.cross.ensures (c.settle.ensures.follows cells)

pub returns-in-Several-clause-follows : goal.returns-in-Several-clause-follows
returns-in-Several-clause-follows c = λ cells well.
    let within : c.args.value < c.args.trail.now.stride = omega (arith, c.if-value-end.false, c.bound-end.ensures.fits, c.requires.board.stride) in
    let left = some_left c.args.setup.now c.args.trail.now c.args.cell c.args.value cells c.requires.cell c.requires.board.stride within c.requires.blank well in
    subst (λ (t : Partial). IsFollowed c.args.setup.now c.args.trail.now (asks (cell_of c.args.setup.now c.args.cell) c.args.value false) true t) (sym c.cross.ensures)
    (taken c.args.setup.now c.args.trail.now c.args.cell c.args.value cells c.requires.cell c.requires.board.stride within c.requires.blank left.0 left.1)

pub returns-in-One-clause-well : goal.returns-in-One-clause-well
returns-in-One-clause-well c = λ yes.
    well_crossed c.args.setup.now c.args.trail.now c.args.cell c.args.value c.requires.board.stride (omega (arith, c.if-value-end.false, c.bound-end.ensures.fits, c.requires.board.stride)) c.settle.new.trail (inl (c.in-One.value, c.settle.ensures.given yes))
    (subst (λ (t : Partial). StayWellLeft c.args.setup.now t c.settle.new.trail) c.cross.ensures (c.settle.ensures.well yes))

pub returns-in-Several-clause-well : goal.returns-in-Several-clause-well
returns-in-Several-clause-well c = λ _.
    well_crossed c.args.setup.now c.args.trail.now c.args.cell c.args.value c.requires.board.stride (omega (arith, c.if-value-end.false, c.bound-end.ensures.fits, c.requires.board.stride)) c.cross.new.self
    (inr (subst (λ (n : ℕ). HasTwoLeft c.cross.new.self c.args.cell n) c.bound-end.ensures.bound c.in-Several.ensures))
    (subst (λ (t : Partial). StayWellLeft c.args.setup.now t c.cross.new.self) c.cross.ensures (λ k few h. h))

pub returns-in-Nothing-clause-grows : goal.returns-in-Nothing-clause-grows
returns-in-Nothing-clause-grows c = grows_crossed c.args.trail.now c.cross.new.self _ c.cross.ensures

pub returns-in-Several-clause-grows : goal.returns-in-Several-clause-grows
returns-in-Several-clause-grows c = grows_crossed c.args.trail.now c.cross.new.self _ c.cross.ensures

pub returns-in-One-clause-grows : goal.returns-in-One-clause-grows
returns-in-One-clause-grows c =
    grows_on c.args.trail.now c.cross.new.self c.settle.new.trail (grows_crossed c.args.trail.now c.cross.new.self _ c.cross.ensures) c.settle.ensures.grows

pub returns-then-value-end-clause-grows : goal.returns-then-value-end-clause-grows
returns-then-value-end-clause-grows c = grows_none c.args.trail.now

pub returns-then-is_crossed-clause-grows : goal.returns-then-is_crossed-clause-grows
returns-then-is_crossed-clause-grows c = grows_none c.args.trail.now
