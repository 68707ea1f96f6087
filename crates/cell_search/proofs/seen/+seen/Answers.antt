use Rattle.std.proofs.Common.{◌<◌, ℕ, List, Option, IfSome, sym, ap, ◌∙◌, subst, arith}
use Rattle.fol_core.specs.Tree.{Tree, trees_of, nodes_of}
use Rattle.mace_cells.specs.World.{many_cells}
use Rattle.mace_ground.specs.Cells.{found}
use Rattle.mace_ground.specs.Instances.{assigned_by}
use Rattle.mace_ground.specs.Spans.{span_of}
use Rattle.model_tables.proofs.Places.{argument_smaller}
use Rattle.cell_search.specs.Known.{all_seen}
use Rattle.cell_search.proofs.Seeing.{many_seen, number_unfit, found_at, room_on, end_within, ended}
use Rattle.cell_search.proofs.seen.+seen.Goals as goal

pub number-returns-then-not-fits-clause-number : goal.number-returns-then-not-fits-clause-number
number-returns-then-not-fits-clause-number t c =
    let w = c.args.setup.now in
    let es = c.args.trail.now.entries in
    let e = assigned_by c.args.env.now in
    sym (number_unfit w.size c.args.kind (span_of c.in_ok-span.span) (found w.size w.blocks c.args.symbol.0) c.len.result (found_at _ _ _ c.find.ensures c.in_ok-span.was) (all_seen w es e (trees_of c.args.terms.now))
    (λ xs h. many_seen w es e c.args.terms.now xs h ∙ sym c.len.ensures) (sym c.fits.ensures ∙ c.if-not-fits.true))

pub number-seen-requires : goal.number-seen-requires
number-seen-requires t c =
    let same = ap (λ (ts : List Tree). nodes_of (trees_of ts)) c.as_slice-term-items.ensures.trees in
    let part = argument_smaller c.as_slice-term-items.result.now c.loop-term.term-index c.term-item.result c.loop-term-test.true c.term-item.is in
    (omega (arith, c.decreases, same, part), c.requires)

pub number-onward-requires : goal.number-onward-requires
number-onward-requires t c =
    room_on c.args.setup.now c.args.kind c.args.symbol.0 c.len.result (span_of c.in_ok-span.span) (found_at _ _ _ c.find.ensures c.in_ok-span.was) (sym c.fits.ensures ∙ c.if-not-fits.false)
    c.size-size.result c.loop-term.place c.loop-term.term-index c.size-size.ensures.size c.size-size.ensures.some c.loop-term.invariant.fits
    (omega (arith, c.loop-term-test.true, c.as_slice-term-items.ensures.len, c.len.ensures)) (omega (arith, c.cells-cells.ensures))

pub number-at_place-requires : goal.number-at_place-requires
number-at_place-requires t c =
    let within = end_within c.args.setup.now c.args.kind c.args.symbol.0 c.len.result (span_of c.in_ok-span.span) (found_at _ _ _ c.find.ensures c.in_ok-span.was) (sym c.fits.ensures ∙ c.if-not-fits.false)
    c.size-size.result c.loop-term.place c.loop-term.term-index c.size-size.ensures.size c.loop-term.invariant.fits
    (omega (arith, c.loop-term-test.false, c.loop-term.auto, c.as_slice-term-items.ensures.len, c.len.ensures)) in
    omega (arith, within, c.cells-cells.ensures)

pub number-returns-clause-number : goal.number-returns-clause-number
number-returns-clause-number t c =
    c.at_place.ensures
    ∙ ended c.args.setup.now c.args.kind c.args.symbol.0 c.len.result (span_of c.in_ok-span.span) (found_at _ _ _ c.find.ensures c.in_ok-span.was) (sym c.fits.ensures ∙ c.if-not-fits.false)
    c.args.trail.now.entries (assigned_by c.args.env.now) c.args.terms.now c.as_slice-term-items.result.now c.size-size.result c.loop-term.place c.loop-term.term-index c.size-size.ensures.size c.len.ensures
    c.as_slice-term-items.ensures.trees (omega (arith, c.loop-term-test.false)) c.loop-term.invariant.leads

pub number-returns-clause-within : goal.number-returns-clause-within
number-returns-clause-within t c =
    let within = end_within c.args.setup.now c.args.kind c.args.symbol.0 c.len.result (span_of c.in_ok-span.span) (found_at _ _ _ c.find.ensures c.in_ok-span.was) (sym c.fits.ensures ∙ c.if-not-fits.false)
    c.size-size.result c.loop-term.place c.loop-term.term-index c.size-size.ensures.size c.loop-term.invariant.fits
    (omega (arith, c.loop-term-test.false, c.loop-term.auto, c.as_slice-term-items.ensures.len, c.len.ensures)) in
    subst (λ (o : Option ℕ). IfSome o (λ (k : ℕ). k < many_cells c.args.setup.now)) (sym c.at_place.ensures) within
