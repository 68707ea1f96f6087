use Rattle.std.proofs.Common.{ap, sym, ◌∙◌, arith}
use Rattle.std.proofs.lemmas.Result.{IfOk-weaker}
use Rattle.mace_ground.specs.Spans.{span_of}
use Rattle.cell_search.specs.Finites.{cell_values, values_in}
use Rattle.cell_search.proofs.Seeing.{found_at, found_within, power_is}
use Rattle.cell_search.proofs.tables.values.Goals as goal

pub overflow_cast-many : goal.overflow_cast-many
overflow_cast-many c =
    let end = (found_within c.args.setup.now.size 0 c.args.setup.now.blocks c.args.symbol.0 (span_of c.in-Some.span) (found_at _ _ _ c.find.ensures c.in-Some.is)).1 in
    let many = power_is _ _ _ _ _ _ _ c.size.ensures.size c.from.ensures c.power-many.ensures end (omega (arith, c.cells-cells.ensures)) in
    omega (arith, end, many, c.cells-cells.ensures)

pub cell_values-requires-clause-within : goal.cell_values-requires-clause-within
cell_values-requires-clause-within c =
    let end = (found_within c.args.setup.now.size 0 c.args.setup.now.blocks c.args.symbol.0 (span_of c.in-Some.span) (found_at _ _ _ c.find.ensures c.in-Some.is)).1 in
    let many = power_is _ _ _ _ _ _ _ c.size.ensures.size c.from.ensures c.power-many.ensures end (omega (arith, c.cells-cells.ensures)) in
    omega (arith, end, many, c.cells-cells.ensures)

pub returns-in-Some : goal.returns-in-Some
returns-in-Some c =
    let w = c.args.setup.now in
    let es = c.args.trail.now.entries in
    let there = found_at _ _ _ c.find.ensures c.in-Some.is in
    let end = (found_within w.size 0 w.blocks c.args.symbol.0 (span_of c.in-Some.span) there).1 in
    let many = power_is _ _ _ _ _ _ _ c.size.ensures.size c.from.ensures c.power-many.ensures end (omega (arith, c.cells-cells.ensures)) in
    IfOk-weaker c.cell_values.result _ _ (λ v is. is ∙ ap (cell_values es c.in-Some.span.first) many ∙ ap (values_in w es) (sym there)) c.cell_values.ensures
