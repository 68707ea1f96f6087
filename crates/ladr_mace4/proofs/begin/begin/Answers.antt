use Rattle.std.proofs.Common.{ℕ}
use Rattle.std.proofs.lemmas.Result.{err_from_is_err_and}
use Rattle.ladr_mace4.specs.Lines.{size_line}
use Rattle.ladr_mace4.proofs.Items.{line_printed, line_cut}
use Rattle.ladr_mace4.proofs.begin.begin.Goals as goal

pub returns-in_err-print_item-clause-line : goal.returns-in_err-print_item-clause-line
returns-in_err-print_item-clause-line g c =
    let p = err_from_is_err_and c.from_residual.result c.from_residual.ensures.1 in
    rw (p.1, p.2) (line_cut ℕ (size_line c.args.n) _ _ c.in_err-print_item.field-0.0 c.in_err-print_item.ensures)

pub returns-in-Some-clause-line : goal.returns-in-Some-clause-line
returns-in-Some-clause-line g c = line_printed (size_line c.args.n) _ _ c.in_ok-print_item.ensures

pub returns-clause-line : goal.returns-clause-line
returns-clause-line g c = line_printed (size_line c.args.n) _ _ c.in_ok-print_item.ensures
