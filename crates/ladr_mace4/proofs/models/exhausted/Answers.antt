use Rattle.std.proofs.Common.{ℕ}
use Rattle.std.proofs.lemmas.Result.{err_from_is_err_and}
use Rattle.ladr_mace4.specs.Lines.{exhausted_line}
use Rattle.ladr_mace4.proofs.Items.{line_printed, line_cut}
use Rattle.ladr_mace4.proofs.models.exhausted.Goals as goal

pub returns-in_err-print_item-clause-piece : goal.returns-in_err-print_item-clause-piece
returns-in_err-print_item-clause-piece g c =
    let p = err_from_is_err_and c.from_residual.result c.from_residual.ensures.1 in
    rw (p.1, p.2) (line_cut ℕ (exhausted_line c.args.n) _ _ c.in_err-print_item.field-0.0 c.in_err-print_item.ensures)

pub returns-clause-piece : goal.returns-clause-piece
returns-clause-piece g c = line_printed (exhausted_line c.args.n) _ _ c.in_ok-print_item.ensures
