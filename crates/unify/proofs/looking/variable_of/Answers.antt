-- The number of a variable in its context fits.
use Rattle.std.proofs.Common.{rules, ◌+◌, ◌<◌}
use Rattle.unify.proofs.Seen.{sum_fits}
use Rattle.unify.proofs.looking.variable_of.Goals as goal

pub overflow_add-result : goal.overflow_add-result
overflow_add-result c =
    let h : c.in-Var.x + c.args.spot.context < 18446744073709551616 = sum_fits c.args.bank.now c.args.spot c.in-Var.x c.requires c.in-Var.ensures.tree in
    search (rules, h)
