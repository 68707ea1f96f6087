use Rattle.std.proofs.Common.{sym, subst}
use Rattle.clause_index.specs.Filing.{AreFiled}
use Rattle.clause_index.proofs.Filed.{one_gone}
use Rattle.clause_index.proofs.held_set.HeldSet.leave_out_one.Goals as goal

pub invariant_of-self : goal.invariant_of-self
invariant_of-self c =
    subst (AreFiled c.leave.new.finder) (sym c.leave_out_one.ensures)
    (one_gone c.args.number c.self.inside.finder c.leave.new.finder c.self.inside.listed c.leave.ensures c.self.invariant)
