use Rattle.clause_index.proofs.Gathering.{set_out}
use Rattle.clause_index.proofs.listed.Listed.leave_out_one.Goals as goal

pub invariant_of-self : goal.invariant_of-self
invariant_of-self c =
    set_out c.args.number c.self.inside.clauses.items c.leave_out_one.new.list.items c.self.inside.positives c.remove.new.self c.self.inside.negatives c.remove-2.new.self c.self.invariant c.remove.ensures c.remove-2.ensures c.leave_out_one.ensures
