use Rattle.std.proofs.Common.{List, sym, subst}
use Rattle.prover_steps.specs.Clashing.{Held}
use Rattle.prover_steps.specs.HeldOrder.{numbers_of, IsNoneOf}
use Rattle.clause_index.proofs.Filed.{all_stay, others_stay, one_taken}
use Rattle.clause_index.proofs.held_set.HeldSet.put_in.Goals as goal

pub invariant_of-self : goal.invariant_of-self
invariant_of-self c =
    others_stay c.args.held.number c.enter.new.self c.leave.new.self c.self.inside.listed c.leave.ensures
    (subst (λ (hs : List Held). IsNoneOf c.args.held.number (numbers_of hs)) (sym c.self.view_is) c.requires)
    (all_stay c.self.inside.finder c.enter.new.self c.self.inside.listed c.enter.ensures.others c.self.invariant)

pub invariant_of-self-2 : goal.invariant_of-self-2
invariant_of-self-2 c =
    one_taken c.put_in.result c.enter.new.self c.args.held c.self.inside.listed c.put_in.new.self c.put_in.ensures.ok c.put_in.ensures.err c.in_default.ensures.filed
    (all_stay c.self.inside.finder c.enter.new.self c.self.inside.listed c.enter.ensures.others c.self.invariant)
