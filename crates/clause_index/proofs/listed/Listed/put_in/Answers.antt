use Rattle.std.proofs.Common.{sym, subst}
use Rattle.prover_steps.specs.HeldOrder.{numbers_of, IsNoneOf}
use Rattle.clause_index.proofs.Gathering.{none_positive, none_negative, set_with, one_back, both_back}
use Rattle.clause_index.proofs.listed.Listed.put_in.Goals as goal

pub enter-requires : goal.enter-requires
enter-requires c =
    none_positive c.args.held c.number-number.result c.self.inside.clauses.items c.self.inside.positives c.self.inside.negatives c.self.invariant
    (subst (λ hs. IsNoneOf c.args.held.number (numbers_of hs)) (sym c.self.view_is) c.requires) c.number-number.ensures

pub enter-requires-2 : goal.enter-requires-2
enter-requires-2 c =
    none_negative c.args.held c.number-number.result c.self.inside.clauses.items c.self.inside.positives c.self.inside.negatives c.self.invariant
    (subst (λ hs. IsNoneOf c.args.held.number (numbers_of hs)) (sym c.self.view_is) c.requires) c.number-number.ensures

pub invariant_of-self-in-Err : goal.invariant_of-self-in-Err
invariant_of-self-in-Err c =
    one_back c.args.held c.number-number.result c.self.inside.clauses.items c.self.inside.positives c.self.inside.negatives c.self.invariant
    (subst (λ hs. IsNoneOf c.args.held.number (numbers_of hs)) (sym c.self.view_is) c.requires) c.number-number.ensures
    c.enter.new.index c.remove.new.self c.enter-2.new.index c.in_ok-enter.ensures.ok c.remove.ensures c.in-Err.ensures.err

pub invariant_of-self-in-Ok : goal.invariant_of-self-in-Ok
invariant_of-self-in-Ok c =
    set_with c.args.held c.number-number.result c.self.inside.clauses.items c.self.inside.positives c.self.inside.negatives c.self.invariant
    (subst (λ hs. IsNoneOf c.args.held.number (numbers_of hs)) (sym c.self.view_is) c.requires) c.number-number.ensures
    c.put_in.new.list.items c.enter.new.index c.enter-2.new.index c.in-Ok.ensures.ok c.in_ok-enter.ensures.ok c.in_default.ensures.ok

pub invariant_of-self-in-Err-put_in : goal.invariant_of-self-in-Err-put_in
invariant_of-self-in-Err-put_in c =
    both_back c.args.held c.number-number.result c.self.inside.clauses.items c.self.inside.positives c.self.inside.negatives c.self.invariant
    (subst (λ hs. IsNoneOf c.args.held.number (numbers_of hs)) (sym c.self.view_is) c.requires) c.number-number.ensures
    c.put_in.new.list.items c.enter.new.index c.remove-in-Err-put_in.new.self c.enter-2.new.index c.remove-in-Err-put_in-2.new.self
    c.in-Err-put_in.ensures.err c.in_ok-enter.ensures.ok c.remove-in-Err-put_in.ensures c.in_default.ensures.ok c.remove-in-Err-put_in-2.ensures
