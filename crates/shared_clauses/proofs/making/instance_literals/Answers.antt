-- A literal more.
use Rattle.std.proofs.Common.{refl, subst}
use Rattle.fol_core.specs.Substitutions.{substitute}
use Rattle.fol_core.specs.TermView.{tree_of}
use Rattle.shared_clauses.specs.Bound.{bound_in}
use Rattle.substitutions.specs.Bindings.{by_bindings}
use Rattle.term_bank.specs.Bank.{IsAt}
use Rattle.shared_clauses.proofs.MakeSteps.{bound_grows, instance_next}
use Rattle.shared_clauses.proofs.making.instance_literals.Goals as goal

pub loop-literal-preserved : goal.loop-literal-preserved
loop-literal-preserved c = record {
  bound = bound_grows c.loop-literal.bank c.put_with.new.bank c.args.values.now c.in_ok-bindings.bindings.items c.in_ok-put_with.ensures.grows c.loop-literal.invariant.bound;
  made = instance_next (by_bindings c.args.values.now) c.args.values.now c.in_ok-bindings.bindings.items c.loop-literal.bank c.put_with.new.bank c.deref-literal-items.result.now c.loop-literal.literal-index c.literal-item.result c.loop-literal.made.items c.push.new.self.items c.in_ok-put_with.field-0
      refl c.loop-literal.invariant.bound c.loop-literal-test.true c.literal-item.is c.loop-literal.invariant.made c.in_ok-put_with.ensures.grows
      (subst (λ l. IsAt c.put_with.new.bank c.in_ok-put_with.field-0.0 (substitute (by_bindings (bound_in c.loop-literal.bank l)) (tree_of c.literal-item.result.atom))) c.as_slice.ensures.value c.in_ok-put_with.ensures.term) c.in_ok-push.ensures.items;
}
