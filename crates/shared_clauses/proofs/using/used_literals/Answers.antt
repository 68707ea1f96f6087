-- A literal more.
use Rattle.fol_core.specs.TermView.{tree_of}
use Rattle.shared_clauses.proofs.BoundSteps.{bound_more}
use Rattle.term_bank.proofs.Building.{grows_on}
use Rattle.shared_clauses.proofs.UsedSteps.{used_next, used_with}
use Rattle.shared_clauses.proofs.using.used_literals.Goals as goal

pub used_term-requires : goal.used_term-requires
used_term-requires c = bound_more c.args.bank.now c.loop-literal.bank c.args.bindings.now c.loop-literal.invariant.grows c.requires

pub loop-literal-preserved : goal.loop-literal-preserved
loop-literal-preserved c = record {
  grows = grows_on c.args.bank.now c.loop-literal.bank c.used_term.new.bank c.loop-literal.invariant.grows c.in_ok-used_term.ensures.grows;
  made = used_next (used_with (tree_of c.args.general.now) c.args.fresh) c.args.bindings.now c.args.bank.now c.loop-literal.bank c.used_term.new.bank c.deref-literal-items.result.now c.loop-literal.literal-index c.literal-item.result c.loop-literal.made.items c.push.new.self.items c.in_ok-used_term.field-0
      c.requires c.loop-literal.invariant.grows c.loop-literal-test.true c.literal-item.is c.loop-literal.invariant.made c.in_ok-used_term.ensures.grows c.in_ok-used_term.ensures.term c.in_ok-push.ensures.items;
}
