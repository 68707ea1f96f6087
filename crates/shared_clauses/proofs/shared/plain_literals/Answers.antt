-- A literal more.
use Rattle.std.proofs.Common.{false}
use Rattle.std.proofs.lemmas.List.{get_or_default}
use Rattle.shared_clauses.proofs.FollowSteps.{atom_within}
use Rattle.shared_clauses.proofs.MakeSteps.{plain_next}
use Rattle.shared_clauses.proofs.shared.plain_literals.Goals as goal

pub plain-requires : goal.plain-requires
plain-requires c = atom_within c.args.bank.now c.args.literals.now c.loop-literal.literal-index (record { positive = false; atom = record { 0 = 0 } }) c.loop-literal-test.true c.requires

pub loop-literal-preserved : goal.loop-literal-preserved
loop-literal-preserved c =
    plain_next c.args.bank.now c.args.literals.now c.loop-literal.literal-index _ c.loop-literal.plain.items c.push.new.self.items c.in_ok-atom.atom c.loop-literal-test.true (get_or_default c.args.literals.now c.loop-literal.literal-index (record { positive = false; atom = record { 0 = 0 } }) _ c.loop-literal-test.true) c.loop-literal.invariant c.in_ok-atom.ensures c.in_ok-push.ensures.items
