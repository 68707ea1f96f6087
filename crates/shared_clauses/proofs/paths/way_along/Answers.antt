-- A term more, or none.
use Rattle.std.proofs.Common.{slice_index_or}
use Rattle.std.proofs.lemmas.List.{get_or_default}
use Rattle.term_bank.specs.Bank.{tree_at}
use Rattle.shared_clauses.proofs.WaySteps.{way_fails, way_next, way_last}
use Rattle.shared_clauses.proofs.paths.way_along.Goals as goal

pub returns-in_default : goal.returns-in_default
returns-in_default c = way_fails c.args.bank.now (tree_at c.args.bank.now c.args.id.0) c.args.path.now c.loop-number.number-index (slice_index_or c.args.path.now c.loop-number.number-index 0) c.loop-number.here.0 c.loop-number.way.items c.loop-number.invariant.way c.loop-number.invariant.here c.loop-number-test.true (get_or_default c.args.path.now c.loop-number.number-index 0 _ c.loop-number-test.true) c.in_default.ensures

pub loop-number-preserved : goal.loop-number-preserved
loop-number-preserved c = record {
  way = way_next c.args.bank.now (tree_at c.args.bank.now c.args.id.0) c.args.path.now c.loop-number.number-index (slice_index_or c.args.path.now c.loop-number.number-index 0) c.loop-number.here.0 c.loop-number.way.items c.loop-number.invariant.way c.loop-number.invariant.here c.loop-number-test.true (get_or_default c.args.path.now c.loop-number.number-index 0 _ c.loop-number-test.true) c.in-Some.next c.push-in-loop-number.new.self.items c.in-Some.ensures c.in_ok-push-2.ensures.items;
  here = way_last c.args.bank.now (tree_at c.args.bank.now c.args.id.0) c.args.path.now c.loop-number.number-index c.loop-number.way.items c.push-in-loop-number.new.self.items c.in-Some.next c.loop-number.invariant.way c.loop-number-test.true c.in_ok-push-2.ensures.items;
}
