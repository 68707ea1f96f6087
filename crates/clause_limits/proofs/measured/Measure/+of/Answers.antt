-- An argument more.
use Rattle.fol_core.specs.TermView.{tree_of}
use Rattle.clause_limits.proofs.Measuring.{measured_more}
use Rattle.clause_limits.proofs.measured.Measure.+of.Goals as goal

pub loop-term-preserved : goal.loop-term-preserved
loop-term-preserved t c =
    measured_more tree_of c.deref-term-items.result.now c.loop-term.term-index c.term-item.result c.loop-term.measure c.of.result c.beside-measure.result c.loop-term-test.true c.term-item.is c.loop-term.invariant c.of.ensures c.beside-measure.ensures
