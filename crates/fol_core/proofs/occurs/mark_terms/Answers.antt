use Rattle.std.proofs.Common.{◌||◌, get_or, false, arith}
use Rattle.fol_core.specs.Tree.{trees_of}
use Rattle.fol_core.specs.TermView.{tree_list}
use Rattle.fol_core.specs.Bound.{have_symbol}
use Rattle.fol_core.proofs.Marks.{marked_next}
use Rattle.fol_core.proofs.occurs.mark_terms.Goals as goal

pub loop-term-preserved : goal.loop-term-preserved
loop-term-preserved c = λ s l.
    marked_next c.deref-term-items.result.now c.loop-term.term-index c.term-item.result c.loop-term.marks c.mark_term.new.marks
    (λ s. get_or c.args.marks.now s false || have_symbol s (trees_of (tree_list c.deref-term-items.result.now)))
    c.loop-term-test.true c.term-item.is c.mark_term.ensures s (omega (arith, c.loop-term.auto.marks)) (c.loop-term.invariant s l)
