use Rattle.std.proofs.Common.{List, ap, ◌∙◌}
use Rattle.fol_core.specs.Tree.{Tree, trees_of}
use Rattle.cell_search.proofs.Marking.{nested_end, nested_next}
use Rattle.cell_search.specs.Marks.{all_nested_in}
use Rattle.cell_search.proofs.walks.mark_arguments.Goals as goal

pub loop-term-preserved : goal.loop-term-preserved
loop-term-preserved c =
    nested_next c.as_slice-term-items.result.now c.loop-term.term-index c.term-item.result c.loop-term.marks c.mark_nested.new.marks _ c.loop-term-test.true c.term-item.is c.mark_nested.ensures c.loop-term.invariant

pub returns : goal.returns
returns c =
    nested_end c.as_slice-term-items.result.now c.loop-term.term-index c.loop-term.marks _ c.loop-term-test.false c.loop-term.invariant
    ∙ ap (λ (ts : List Tree). all_nested_in (trees_of ts) c.args.marks.now) c.as_slice-term-items.ensures.trees
