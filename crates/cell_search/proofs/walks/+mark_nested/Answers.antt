use Rattle.std.proofs.Common.{◌≡◌, ◌+◌, List, sym, ap, ◌∙◌, arith}
use Rattle.fol_core.specs.Tree.{Tree, trees_of, nodes, nodes_of}
use Rattle.fol_core.specs.TermView.{tree_of}
use Rattle.fol_core.specs.declared.term.Term.{Term}
use Rattle.model_tables.proofs.Places.{argument_smaller}
use Rattle.cell_search.proofs.Marking.{nested_end, nested_next}
use Rattle.cell_search.specs.Marks.{nested_in, all_nested_in}
use Rattle.cell_search.proofs.walks.+mark_nested.Goals as goal

pub mark_nested-requires : goal.mark_nested-requires
mark_nested-requires t c =
    let whole : nodes (tree_of c.args.term.now) ≡ nodes_of (trees_of c.in-App.terms) + 2 = ap (λ (x : Term). nodes (tree_of x)) c.in-App.is in
    let same = ap (λ (ts : List Tree). nodes_of (trees_of ts)) c.as_slice-term-items.ensures.trees in
    let part = argument_smaller c.as_slice-term-items.result.now c.loop-term.term-index c.term-item.result c.loop-term-test.true c.term-item.is in
    omega (arith, c.decreases, whole, same, part)

pub loop-term-preserved : goal.loop-term-preserved
loop-term-preserved t c =
    nested_next c.as_slice-term-items.result.now c.loop-term.term-index c.term-item.result c.loop-term.marks c.mark_nested.new.marks _ c.loop-term-test.true c.term-item.is c.mark_nested.ensures c.loop-term.invariant

pub returns-after-loop-term : goal.returns-after-loop-term
returns-after-loop-term t c =
    nested_end c.as_slice-term-items.result.now c.loop-term.term-index c.loop-term.marks _ c.loop-term-test.false c.loop-term.invariant
    ∙ ap (λ (ts : List Tree). all_nested_in (trees_of ts) c.args.marks.now) c.as_slice-term-items.ensures.trees ∙ sym (ap (λ (x : Term). nested_in (tree_of x) c.args.marks.now) c.in-App.is)
