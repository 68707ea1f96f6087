-- The variables of one more argument.
use Rattle.std.proofs.Common.{◌∙◌, ◌+◌, ap, drop, List, [], ℕ}
use Rattle.fol_core.specs.Free.{joined, variables_of_all}
use Rattle.fol_core.specs.TermView.{tree_list}
use Rattle.fol_core.specs.Tree.{trees_of}
use Rattle.fol_core.proofs.Variables.{variables_next}
use Rattle.clause_limits.proofs.numbering.+note_all.Goals as goal

pub loop-term-preserved : goal.loop-term-preserved
loop-term-preserved t c =
    ap (λ (fs : List ℕ). joined fs (variables_of_all (trees_of (tree_list (drop (c.loop-term.term-index + 1) c.deref-term-items.result.now))))) (c.in_ok-few-in-App.ensures c.if-not-few.false)
    ∙ variables_next c.loop-term.found.items [] c.deref-term-items.result.now c.loop-term.term-index c.term-item.result c.loop-term-test.true c.term-item.is
    ∙ c.loop-term.invariant
