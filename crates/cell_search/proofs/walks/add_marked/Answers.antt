use Rattle.std.proofs.Common.{ℕ, ◌+◌, List, ◌++◌, drop, get_or, sym, ap, ◌∙◌}
use Rattle.cell_search.proofs.Marking.{mark_test, marked_less, marked_more}
use Rattle.cell_search.specs.Marks.{marked_from}
use Rattle.cell_search.specs.declared.walks.Mark.TheVariants.{Other}
use Rattle.cell_search.proofs.walks.add_marked.Goals.{then-each-mark+in_ok-push, else-each-mark}
use Rattle.cell_search.proofs.walks.add_marked.Goals as goal

pub loop-variable-preserved : goal.loop-variable-preserved
loop-variable-preserved c =
    let marks = c.args.marks.now in
    let i = c.loop-variable.variable in
    elim c.if-each-mark.branch [
      | then-each-mark+in_ok-push v ↦
          ap (λ o. o.items ++ marked_from (i + 1) c.args.mark (drop (i + 1) marks)) v.order-is
          ∙ ap (λ (xs : List ℕ). xs ++ marked_from (i + 1) c.args.mark (drop (i + 1) marks)) v.in_ok-push.ensures.items
          ∙ marked_more marks i c.args.mark _ c.loop-variable.order.items c.loop-variable-test.true c.loop-variable.invariant (sym (mark_test (get_or marks i Other) c.args.mark) ∙ v.if-each-mark.true)
      | else-each-mark v ↦
          ap (λ o. o.items ++ marked_from (i + 1) c.args.mark (drop (i + 1) marks)) v.order-is
          ∙ marked_less marks i c.args.mark _ c.loop-variable.order.items c.loop-variable-test.true c.loop-variable.invariant (sym (mark_test (get_or marks i Other) c.args.mark) ∙ v.if-each-mark.false)
    ]
