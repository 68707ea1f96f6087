use Rattle.std.proofs.Common.{ℕ, List, sym, subst}
use Rattle.std.specs.List.{Contains}
use Rattle.clause_index.proofs.MarkSteps.{all_gathered}
use Rattle.clause_index.proofs.marks.marks_of.Goals as goal

pub returns-clause-all : goal.returns-clause-all
returns-clause-all c =
    let gathered = all_gathered c.loop-literal.marks.items _ c.as_slice-literal-items.result.now c.loop-literal.literal-index c.loop-literal.invariant c.loop-literal-test.false in
    λ m h. c.put_in_order.ensures.kept m (subst (λ (ms : List ℕ). Contains ms m) (sym gathered) h)

pub returns-clause-only : goal.returns-clause-only
returns-clause-only c =
    let gathered = all_gathered c.loop-literal.marks.items _ c.as_slice-literal-items.result.now c.loop-literal.literal-index c.loop-literal.invariant c.loop-literal-test.false in
    λ m h. subst (λ (ms : List ℕ). Contains ms m) gathered (c.put_in_order.ensures.others m h)
