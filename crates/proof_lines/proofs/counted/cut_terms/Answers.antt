use Rattle.std.proofs.Common.{◌∙◌, ◌+◌, ◌++◌, ◌∷◌, [], ap, take, drop, min, refl}
use Rattle.std.specs.Prelude.{slice_index_or}
use Rattle.answers.specs.AnswerView.{answers_of}
use Rattle.fol_core.specs.TermView.{tree_list}
use Rattle.proof_lines.specs.Counted.{cut}
use Rattle.proof_lines.specs.declared.counted.Counted.{Counted}
use Rattle.proof_lines.proofs.Counting.{all_left, all_taken, cut_more}
use Rattle.proof_lines.proofs.counted.cut_terms.Goals as goal

pub loop-counted-preserved : goal.loop-counted-preserved
loop-counted-preserved c =
    let none : Counted = record { goal = 0; count = 0 } in
    let i = c.loop-counted.counted-index in
    let cs = c.args.counts.now in
    let item = slice_index_or cs i none in
    let count = c.min-count.ensures ∙ ap (min item.count) (c.len.ensures ∙ c.loop-counted.rest.ok.0) in
    let left = ap tree_list (c.in_ok-behind.ensures.tail ∙ ap (λ k. drop k c.loop-counted.rest.items) count) ∙ all_left item.count c.loop-counted.rest.items in
    let here = ap tree_list (c.in_ok-behind.ensures.items ∙ ap (λ k. take k c.loop-counted.rest.items) count) ∙ all_taken item.count c.loop-counted.rest.items in
    ap (λ us. answers_of us ++ cut (drop (i + 1) cs) (tree_list c.in_ok-behind.behind.items)) c.in_ok-push.ensures.items
    ∙ ap (λ ts. answers_of (c.loop-counted.answers.items ++ record { goal = item.goal; terms = tree_list c.split_off.new.self.items } ∷ []) ++ cut (drop (i + 1) cs) ts) left
    ∙ cut_more c.loop-counted.answers.items (record { goal = item.goal; terms = tree_list c.split_off.new.self.items }) cs i none (tree_list c.loop-counted.rest.items) _ c.loop-counted-test.true refl here c.loop-counted.invariant
