-- What is left, and the answers behind.
use Rattle.std.proofs.Common.{◌≡◌, ◌++◌, ◌-◌, length, ap, ap₂, sym, ◌∙◌, subst, arith}
use Rattle.std.proofs.lemmas.List.{length-map}
use Rattle.carried_answers.specs.Begun.{each_whole}
use Rattle.carried_answers.proofs.BeginSteps.{begun}
use Rattle.carried_answers.proofs.starting.begin.Goals as goal
use Rattle.inference.specs.Left.{all_left, left_clause, left_tree}
use Rattle.substitutions.specs.Bindings.{by_bindings}
use Rattle.substitutions.specs.Instances.{AreVariants}
use Rattle.term_unifiers.specs.Renamed.{own_among}

pub returns : goal.returns
returns c = λ lists is.
    let own = own_among c.args.premises.many (by_bindings c.args.premises.unifier) in
    let ls = all_left c.args.premises.left.items in
    let same : all_left c.in_ok-all.all.items ≡ ls = c.in_ok-all.ensures ∙ ap all_left c.as_slice.ensures.value in
    let long : c.len-own.result ≡ length c.in_ok-all.all.items = omega (arith, c.in_ok-all.all.ok.0) in
    begun own ls (all_left c.leave_each.new.left.items) lists c.len-own.result c.saturating_sub-behind.result c.in_ok-whole.whole c.keep_once.new.whole
    (c.in_ok-leave_each.ensures ∙ ap₂ (λ x cs. x ++ each_whole 0 cs) same is)
    (subst (λ l. AreVariants c.in_ok-whole.whole (left_clause own (all_left l))) c.as_slice-2.ensures.value c.in_ok-whole.ensures)
    (long ∙ sym (length-map c.in_ok-all.all.items left_tree) ∙ ap length same)
    c.keep_once.ensures
    (c.saturating_sub-behind.ensures ∙ ap (λ k. k - c.len-own.result) c.len-long.ensures)
