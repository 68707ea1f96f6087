use Rattle.std.proofs.Common.{◌∙◌, List, ap, sym, arith}
use Rattle.std.proofs.lemmas.List.{drop_all}
use Rattle.fol_core.specs.RawTree.{RawTree, raws_of}
use Rattle.fol_core.specs.RawView.{raw_of, raw_list}
use Rattle.fol_core.specs.declared.raw.Raw.{Raw}
use Rattle.ladr_formulas.specs.Counting.{is_wide, are_wide}
use Rattle.ladr_formulas.proofs.CountingLemmas.{wide_by_count, narrow}
use Rattle.ladr_formulas.proofs.counting.+is_wide.Goals as goal

pub returns-then-len-gt-MOST_ARGUMENTS : goal.returns-then-len-gt-MOST_ARGUMENTS
returns-then-len-gt-MOST_ARGUMENTS t c = wide_by_count c.in-App.field-0 c.in-App.args (omega (arith, c.if-len-gt-MOST_ARGUMENTS.true, c.len.ensures)) ∙ ap (λ (r : Raw). is_wide (raw_of r)) (sym c.in-App.is)

pub returns-after-loop-arg : goal.returns-after-loop-arg
returns-after-loop-arg t c =
    let items = c.deref-arg-items.result.now in
    narrow c.in-App.field-0 c.in-App.args (omega (arith, c.if-len-gt-MOST_ARGUMENTS.false, c.len.ensures))
    (ap (λ (l : List Raw). are_wide (raws_of (raw_list l))) (sym (drop_all c.loop-arg.arg-index items c.loop-arg-test.false)) ∙ c.loop-arg.invariant ∙
    ap (λ (l : List RawTree). are_wide (raws_of l)) (ap raw_list c.deref-arg-items.ensures.value ∙ c.args-in-App.view_is)) ∙
    ap (λ (r : Raw). is_wide (raw_of r)) (sym c.in-App.is)
