use Rattle.std.proofs.Common.{◌∙◌, ◌+◌, ◌||◌, Bool, sym, ap}
use Rattle.ladr_rules.specs.Rules.{some_too_great}
use Rattle.ladr_rules.proofs.Parts.{raws_from, raws_next}
use Rattle.ladr_rules.proofs.patterns.+great.Goals as goal

pub some_too_great-returns-then-too_great : goal.some_too_great-returns-then-too_great
some_too_great-returns-then-too_great t c =
    let raws = c.deref-raw-items.result.now in
    sym (sym c.loop-raw.invariant ∙ ap (some_too_great c.args.style) (raws_next raws c.loop-raw.raw-index c.raw-item.result c.loop-raw-test.true c.raw-item.is)
    ∙ ap (λ (b : Bool). b || some_too_great c.args.style (raws_from raws (c.loop-raw.raw-index + 1))) (sym c.too_great.ensures ∙ c.if-too_great.true))
