use Rattle.std.proofs.Common.{◌∙◌, ◌+◌, ◌||◌, Bool, sym, ap}
use Rattle.ladr_rules.specs.Rules.{some_quantifies}
use Rattle.ladr_rules.proofs.Parts.{raws_from, raws_next}
use Rattle.ladr_rules.proofs.patterns.+quantifies.Goals as goal

pub some_quantifies-returns-then-quantifies : goal.some_quantifies-returns-then-quantifies
some_quantifies-returns-then-quantifies t c =
    let raws = c.deref-raw-items.result.now in
    sym (sym c.loop-raw.invariant ∙ ap some_quantifies (raws_next raws c.loop-raw.raw-index c.raw-item.result c.loop-raw-test.true c.raw-item.is)
    ∙ ap (λ (b : Bool). b || some_quantifies (raws_from raws (c.loop-raw.raw-index + 1))) (sym c.quantifies.ensures ∙ c.if-quantifies.true))
