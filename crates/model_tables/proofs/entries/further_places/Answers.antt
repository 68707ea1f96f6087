use Rattle.std.proofs.Common.{◌≡◌, ◌-◌, ◌+◌, ◌∙◌, suc, append_assoc, codes, arith}
use Rattle.model_tables.specs.ModelText.{further_places}
use Rattle.model_tables.proofs.entries.further_places.Goals as goal

pub loop-preserved : goal.loop-preserved
loop-preserved c =
    let more : c.args.more - c.loop.counter ≡ suc (c.args.more - (c.loop.counter + 1)) = omega arith in
    rw c.in_ok-text.ensures (append_assoc c.loop.out.items (codes ",_") (further_places (c.args.more - (c.loop.counter + 1))) ∙ rw more at c.loop.invariant)
