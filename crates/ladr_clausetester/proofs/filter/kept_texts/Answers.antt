use Rattle.std.proofs.Common.{◌+◌, ◌<◌, ◌++◌, ◌∙◌, ℕ, List, length, sym, ap, append_assoc, arith}
use Rattle.ladr_clausetester.proofs.Told.{texts_next}
use Rattle.ladr_clausetester.proofs.filter.kept_texts.Goals as goal

pub loop-place-preserved : goal.loop-place-preserved
loop-place-preserved c =
    let place = c.loop-place.place in
    let within : place < length c.args.kept.now = omega (arith, c.requires, c.loop-place-test.true, c.len-place-end.ensures) in
    rw c.in_ok-put.ensures
    (append_assoc c.loop-place.out.items _ _ ∙ ap (λ (t : List ℕ). c.loop-place.out.items ++ t) (sym (texts_next (place + 1) place c.args.its.now c.args.kept.now c.at.result.now c.at.ensures within))
    ∙ c.loop-place.invariant)
