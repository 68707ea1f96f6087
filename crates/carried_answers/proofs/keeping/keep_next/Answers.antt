-- The literal is left out, or kept.
use Rattle.std.proofs.Common.{◌≡◌, ◌==◌, length, ap, arith}
use Rattle.derivation.specs.Places.{others}
use Rattle.carried_answers.proofs.OnceSteps.{keep_on, keep_out, one_less, place_of_one}
use Rattle.carried_answers.proofs.keeping.keep_next.Goals as goal

pub take_out-requires : goal.take_out-requires
take_out-requires c = place_of_one c.args.whole.now c.args.place c.requires.place

pub returns-then-is_among-clause-kept : goal.returns-then-is_among-clause-kept
returns-then-is_among-clause-kept c = λ d us from k. keep_out d us c.args.whole.now c.take_out.new.self c.args.first c.args.place c.is_among.result k from c.requires.place c.is_among.ensures c.if-is_among.true c.take_out.ensures

pub returns-then-is_among-clause-smaller : goal.returns-then-is_among-clause-smaller
returns-then-is_among-clause-smaller c =
    let out : length c.take_out.new.self ≡ length (others (λ k. k == c.args.place) c.args.whole.now) = ap length c.take_out.ensures in
    let e = one_less c.args.whole.now c.args.place c.requires.place in
    omega (arith, e, out, c.requires.place)

pub returns-clause-kept : goal.returns-clause-kept
returns-clause-kept c = λ d us from k. keep_on d us c.args.whole.now c.args.first c.args.place c.is_among.result k from c.requires.place c.is_among.ensures c.if-is_among.false
