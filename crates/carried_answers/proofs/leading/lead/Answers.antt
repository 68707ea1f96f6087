-- The word is past the clause, isn't done, or is.
use Rattle.std.proofs.Common.{◌≡◌, ◌<◌, ◌≤◌, ◌-◌, length, take, ap, sym, ◌∙◌, arith}
use Rattle.carried_answers.specs.Carried.{lent_answers}
use Rattle.carried_answers.specs.Leading.{place_of}
use Rattle.carried_answers.proofs.LeadSteps.{follows_done, led_done, led_not, led_past, led_settled}
use Rattle.carried_answers.proofs.leading.lead.Goals as goal
use Rattle.derivation.specs.View.{later_of}
use Rattle.inference.specs.Lent.{lent_clauses}

pub returns-then-place-own : goal.returns-then-place-own
returns-then-place-own c =
    let w = later_of c.args.word.now in
    let is : c.saturating_sub-own.result ≡ length c.args.whole.now - c.args.behind = c.saturating_sub-own.ensures ∙ ap (λ k. k - c.args.behind) c.len-before.ensures in
    let at : c.place_of-place.result ≡ place_of w = c.place_of-place.ensures in
    led_past w c.args.whole.now c.args.behind (lent_clauses c.args.parents.now) (lent_answers c.args.answers.now) c.requires.whole c.saturating_sub-own.result is (omega (arith, c.if-place-own.true, at))

pub bring-requires-clause-place : goal.bring-requires-clause-place
bring-requires-clause-place c =
    let w = later_of c.args.word.now in
    let is : c.saturating_sub-own.result ≡ length c.args.whole.now - c.args.behind = c.saturating_sub-own.ensures ∙ ap (λ k. k - c.args.behind) c.len-before.ensures in
    let at : c.place_of-place.result ≡ place_of w = c.place_of-place.ensures in
    omega (arith, is, at, c.if-place-own.false)

pub returns-then-not-is_done : goal.returns-then-not-is_done
returns-then-not-is_done c =
    let w = later_of c.args.word.now in
    let is : c.saturating_sub-own.result ≡ length c.args.whole.now - c.args.behind = c.saturating_sub-own.ensures ∙ ap (λ k. k - c.args.behind) c.len-before.ensures in
    let at : c.place_of-place.result ≡ place_of w = c.place_of-place.ensures in
    led_not w c.args.whole.now c.args.behind (lent_clauses c.args.parents.now) (lent_answers c.args.answers.now) c.requires.whole c.saturating_sub-own.result is (omega (arith, at, c.if-place-own.false)) c.bring.new.whole c.in_ok-bring.ensures
    c.follow.new.clause c.truncate.new.self c.in_ok-followed.followed (sym c.is_done.ensures ∙ c.if-not-is_done.true) c.in_ok-followed.ensures (c.truncate.ensures ∙ ap (λ k. take k c.follow.new.clause) c.len-before.ensures)

pub returns : goal.returns
returns c =
    let w = later_of c.args.word.now in
    let whole = c.args.whole.now in
    let ps = lent_clauses c.args.parents.now in
    let lists = lent_answers c.args.answers.now in
    let own = c.saturating_sub-own.result in
    let d = c.follow.new.clause in
    let is : c.saturating_sub-own.result ≡ length c.args.whole.now - c.args.behind = c.saturating_sub-own.ensures ∙ ap (λ k. k - c.args.behind) c.len-before.ensures in
    let at : c.place_of-place.result ≡ place_of w = c.place_of-place.ensures in
    let before : place_of w < c.saturating_sub-own.result = omega (arith, at, c.if-place-own.false) in
    let led = led_done w whole c.args.behind ps lists c.requires.whole own is before c.bring.new.whole c.in_ok-bring.ensures d
    (follows_done w whole c.args.behind ps lists c.requires.whole own is before c.bring.new.whole c.in_ok-bring.ensures d c.in_ok-followed.followed (sym c.is_done.ensures ∙ c.if-not-is_done.false) c.in_ok-followed.ensures) in
    led_settled w whole c.args.behind ps lists c.requires.whole own is before c.bring.new.whole c.in_ok-bring.ensures d c.settle.new.whole led c.saturating_sub-all.result c.saturating_sub-first.result c.saturating_sub-now.result
    (c.saturating_sub-all.ensures ∙ ap (λ k. k - c.saturating_sub-own.result) c.len-pushed.ensures)
    (c.saturating_sub-first.ensures ∙ ap (λ k. k - c.saturating_sub-all.result) c.len-led.ensures)
    c.settle.ensures
    (c.saturating_sub-now.ensures ∙ ap (λ k. k - c.saturating_sub-first.result) c.len-settled.ensures)
