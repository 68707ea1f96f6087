use Rattle.std.proofs.Common.{ℕ, ap, ◌∙◌, arith}
use Rattle.std.specs.Prelude.{◌==◌}
use Rattle.ladr_lex.proofs.ItemLemmas.{stop_is_token, stop_ends, last_item, stopped_item}
use Rattle.ladr_lex.proofs.item.item_from.Goals as goal

pub returns-then-end-text : goal.returns-then-end-text
returns-then-end-text c =
    last_item c.args.text.now.start c.args.text.now.bytes.now c.args.at c.requires.place _ _ _ c.clear.ensures.items c.in_ok-end.ensures.cut c.if-end-text.true c.in_ok-end.ensures.none

pub add-requires-clause-token : goal.add-requires-clause-token
add-requires-clause-token c = stop_is_token c.args.text.now.bytes.now c.in_ok-end.end (c.in_ok-end.ensures.stop (omega (arith, c.in_ok-end.ensures.cut.within, c.if-end-text.false)))

pub add-requires-clause-end : goal.add-requires-clause-end
add-requires-clause-end c = stop_ends c.args.text.now.bytes.now c.in_ok-end.end (c.in_ok-end.ensures.stop (omega (arith, c.in_ok-end.ensures.cut.within, c.if-end-text.false)))

pub returns : goal.returns
returns c =
    let there = c.in_ok-end.ensures.stop (omega (arith, c.in_ok-end.ensures.cut.within, c.if-end-text.false)) in
    let added = c.in_ok-add.ensures.added in
    stopped_item c.args.text.now.start c.args.text.now.bytes.now c.args.at c.requires.place _ _ _ added.0 _ c.clear.ensures.items c.in_ok-end.ensures.cut c.in_ok-end.ensures.none c.in_ok-add.ensures.cut added.1
    (added.2 ∙ ap (λ (b : ℕ). b == 46) there)
