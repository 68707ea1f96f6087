use Rattle.std.proofs.Common.{◌++◌, ◌∙◌, List, ℕ, ap, sym, append_assoc, arith}
use Rattle.model_tables.proofs.Texts.{lines_next, lines_over}
use Rattle.model_tables.proofs.text.entries.Goals as goal

pub loop-number-preserved : goal.loop-number-preserved
loop-number-preserved c =
    let i = c.loop-number.number in
    let ss = c.args.symbols.now in
    let ls = c.args.rows.now in
    let next = lines_next ss ls i c.index-rows-number.result c.loop-number.before (omega (arith, c.min-number-end.ensures)) (omega (arith, c.min-number-end.ensures)) c.index-rows-number.is in
    rw (c.in_ok-before.ensures.text, c.in_ok-before.ensures.now) (append_assoc c.loop-number.out.items _ _ ∙ ap (λ (t : List ℕ). c.loop-number.out.items ++ t) (sym next) ∙ c.loop-number.invariant)

pub returns : goal.returns
returns c =
    let end = lines_over c.args.symbols.now c.args.rows.now c.loop-number.number c.loop-number.before (omega (arith, c.min-number-end.ensures)) in
    ap (λ (t : List ℕ). c.loop-number.out.items ++ t) (sym end) ∙ c.loop-number.invariant
