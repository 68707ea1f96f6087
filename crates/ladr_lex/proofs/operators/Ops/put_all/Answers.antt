use Rattle.std.proofs.Common.{[], ap, ◌∙◌}
use Rattle.ladr_lex.specs.Operators.{has_precedence}
use Rattle.ladr_lex.specs.declared.operators.OperatorKind.TheVariants.{Infix}
use Rattle.ladr_lex.proofs.OperatorLemmas.{next_row, put_next}
use Rattle.ladr_lex.proofs.operators.Ops.put_all.Goals as goal

pub put-requires-clause-symbol : goal.put-requires-clause-symbol
put-requires-clause-symbol c = (next_row c.args.rows.now c.loop-name.name-index _ c.loop-name.self c.loop-name-test.true c.loop-name.invariant.1).symbol

pub put-requires-clause-word : goal.put-requires-clause-word
put-requires-clause-word c = (next_row c.args.rows.now c.loop-name.name-index _ c.loop-name.self c.loop-name-test.true c.loop-name.invariant.1).word

pub put-requires-clause-precedence : goal.put-requires-clause-precedence
put-requires-clause-precedence c =
    ap has_precedence c.with.ensures ∙ (next_row c.args.rows.now c.loop-name.name-index _ c.loop-name.self c.loop-name-test.true c.loop-name.invariant.1).precedence

pub loop-name-preserved : goal.loop-name-preserved
loop-name-preserved c =
    put_next c.args.rows.now c.loop-name.name-index (record { ref_ptr = (0, 0); now = [] }, 0, Infix) c.with.result c.loop-name.self c.put.new.self _
    c.loop-name-test.true c.loop-name.invariant.1 c.with.ensures c.in_ok-put.ensures.ok c.loop-name.invariant.0
