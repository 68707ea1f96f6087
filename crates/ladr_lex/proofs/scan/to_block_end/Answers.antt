use Rattle.std.proofs.Common.{codes, sym, ◌∙◌, arith}
use Rattle.ladr_lex.proofs.Comments.{up_to_next}
use Rattle.ladr_lex.proofs.scan.to_block_end.Goals as goal

pub loop-at-preserved : goal.loop-at-preserved
loop-at-preserved c =
    (omega arith, up_to_next (codes "%END") c.args.bytes.now c.args.from c.loop-at.at c.loop-at.invariant.0 c.loop-at-test.true (sym c.has_at.ensures.word ∙ c.if-has_at.false) ∙ c.loop-at.invariant.1)
