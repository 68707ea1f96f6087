use Rattle.std.proofs.Common.{sym, ◌∙◌}
use Rattle.proof_words.proofs.Letters.{cut_off, all_letters, more_letters}
use Rattle.proof_words.proofs.names.place_named.Goals as goal

pub loop-byte-preserved : goal.loop-byte-preserved
loop-byte-preserved c = more_letters c.args.text.now _ _ _ c.loop-byte-test.true (sym c.with_letter.ensures ∙ c.in-Some.is) c.loop-byte.invariant.0

pub returns-in-None : goal.returns-in-None
returns-in-None c = cut_off c.args.text.now _ _ c.loop-byte-test.true (sym c.with_letter.ensures ∙ c.in-None.is) c.loop-byte.invariant.0

pub returns : goal.returns
returns c = sym (sym (all_letters c.args.text.now _ _ c.loop-byte-test.false c.loop-byte.invariant.0 c.loop-byte.invariant.1) ∙ sym c.saturating_sub.ensures)
