use Rattle.std.proofs.Common.{sym, ◌∙◌}
use Rattle.ladr_lex.proofs.Numerals.{cut_off, all_fits, more_digits}
use Rattle.ladr_lex.proofs.numeral.value.Goals as goal

pub loop-byte-preserved : goal.loop-byte-preserved
loop-byte-preserved c = more_digits c.args.text.now _ _ _ c.loop-byte-test.true (sym c.with_digit.ensures ∙ c.in-Some.is) c.loop-byte.invariant.0

pub returns-in-None : goal.returns-in-None
returns-in-None c = sym (cut_off c.args.text.now _ _ c.loop-byte-test.true (sym c.with_digit.ensures ∙ c.in-None.is) c.loop-byte.invariant.0)

pub returns : goal.returns
returns c = all_fits c.args.text.now _ _ c.loop-byte-test.false c.loop-byte.invariant.0 c.loop-byte.invariant.1
