use Rattle.std.proofs.Common.{◌∙◌, arith}
use Rattle.clausify.proofs.NameLemmas.{names_more}
use Rattle.clausify.proofs.names.names_of.Goals as goal

pub loop-number-preserved : goal.loop-number-preserved
loop-number-preserved c =
    names_more c.args.symbols.now c.loop-number.number c.loop-number.names.keys c.insert.new.self.keys c.in_ok-from_slice.field-0 (omega (arith, c.loop-number-test.true, c.len-number-end.ensures.len))
    c.loop-number.invariant (c.in_ok-from_slice.ensures.items ∙ c.name-name.ensures) c.in_ok-insert.ensures.keys
