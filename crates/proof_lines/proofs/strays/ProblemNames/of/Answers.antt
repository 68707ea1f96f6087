use Rattle.std.proofs.Common.{◌∙◌, arith}
use Rattle.proof_lines.proofs.KeptNames.{names_more}
use Rattle.proof_lines.proofs.strays.ProblemNames.of.Goals as goal

pub loop-number-preserved : goal.loop-number-preserved
loop-number-preserved c =
    names_more c.args.symbols.now c.loop-number.number c.loop-number.names.names.keys c.insert.new.self.keys c.in_ok-name.name (omega (arith, c.loop-number-test.true, c.len-number-end.ensures.len))
    c.loop-number.invariant (c.in_ok-name.ensures.items ∙ c.name.ensures) c.in_ok-insert.ensures.keys
