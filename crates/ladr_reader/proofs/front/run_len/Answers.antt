use Rattle.std.proofs.Common.{arith}
use Rattle.ladr_lex.specs.Lexeme.{lexemes_of}
use Rattle.ladr_reader.proofs.Runs.{lexemes_length}
use Rattle.ladr_reader.proofs.Stopping.{run_over}
use Rattle.ladr_reader.proofs.front.run_len.Goals as goal

pub returns : goal.returns
returns c =
    let over = run_over (lexemes_of c.args.tokens.now) c.loop-i.i c.loop-i.unclosed (omega (arith, lexemes_length c.args.tokens.now)) in
    omega (arith, over, c.loop-i.invariant.so_far)
