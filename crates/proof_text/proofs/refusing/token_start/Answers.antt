use Rattle.std.proofs.Common.{◌∙◌}
use Rattle.ladr_problem.proofs.Starts.{start_there, start_past}
use Rattle.proof_text.proofs.refusing.token_start.Goals as goal

pub returns-in-Some : goal.returns-in-Some
returns-in-Some c =
    let found = c.in-Some.ensures.lookup in
    c.start.ensures ∙ start_there c.args.block.now.end c.args.tokens.now c.args.k c.in-Some.token.now found.3.0 found.1

pub returns-in-None : goal.returns-in-None
returns-in-None c = start_past c.args.block.now.end c.args.tokens.now c.args.k c.in-None.ensures.lookup.3
