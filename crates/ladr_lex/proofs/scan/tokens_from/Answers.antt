use Rattle.ladr_lex.proofs.scan.tokens_from.Goals as goal
use Rattle.ladr_lex.proofs.Steps.{all_found}

pub returns : goal.returns
returns c = all_found _ _ _ _ c.loop-at.invariant c.loop-at-test.false
