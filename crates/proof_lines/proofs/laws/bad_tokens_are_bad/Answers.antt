use Rattle.proof_lines.proofs.BadTokens.{bad_line_token}
use Rattle.proof_lines.proofs.laws.bad_tokens_are_bad.Goals as goal

pub returns : goal.returns
returns _ = bad_line_token
