use Rattle.std.proofs.Common.{refl}
use Rattle.std.proofs.lemmas.Result.{IfOk-from_err}
use Rattle.proof_text.proofs.text.without_proofs.Goals as goal

pub returns-in_err-operators : goal.returns-in_err-operators
returns-in_err-operators c = IfOk-from_err _ _ c.from_residual.ensures.0

pub returns-in_err-symbols : goal.returns-in_err-symbols
returns-in_err-symbols c = IfOk-from_err _ _ c.from_residual-in_err-symbols.ensures.0

pub returns : goal.returns
returns c = record { problem = refl; operators = c.in_ok-operators.ensures; symbols = c.in_ok-symbols.ensures }
