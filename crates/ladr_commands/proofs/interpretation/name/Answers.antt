use Rattle.std.proofs.Common.{◌∙◌}
use Rattle.ladr_commands.proofs.Forms.{as_comment}
use Rattle.ladr_commands.specs.Form.{comment}
use Rattle.ladr_commands.proofs.interpretation.name.Goals as goal

pub returns-clause-bad : goal.returns-clause-bad
returns-clause-bad c = λ e f. as_comment f c.args.cursor.now ∙ c.take.ensures.bad e (λ _. comment f)
