use Rattle.std.proofs.Common.{◌∙◌}
use Rattle.ladr_commands.proofs.Forms.{as_entry}
use Rattle.ladr_commands.specs.Form.{entry}
use Rattle.ladr_commands.specs.Wanted.{kind_said}
use Rattle.ladr_commands.proofs.interpretation.kind_word.Goals as goal

pub returns-in-Err-clause-bad : goal.returns-in-Err-clause-bad
returns-in-Err-clause-bad c = λ e n es. as_entry n es c.args.cursor.now ∙ c.take.ensures.bad (cc) (λ t. entry n es (kind_said t))
