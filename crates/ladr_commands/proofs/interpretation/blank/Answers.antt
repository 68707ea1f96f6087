use Rattle.std.proofs.Common.{◌∙◌, ◌+◌}
use Rattle.ladr_commands.proofs.Forms.{as_place}
use Rattle.ladr_commands.specs.Form.{token, behind_place}
use Rattle.ladr_commands.specs.declared.wanted.Wanted.TheVariants.{CommaOrClose}
use Rattle.ladr_commands.proofs.interpretation.blank.Goals as goal

pub returns-clause-bad : goal.returns-clause-bad
returns-clause-bad c = λ e n onward. as_place n onward c.args.cursor.now ∙ c.take.ensures.bad e (λ _. token CommaOrClose (behind_place (n + 1) onward))
