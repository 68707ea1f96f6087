use Rattle.std.proofs.Common.{◌∙◌, ◌++◌, ◌∷◌, []}
use Rattle.ladr_commands.proofs.Forms.{as_number}
use Rattle.ladr_commands.specs.Form.{token, behind_number, number_said}
use Rattle.ladr_commands.specs.declared.wanted.Wanted.TheVariants.{CommaOrCloseSquare}
use Rattle.ladr_commands.proofs.interpretation.numeral.Goals as goal

pub returns-clause-bad : goal.returns-clause-bad
returns-clause-bad c = λ e read onward. as_number read onward c.args.cursor.now ∙ c.take.ensures.bad e (λ t. token CommaOrCloseSquare (behind_number (read ++ number_said t ∷ []) onward))
