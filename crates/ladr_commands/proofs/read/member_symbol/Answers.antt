use Rattle.std.proofs.Common.{◌∙◌}
use Rattle.ladr_commands.proofs.Forms.{as_token}
use Rattle.ladr_commands.specs.Form.{behind_text}
use Rattle.ladr_commands.specs.declared.wanted.Wanted.TheVariants.{Symbol}
use Rattle.ladr_commands.proofs.read.member_symbol.Goals as goal

pub returns-clause-bad : goal.returns-clause-bad
returns-clause-bad c = λ e read onward. as_token Symbol read onward c.args.cursor.now ∙ c.take.ensures.bad e (λ t. behind_text read t onward)
