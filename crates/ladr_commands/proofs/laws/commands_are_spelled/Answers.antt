use Rattle.ladr_commands.proofs.Reading.{command_spelled, interpretation_spelled}
use Rattle.ladr_commands.proofs.Spelling.{command_said, interpretation_said}
use Rattle.ladr_commands.proofs.laws.commands_are_spelled.Goals as goal

pub returns-clause-commands : goal.returns-clause-commands
returns-clause-commands _ = λ b ts c. (command_spelled b ts c, command_said b ts c)

pub returns-clause-interpretations : goal.returns-clause-interpretations
returns-clause-interpretations _ = λ ts it. (interpretation_spelled ts it, interpretation_said ts it)
