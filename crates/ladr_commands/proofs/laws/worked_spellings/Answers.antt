use Rattle.std.proofs.Common.{true, false, refl}
use Rattle.ladr_commands.specs.Commands.{commands, tester_commands}
use Rattle.ladr_commands.specs.Worked.{flag, negative, sign, zeros, operators, empty_list, cut_off, exchange, order, no_entries}
use Rattle.ladr_commands.proofs.Forms.{first_bad}
use Rattle.ladr_commands.proofs.Reading.{command_spelled, interpretation_spelled}
use Rattle.ladr_commands.proofs.Spelling.{command_said}
use Rattle.ladr_commands.proofs.laws.worked_spellings.Goals as goal

pub returns-clause-flag : goal.returns-clause-flag
returns-clause-flag _ = command_spelled false flag _ refl

pub returns-clause-negative : goal.returns-clause-negative
returns-clause-negative _ = command_spelled false negative _ refl

pub returns-clause-sign : goal.returns-clause-sign
returns-clause-sign _ = command_spelled false sign _ refl

pub returns-clause-operators : goal.returns-clause-operators
returns-clause-operators _ = command_spelled false operators _ refl

pub returns-clause-order : goal.returns-clause-order
returns-clause-order _ = command_spelled false order _ refl

pub returns-clause-entries : goal.returns-clause-entries
returns-clause-entries _ = command_spelled true exchange _ refl

pub returns-clause-no_entries : goal.returns-clause-no_entries
returns-clause-no_entries _ = interpretation_spelled no_entries _ refl

pub returns-clause-zeros : goal.returns-clause-zeros
returns-clause-zeros _ = λ c h. (first_bad commands zeros _ refl).1 c (command_said false zeros c h)

pub returns-clause-empty_list : goal.returns-clause-empty_list
returns-clause-empty_list _ = λ c h. (first_bad tester_commands empty_list _ refl).1 c (command_said true empty_list c h)

pub returns-clause-cut_off : goal.returns-clause-cut_off
returns-clause-cut_off _ = λ c h. (first_bad commands cut_off _ refl).1 c (command_said false cut_off c h)

pub returns-clause-other_program : goal.returns-clause-other_program
returns-clause-other_program _ = λ c h. (first_bad commands exchange _ refl).1 c (command_said false exchange c h)
