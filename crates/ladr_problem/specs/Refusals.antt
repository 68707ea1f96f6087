-- The refusal of an item by what its parts answer.
use Rattle.ladr_commands.specs.declared.fault.CommandFault.{CommandFault}
use Rattle.ladr_commands.specs.declared.fault.CommandFault.TheVariants as command_fault
use Rattle.ladr_problem.specs.declared.refusal.Limit.TheVariants as limit
use Rattle.ladr_problem.specs.declared.refusal.Refusal.{Refusal}
use Rattle.ladr_problem.specs.declared.refusal.Refusal.TheVariants.{Bad, Large, Misused, Memory}
use Rattle.ladr_reader.specs.declared.fault.TermFault.{TermFault}
use Rattle.ladr_reader.specs.declared.fault.TermFault.TheVariants as term_fault
use Rattle.ladr_settings.specs.declared.settings.SettingsError.{SettingsError}
use Rattle.ladr_settings.specs.declared.settings.SettingsError.TheVariants as misuse

abbrev pub by_command : CommandFault → Refusal
by_command (command_fault.Bad k) = Bad k
by_command command_fault.Memory = Memory

abbrev pub by_term : TermFault → Refusal
by_term (term_fault.Bad k) = Bad k
by_term term_fault.Deep = Large limit.Nesting
by_term term_fault.Memory = Memory

abbrev pub by_misuse : SettingsError → Refusal
by_misuse (misuse.Misused k) = Misused k
by_misuse misuse.Memory = Memory
