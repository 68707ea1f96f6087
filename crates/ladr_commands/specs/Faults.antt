-- Why tokens are no command.
use Rattle.std.specs.Prelude.{ℕ, ◌+◌, ◌≤◌, ◌<◌, List, ◌++◌, length, take}
use Rattle.ladr_lex.specs.Lexeme.{Lexeme}
use Rattle.ladr_commands.specs.Form.{Form, SaysCommand}
use Rattle.ladr_commands.specs.declared.command.Command.{Command}
use Rattle.ladr_commands.specs.declared.fault.CommandFault.{CommandFault}
use Rattle.ladr_commands.specs.declared.fault.CommandFault.TheVariants.{Bad, Memory}

-- some item of this form begins with these tokens
pub record BeginsCommand (f : Form) (ts : List Lexeme) : Type 0 where
  pub more : List Lexeme
  pub command : Command
  pub says : SaysCommand f (ts ++ more) command

-- Token k is the first that goes on with no item of this form, or the tokens end there too early:
-- some item begins with the k tokens before it, and none with it as well.
pub record IsBadCommandToken (f : Form) (ts : List Lexeme) (k : ℕ) : Type 0 where
  pub within : k ≤ length ts
  pub before : BeginsCommand f (take k ts)
  pub here : k < length ts → ¬ BeginsCommand f (take (k + 1) ts)

-- The tokens are no such item, and this one is the first bad one; nothing is said of memory.
abbrev pub IsCommandFault : Form → List Lexeme → CommandFault → Type 0
IsCommandFault f ts (Bad k) = IsBadCommandToken f ts k × ((c : Command) → ¬ SaysCommand f ts c)
IsCommandFault f ts Memory = Unit {0}
