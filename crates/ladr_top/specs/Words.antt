-- Words that are no command.
use Rattle.std.specs.Prelude.{ℕ, List, codes}
use Rattle.ladr_output.specs.Telling.{as_line}

abbrev pub no_command_line : List ℕ
no_command_line = as_line (codes "ladr: no such command")
