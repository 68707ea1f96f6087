-- The machine has run over the tokens so far.
use Rattle.std.proofs.Common.{◌≡◌, ◌++◌, ◌∷◌, [], Some, take}
use Rattle.ladr_lex.specs.Lexeme.{full_stop, lexemes_of}
use Rattle.ladr_reader.specs.Machine.{standing, go, Operand}
use Rattle.ladr_reader.specs.ReadingView.{standing_of}
use Rattle.ladr_reader.specs.Table.{table_of}
use Rattle.ladr_reader.proofs.front.read_run.Given as goal

abbrev pub invariant-loop-i : goal.invariant-loop-i
invariant-loop-i l = go l.build.most (table_of l.ops) (standing (Some Operand) []) (take l.i (lexemes_of l.tokens ++ full_stop ∷ [])) ≡ standing (Some (standing_of l.reading)) l.stack
