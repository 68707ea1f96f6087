-- The machine has run over the tokens so far, and those left tell how many parentheses are open at once.
use Rattle.std.proofs.Common.{◌≡◌, ◌≤◌, [], Some, max, take, drop}
use Rattle.ladr_lex.specs.Lexeme.{lexemes_of}
use Rattle.ladr_reader.specs.Machine.{standing, go, Operand}
use Rattle.ladr_reader.specs.Marks.{marked}
use Rattle.ladr_reader.specs.Nesting.{most_open}
use Rattle.ladr_reader.specs.ReadingView.{standing_of}
use Rattle.ladr_reader.specs.Table.{table_of}
use Rattle.ladr_reader.proofs.read.read_shallow.Given as goal

abbrev pub invariant-loop-i : goal.invariant-loop-i
invariant-loop-i l = record {
  run : go l.build.most (table_of l.ops) (standing (Some Operand) []) (take l.i (marked l.names (lexemes_of l.tokens))) ≡ standing (Some (standing_of l.reading)) l.stack;
  few : l.parentheses.unclosed ≤ l.i;
  most : max l.parentheses.most (most_open l.parentheses.unclosed (drop l.i (marked l.names (lexemes_of l.tokens)))) ≡ most_open 0 (marked l.names (lexemes_of l.tokens));
}
