-- The control stands here behind the tokens so far.
use Rattle.std.proofs.Common.{take}
use Rattle.ladr_lex.specs.Lexeme.{lexemes_of}
use Rattle.ladr_reader.specs.Marks.{marked}
use Rattle.ladr_reader.specs.Table.{table_of}
use Rattle.ladr_reader.proofs.Recognized.{IsControl}
use Rattle.ladr_reader.proofs.recognizing.recognize.Given as goal

abbrev pub invariant-loop-i : goal.invariant-loop-i
invariant-loop-i l = IsControl (table_of l.ops) (take l.i (marked l.names (lexemes_of l.tokens))) l.place l.waits
