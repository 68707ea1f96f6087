-- The pass stands here behind the tokens so far, and these are the names among them.
use Rattle.std.proofs.Common.{◌≡◌, Some, take}
use Rattle.ladr_lex.specs.Lexeme.{lexemes_of}
use Rattle.ladr_distinct.specs.NamesPass.{names_run, names_in}
use Rattle.ladr_reader.specs.Table.{table_of}
use Rattle.ladr_distinct.specs.declared.bracketed.NamesPlace.TheVariants.{AtStart}
use Rattle.ladr_distinct.proofs.bracketed.read_names.Given as goal

abbrev pub invariant-loop-i : goal.invariant-loop-i
invariant-loop-i l = record {
  run : names_run (table_of l.ops) (Some AtStart) (take l.i (lexemes_of l.tokens)) ≡ Some l.place;
  names : l.names ≡ names_in (table_of l.ops) (take l.i (lexemes_of l.tokens));
}
