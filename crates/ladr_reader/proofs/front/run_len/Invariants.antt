-- The run goes on so far.
use Rattle.std.proofs.Common.{◌≡◌, ◌+◌, ◌≤◌, length, drop}
use Rattle.ladr_lex.specs.Lexeme.{lexemes_of}
use Rattle.ladr_reader.specs.Fronts.{term_run}
use Rattle.ladr_reader.proofs.front.run_len.Given as goal

abbrev pub invariant-loop-i : goal.invariant-loop-i
invariant-loop-i l = record {
  few : l.unclosed ≤ l.i;
  so_far : l.i + length (term_run l.unclosed (drop l.i (lexemes_of l.tokens))) ≡ length (term_run 0 (lexemes_of l.tokens));
}
