-- the marks so far, and those to come
use Rattle.std.proofs.Common.{◌≡◌, ◌++◌, drop}
use Rattle.ladr_lex.specs.Lexeme.{lexemes_of}
use Rattle.proof_lines.specs.AnswerMarks.{answer_marks, marks_from}
use Rattle.proof_lines.proofs.marks.answer_marks.Given as goal

abbrev pub invariant-loop-token : goal.invariant-loop-token
invariant-loop-token l = answer_marks (lexemes_of l.tokens) ≡ l.marks.items ++ marks_from l.spot (lexemes_of (drop l.token-index l.tokens))
