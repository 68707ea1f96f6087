-- The text so far, and that of the answers to come, is that of all.
use Rattle.std.proofs.Common.{◌≡◌, ◌++◌, drop}
use Rattle.answers.specs.AnswerView.{answers_of}
use Rattle.ladr_lex.specs.ClauseNames.{clause_variable}
use Rattle.ladr_reader.specs.Table.{table_of}
use Rattle.proof_print.specs.AnsweredTexts.{answers_bytes}
use Rattle.proof_print.proofs.answered.add_answers.Given as goal

abbrev pub invariant-loop-answer : goal.invariant-loop-answer
invariant-loop-answer l =
    l.out.items ++ answers_bytes (table_of l.ops) l.symbols (clause_variable l.prolog) (answers_of (drop l.answer-index l.answers))
    ≡ l.fn.out.items ++ answers_bytes (table_of l.ops) l.symbols (clause_variable l.prolog) (answers_of l.answers)
