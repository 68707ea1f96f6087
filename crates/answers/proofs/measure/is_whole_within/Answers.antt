use Rattle.std.proofs.Common.{◌∙◌}
use Rattle.answers.specs.AnswerTrees.{riders}
use Rattle.answers.specs.AnswerView.{answers_of}
use Rattle.answers.proofs.Measures.{within_both}
use Rattle.answers.proofs.measure.is_whole_within.Goals as goal

pub returns-in-Some : goal.returns-in-Some
returns-in-Some c =
    c.is_some.ensures
    ∙ within_both c.args.clause.now (riders (answers_of c.args.answers.now)) c.args.room c.in-Some.left c.left_behind_answers.result c.in-Some.ensures c.left_behind_answers.ensures
