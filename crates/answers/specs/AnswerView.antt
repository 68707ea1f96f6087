-- The answers of the code.
use Rattle.std.specs.Prelude.{List, map}
use Rattle.fol_core.specs.Tree.{trees_of}
use Rattle.answers.specs.AnswerTrees as trees
use Rattle.answers.specs.declared.answer.Answer.{Answer}

abbrev pub answer_of : Answer → trees.Answer
answer_of a = trees.answer a.goal (trees_of a.terms)

abbrev pub answers_of : List Answer → List trees.Answer
answers_of us = map answer_of us
