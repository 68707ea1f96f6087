-- One answer more, which was there or wasn't.
use Rattle.std.proofs.Common.{[], ◌∙◌, sym, ap}
use Rattle.std.specs.List.{list_any}
use Rattle.std.proofs.lemmas.List.{map_push}
use Rattle.answers.specs.AnswerTrees.{all_added, same_answer}
use Rattle.answers.specs.AnswerView.{answer_of, answers_of}
use Rattle.answers.proofs.Among.{added_there, added_new}
use Rattle.answers.proofs.several.each_once.Goals as goal

pub loop-answer-preserved-in-Continue-1 : goal.loop-answer-preserved-in-Continue-1
loop-answer-preserved-in-Continue-1 c =
    ap answers_of c.in_ok-push.ensures.items
    ∙ map_push answer_of c.loop-answer.kept.items c.in-Some.answer
    ∙ added_new (answers_of c.loop-answer.kept.items) (answers_of c.loop-answer.yielded) (answer_of c.in-Some.answer) c.loop-answer.invariant
    (ap (λ us. list_any (same_answer (answer_of c.in-Some.answer)) (answers_of us)) (sym c.deref.ensures.value) ∙ sym c.if-not-is_among.ensures)
    ∙ ap (all_added []) (sym (map_push answer_of c.loop-answer.yielded c.in-Some.answer))

pub loop-answer-preserved : goal.loop-answer-preserved
loop-answer-preserved c =
    added_there (answers_of c.loop-answer.kept.items) (answers_of c.loop-answer.yielded) (answer_of c.in-Some.answer) c.loop-answer.invariant
    (ap (λ us. list_any (same_answer (answer_of c.in-Some.answer)) (answers_of us)) (sym c.deref.ensures.value) ∙ sym c.if-not-is_among.ensures)
    ∙ ap (all_added []) (sym (map_push answer_of c.loop-answer.yielded c.in-Some.answer))
