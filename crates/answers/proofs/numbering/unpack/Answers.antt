-- One literal more, which is an answer or none.
use Rattle.std.proofs.Common.{◌++◌, ◌∷◌, [], ◌∙◌, sym, ap, map}
use Rattle.std.proofs.lemmas.List.{append-nil, map_push}
use Rattle.fol_core.specs.ClauseView.{literal_of}
use Rattle.fol_core.specs.TermView.{tree_of}
use Rattle.answers.specs.AnswerView.{answer_of, answers_of}
use Rattle.answers.specs.Packed.{answer_in, unpacked}
use Rattle.answers.proofs.Packing.{no_answer, unpacked_next}
use Rattle.answers.proofs.numbering.unpack.Goals as goal

pub loop-literal-preserved-in-Continue-branch-2 : goal.loop-literal-preserved-in-Continue-branch-2
loop-literal-preserved-in-Continue-branch-2 c =
    ap answers_of c.in_ok-push.ensures.items
    ∙ map_push answer_of c.loop-literal.answers.items _
    ∙ ap (λ us. us ++ answer_of (record { goal = c.in-App.goal.0; terms = c.in-App.terms }) ∷ []) c.loop-literal.invariant
    ∙ sym (unpacked_next c.loop-literal.yielded c.in-Some.literal ∙ ap (λ t. unpacked (map literal_of c.loop-literal.yielded) ++ answer_in (tree_of t)) c.in-App.is)

pub loop-literal-preserved : goal.loop-literal-preserved
loop-literal-preserved c =
    c.loop-literal.invariant
    ∙ sym (unpacked_next c.loop-literal.yielded c.in-Some.literal ∙ ap (λ us. unpacked (map literal_of c.loop-literal.yielded) ++ us) (no_answer c.in-Some.literal.atom c.in_default.not-App) ∙ append-nil (unpacked (map literal_of c.loop-literal.yielded)))
