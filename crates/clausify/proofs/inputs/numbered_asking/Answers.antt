use Rattle.std.proofs.Common.{List, [], ◌∷◌, map, ap, ap₂, ◌∙◌}
use Rattle.answers.specs.AnswerTrees as trees
use Rattle.answers.specs.AnswerView.{answers_of}
use Rattle.answers.proofs.Prefix.{numbered_is}
use Rattle.fol_core.specs.Renumbered.{renumbered}
use Rattle.fol_core.specs.Tree.{var, trees_of}
use Rattle.clausify.proofs.inputs.numbered_asking.Goals as goal

pub returns-clause-clause : goal.returns-clause-clause
returns-clause-clause c = c.in_ok-clause.ensures.clause ∙ numbered_is c.in_ok-copy.field-0 (answers_of c.in_ok-answers.answers.items) ∙ ap renumbered c.in_ok-copy.ensures

pub returns-clause-terms : goal.returns-clause-terms
returns-clause-terms c =
    let asking : List trees.Answer = trees.answer 0 (trees_of (map var c.args.asked.now)) ∷ [] in
    let one = trees.substitute_answer (trees.numbering c.args.clause.now asking) (trees.answer 0 (trees_of (map var c.args.asked.now))) in
    c.terms_alone-terms.ensures one (c.in_ok-clause.ensures.answers ∙ ap₂ trees.numbered_answers c.in_ok-copy.ensures c.in_ok-answers.ensures)
