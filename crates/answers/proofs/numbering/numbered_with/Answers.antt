-- The whole is numbered, and then taken apart.
use Rattle.std.proofs.Common.{◌≡◌, ◌++◌, ◌∙◌, ap, map, take, drop}
use Rattle.fol_core.specs.ClauseView.{literal_of}
use Rattle.fol_core.specs.Literals.{literal}
use Rattle.fol_core.specs.Renumbered.{by_place, renumbered}
use Rattle.fol_core.specs.Substitutions.{substitute}
use Rattle.substitutions.specs.Instances.{substitute_literal}
use Rattle.answers.specs.AnswerTrees.{numbering}
use Rattle.answers.specs.AnswerView.{answers_of}
use Rattle.answers.specs.Packed.{packed, unpacked}
use Rattle.answers.proofs.Packing.{before, behind, unpacked_put, whole_variables}
use Rattle.answers.proofs.numbering.numbered_with.Goals as goal

whole_is : (c : goal.In_ok-answers) → map literal_of c.numbered.inside.literals.items ≡ map (substitute_literal (numbering c.args.clause (answers_of c.args.answers.items))) (c.args.clause ++ packed (answers_of c.args.answers.items))
whole_is c =
    c.numbered.view_is ∙ c.in_ok-numbered.ensures ∙ ap renumbered c.in_ok-pack.ensures
    ∙ ap (λ xs. map (λ l. literal l.positive (substitute (by_place xs) l.atom)) (c.args.clause ++ packed (answers_of c.args.answers.items))) (whole_variables c.args.clause (answers_of c.args.answers.items))

pub returns-clause-clause : goal.returns-clause-clause
returns-clause-clause c =
    ap (map literal_of) (c.in_ok-behind.ensures.items ∙ ap (λ n. take n c.numbered.inside.literals.items) c.len-own.ensures)
    ∙ before (substitute_literal (numbering c.args.clause (answers_of c.args.answers.items))) c.numbered.inside.literals.items c.args.clause (packed (answers_of c.args.answers.items)) (whole_is c)

pub returns-clause-answers : goal.returns-clause-answers
returns-clause-answers c =
    c.in_ok-answers.ensures
    ∙ ap (λ ls. unpacked (map literal_of ls)) (c.in_ok-behind.ensures.tail ∙ ap (λ n. drop n c.numbered.inside.literals.items) c.len-own.ensures)
    ∙ ap unpacked (behind (substitute_literal (numbering c.args.clause (answers_of c.args.answers.items))) c.numbered.inside.literals.items c.args.clause (packed (answers_of c.args.answers.items)) (whole_is c))
    ∙ unpacked_put (numbering c.args.clause (answers_of c.args.answers.items)) (answers_of c.args.answers.items)
