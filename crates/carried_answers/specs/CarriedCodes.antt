-- How the logic stores clauses with answers.
use Rattle.std.specs.Prelude.{ℕ, List, refl}
use Rattle.std.specs.Coded.{Coded, code_by, coded×, coded_ℕ, coded_list}
use base.Stored.{Gv}
use denote.Struct.Codes.{itself}
use Rattle.answers.specs.AnswerTrees.{Answer, answer}
use Rattle.carried_answers.specs.Carried.{Carried, carried}
use Rattle.fol_core.specs.LitCodes.{coded_clause}
use Rattle.fol_core.specs.Literals.{ClauseTree}
use Rattle.fol_core.specs.Tree.{Trees}
use Rattle.fol_core.specs.TreeCodes.{trees_back, trees_code, trees_from}

abbrev pub coded_terms : Coded Trees
coded_terms = code_by Gv itself trees_code trees_from trees_back

abbrev pub coded_answer : Coded Answer
coded_answer =
    code_by (ℕ × Trees) (coded× coded_ℕ coded_terms) (λ a. (a.goal, a.terms))
    (λ p. answer p.0 p.1) (λ _. refl)

abbrev pub coded_carried : Coded Carried
coded_carried =
    code_by (ClauseTree × List Answer) (coded× coded_clause (coded_list coded_answer))
    (λ a. (a.clause, a.answers)) (λ p. carried p.0 p.1) (λ _. refl)
