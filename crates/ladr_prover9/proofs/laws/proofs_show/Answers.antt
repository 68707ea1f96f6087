-- Where proofs stand in an output they are refutations, and leave no countermodel.
use Rattle.std.proofs.Common.{ℕ, List}
use Rattle.ladr_formulas.specs.declared.styles.Mode.{Mode}
use Rattle.ladr_problem.specs.File.{Says, problem}
use Rattle.ladr_problem.specs.Proper.{IsProper}
use Rattle.ladr_problem.specs.Sofar.{Sofar, stated_in}
use Rattle.ladr_prover9.proofs.Knowing.{asked_none, show_by}
use Rattle.ladr_prover9.proofs.Leaving.{asked_leaves}
use Rattle.ladr_prover9.proofs.NoTerms.{firsts_none}
use Rattle.ladr_prover9.proofs.Numbered.{asked_numbered}
use Rattle.ladr_prover9.proofs.laws.proofs_show.Goals as goal

pub returns-clause-show : goal.returns-clause-show
returns-clause-show c =
    let proper : (m : Mode) (bytes : List ℕ) (s : Sofar) → Says m bytes (problem s) → IsProper (stated_in s) s.settings.options = λ m bytes s h. c.problems_are_proper.ensures m s (c.problems_grow.ensures m bytes s h) in
    let order = c.axioms_are_in_order.ensures in
    show_by c.one_outcome.ensures c.proofs_refute.ensures.found c.lines_are_fit.ensures.lines c.quests_are_sound.ensures (asked_numbered proper)
    (λ bytes q asked lines none within refute. asked_leaves proper c.lines_without_elements.ensures c.no_countermodel.ensures order.order order.new bytes q asked within.witnesses lines
    (c.lines_name_no_elements.ensures.none _ _ _ (λ k. asked_none c.prover_names_no_element.ensures.formulas k bytes q asked) (firsts_none lines none) refute.0) refute)
