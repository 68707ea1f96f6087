use Rattle.std.proofs.Common.{List, ap, ap₂, subst}
use Rattle.answered_lines.specs.Lines.{with_terms}
use Rattle.fol_core.specs.SkolemAxioms.{SkolemAxiom, AreInOrder}
use Rattle.fol_problem.specs.Stated.{AreNewTo}
use Rattle.ladr_check.proofs.Judgings.{comes_by}
use Rattle.ladr_check.specs.Offered.{proofs_in, offered_by}
use Rattle.ladr_check.specs.Outcomes.{HasNewSkolems}
use Rattle.ladr_check.proofs.judging.judge_proofs.Goals as goal

pub returns-in-Ok : goal.returns-in-Ok
returns-in-Ok c =
    let x = offered_by c.args.read in
    let made = c.in-Ok.ensures in
    let new : HasNewSkolems x = (subst (λ (ws : List SkolemAxiom). AreNewTo x.stated.formulas ws) made.skolem made.new, subst AreInOrder made.skolem made.order) in
    comes_by x _ _ c.check_proofs.result made.within new (ap₂ with_terms made.clauses made.answers) (ap proofs_in c.deref.ensures.value) c.check_proofs.ensures
