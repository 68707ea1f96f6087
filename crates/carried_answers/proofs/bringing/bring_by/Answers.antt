-- By the match.
use Rattle.answers.specs.AnswerView.{answers_of}
use Rattle.carried_answers.specs.Brought.{IsUsedAt}
use Rattle.carried_answers.proofs.BringSteps.{on_ok, used_at}
use Rattle.carried_answers.proofs.bringing.bring_by.Goals as goal
use Rattle.fol_core.specs.TermView.{tree_of}
use Rattle.shared_clauses.specs.Used.{IsUsedOn}

pub returns : goal.returns
returns c =
    on_ok c.push_used.result
    (IsUsedOn c.args.whole.now c.args.place c.args.path.now (tree_of c.args.general.now) c.in_ok-used.used c.in_ok-fresh.fresh c.push_used.new.self)
    (IsUsedAt c.args.whole.now c.args.place c.args.path.now (tree_of c.args.general.now) (answers_of c.args.answers.now) c.push_used.new.self)
    (λ used. used_at c.args.whole.now c.push_used.new.self c.args.place c.args.path.now (tree_of c.args.general.now) (answers_of c.args.answers.now) c.in_ok-used.used c.in_ok-fresh.fresh c.in_ok-used.ensures c.in_ok-fresh.ensures used)
    c.push_used.ensures
