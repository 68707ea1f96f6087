-- By the word.
use Rattle.std.proofs.Common.{OnOk, List, ℕ, ap, sym, subst}
use Rattle.carried_answers.specs.Brought.{BringsBehind}
use Rattle.carried_answers.specs.Carried.{lent_answers}
use Rattle.carried_answers.proofs.bringing.bring.Goals as goal
use Rattle.derivation.specs.Later.{LaterWord, rewritten}
use Rattle.derivation.specs.View.{later_of}
use Rattle.inference.specs.Lent.{lent_clauses}

pub returns-in-UnitDel : goal.returns-in-UnitDel
returns-in-UnitDel c =
    subst (λ (w : LaterWord). OnOk c.bring_unit.result (BringsBehind w c.args.whole.now (lent_clauses c.args.parents.now) (lent_answers c.args.answers.now) c.bring_unit.new.whole)) (ap later_of (sym c.in-UnitDel.is)) (c.bring_unit.ensures c.in-UnitDel.field-1)

pub returns-in-Rewrite : goal.returns-in-Rewrite
returns-in-Rewrite c =
    let old = c.args.whole.now in
    let new = c.bring_rule.new.whole in
    subst (λ (w : LaterWord). OnOk c.bring_rule.result (BringsBehind w old (lent_clauses c.args.parents.now) (lent_answers c.args.answers.now) new)) (ap later_of (sym c.in-Rewrite.is))
    (subst (λ (path : List ℕ). OnOk c.bring_rule.result (BringsBehind (rewritten c.in-Rewrite.entry.rule c.in-Rewrite.entry.literal path) old (lent_clauses c.args.parents.now) (lent_answers c.args.answers.now) new)) c.as_slice-path.ensures.value (c.bring_rule.ensures c.in-Rewrite.entry.rule))
