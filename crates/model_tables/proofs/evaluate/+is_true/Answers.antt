use Rattle.std.proofs.Common.{subst, MatchBool}
use Rattle.fol_core.specs.FormulaView.{fol_of}
use Rattle.fol_core.specs.Truth.{Holds, Assignment}
use Rattle.model_tables.specs.Tables.{meaning_of}
use Rattle.model_tables.proofs.Slots.{set_back, with_slot}
use Rattle.model_tables.proofs.evaluate.+is_true.Goals as goal

pub true_at-returns-clause-same : goal.true_at-returns-clause-same
true_at-returns-clause-same t c =
    rw (c.put-2.ensures, c.is_true-result.ensures.same, c.put.ensures, c.get-before.ensures) (set_back c.args.env.now c.args.variable c.args.element c.requires.slot)

pub true_at-returns-clause-truth : goal.true_at-returns-clause-truth
true_at-returns-clause-truth t c =
    let P : Assignment → Type 0 = λ e. MatchBool c.is_true-result.result (Holds (meaning_of c.args.tables.now) e (fol_of c.args.shape.now)) (¬ Holds (meaning_of c.args.tables.now) e (fol_of c.args.shape.now)) in
    subst P (with_slot c.args.env.now c.args.variable c.args.element c.requires.slot) (rw c.put.ensures at c.is_true-result.ensures.truth)

pub is_true-returns-in-Exists-clause-truth : goal.is_true-returns-in-Exists-clause-truth
is_true-returns-in-Exists-clause-truth t c = rw (c.in-Exists.is, ← c.shape-in-Exists.ensures) c.true_of_some.ensures.truth
