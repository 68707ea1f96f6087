use Rattle.std.proofs.Common.{Option, ◌∙◌, ℕ, List, ap, length, arith}
use Rattle.fol_core.specs.FormulaView.{fol_of}
use Rattle.fol_core.specs.Free.{free_vars_of}
use Rattle.fol_core.proofs.Variables.{free_vars_once}
use Rattle.model_tables.proofs.Elements.{same_room}
use Rattle.model_tables.proofs.Numbers.{number_below}
use Rattle.model_tables.proofs.Stepped.{closed_room, inner_room, zero_digits, zero_number, passed_more, passed_all, fails}
use Rattle.model_tables.proofs.closures.closure_truth.Goals as goal

pub clear-requires : goal.clear-requires
clear-requires c = rw c.requires.variables (closed_room _ (fol_of c.args.formula.now.shape) _ c.requires.room)

pub loop-env-init : goal.loop-env-init
loop-env-init c = record {
  room = c.clear.ensures.room;
  digits = rw c.clear.ensures.zero (zero_digits _ _);
  passed = λ d within less. absurd (omega (arith, rw c.clear.ensures.zero at less, zero_number c.args.tables.now.top c.args.variables.now));
}

pub truth-requires : goal.truth-requires
truth-requires c = omega (arith, c.loop-env.invariant.room, inner_room (free_vars_of (fol_of c.args.formula.now.shape)) (fol_of c.args.formula.now.shape), c.requires.room)

pub advance-requires-clause-room : goal.advance-requires-clause-room
advance-requires-clause-room c = same_room _ _ _ (ap (λ (s : List (Option ℕ)). length s) c.truth.ensures.same ∙ c.loop-env.invariant.room) (rw c.requires.variables (closed_room _ (fol_of c.args.formula.now.shape) _ c.requires.room))

pub advance-requires-clause-apart : goal.advance-requires-clause-apart
advance-requires-clause-apart c = rw c.requires.variables (free_vars_once (fol_of c.args.formula.now.shape))

pub returns-then-not-advance-clause-truth : goal.returns-then-not-advance-clause-truth
returns-then-not-advance-clause-truth c =
    passed_all c.args.tables.now (fol_of c.args.formula.now.shape) _ c.requires.variables _ c.loop-env.invariant.digits c.loop-env.invariant.passed c.loop-env-test.ensures.truth
    (rw c.truth.ensures.same at c.if-not-advance.ensures.next)

pub loop-env-smaller : goal.loop-env-smaller
loop-env-smaller c =
    let next = rw c.truth.ensures.same at c.if-not-advance.ensures.next in
    omega (arith, next, number_below _ _ c.loop-env.invariant.digits)

pub loop-env-preserved : goal.loop-env-preserved
loop-env-preserved c = record {
  room = c.advance.ensures.room ∙ (ap (λ (s : List (Option ℕ)). length s) c.truth.ensures.same ∙ c.loop-env.invariant.room);
  digits = c.advance.ensures.digits;
  passed = passed_more c.args.tables.now (fol_of c.args.formula.now.shape) _ c.requires.variables _ c.loop-env.invariant.digits _ c.loop-env.invariant.passed c.loop-env-test.ensures.truth
      (rw c.truth.ensures.same at c.if-not-advance.ensures.next);
}

pub returns-clause-truth : goal.returns-clause-truth
returns-clause-truth c = fails c.args.tables.now (fol_of c.args.formula.now.shape) _ c.requires.variables _ c.loop-env.invariant.digits c.loop-env-test.ensures.truth
