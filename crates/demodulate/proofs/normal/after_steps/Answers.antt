use Rattle.std.proofs.Common.{◌≡◌, ap, subst, sym, ◌∙◌, ◌+◌, ◌-◌, ◌∷◌, suc, map, Some, arith}
use Rattle.std.proofs.lemmas.Grind.{common_steps}
use Rattle.derivation.specs.View.{later_of}
use Rattle.fol_core.specs.TermView.{tree_of}
use Rattle.inference.specs.Followed.{with_part}
use Rattle.demodulate.specs.Resumed.{AreLiteralsNormalBefore}
use Rattle.demodulate.specs.Steps.{IsTaken, taken_clause, taken_word}
use Rattle.demodulate.proofs.Redexes.{steps_left, steps_on}
use Rattle.demodulate.proofs.Resuming.{clause_before}
use Rattle.prover_steps.specs.Rewriting.{clause_step}
use Rattle.prover_steps.specs.Searching.{is_too_large}
use Rattle.demodulate.proofs.normal.after_steps.Goals as goal

pub loop-step-preserved : goal.loop-step-preserved
loop-step-preserved c =
    let step = c.in-Some.taken in
    let taken : IsTaken c.loop-step.clause (clause_step c.args.rules.now 0 c.loop-step.clause) (Some step) = subst (IsTaken c.loop-step.clause (clause_step c.args.rules.now 0 c.loop-step.clause)) c.in-Some.is c.in_ok-taken.ensures.step in
    let changed : c.exchange-old.new.clause ≡ taken_clause c.loop-step.clause step =
    c.exchange-old.ensures.changed ∙ ap (λ p. with_part c.loop-step.clause step.place p (tree_of step.part)) c.as_slice-in-loop-step.ensures.value in
    let next : c.args.limit - c.loop-step._step ≡ suc (c.args.limit - (c.loop-step._step + 1)) = omega (arith, c.loop-step-test.true) in
    record {
      same =
          ap (λ d. steps_left is_too_large c.args.rules.now (c.args.limit - (c.loop-step._step + 1)) d (map later_of c.push.new.self.items)) changed
          ∙ sym (steps_on is_too_large c.args.rules.now (c.args.limit - c.loop-step._step) (c.args.limit - (c.loop-step._step + 1)) c.loop-step.clause (map later_of c.loop-step.words.items) (taken_word step) (taken_clause c.loop-step.clause step)
          (map later_of c.push.new.self.items) (sym taken.0) taken.1 next (grind (arith, common_steps, c.in_ok-push.ensures.items)))
          ∙ c.loop-step.invariant.same;
      before =
          subst (λ p. AreLiteralsNormalBefore c.args.rules.now p 0 c.exchange-old.new.clause) (sym (c.in_ok-from.ensures ∙ ap (λ p. step.place ∷ p) c.as_slice-in-loop-step-2.ensures.value))
          (subst (λ d. AreLiteralsNormalBefore c.args.rules.now (step.place ∷ step.path.items) 0 d) (sym changed)
          (clause_before c.args.rules.now c.loop-step.clause step.rule step.place step.path.items (taken_clause c.loop-step.clause step) taken.0));
      known = c.next_step.ensures.known;
      on = omega (arith, c.loop-step.invariant.on, c.next_step.ensures.on);
    }
