use Rattle.std.proofs.Common.{◌≡◌, ap, subst, sym, ◌∙◌, map, Some, None, true, arith}
use Rattle.std.specs.Option.{option_map}
use Rattle.fol_core.specs.ClauseView.{literal_of}
use Rattle.fol_core.specs.TermView.{tree_of}
use Rattle.demodulate.specs.Resumed.{is_passed, place_within, IsNormalBefore, AreLiteralsNormalBefore}
use Rattle.demodulate.specs.Steps.{step_in_term, step_at, placed_step}
use Rattle.inference.proofs.Placing.{atom_there}
use Rattle.demodulate.proofs.Redexes.{literal_step, normal_literals_more}
use Rattle.demodulate.proofs.Resuming.{literal_before}
use Rattle.prover_steps.specs.Rewriting.{atom_step, clause_step}
use Rattle.demodulate.proofs.normal.first_in_clause.Goals as goal

pub returns-in-Some-clause-step : goal.returns-in-Some-clause-step
returns-in-Some-clause-step c =
    subst (λ d. Some (placed_step d (record { place = c.loop-place.place; step = c.in-Some.step })) ≡ clause_step c.args.rules.now 0 d) (ap (map literal_of) c.deref-literal-items.ensures.value ∙ c.clause.view_is)
    (ap (λ t. Some (step_at (map literal_of c.deref-literal-items.result.now) c.loop-place.place (step_in_term t c.in-Some.step))) (atom_there c.deref-literal-items.result.now c.loop-place.place c.literal-item.result c.loop-place-test.true c.literal-item.is)
    ∙ literal_step c.args.rules.now c.deref-literal-items.result.now c.loop-place.place c.literal-item.result (step_in_term (tree_of c.literal-item.result.atom) c.in-Some.step) c.loop-place-test.true c.literal-item.is c.loop-place.invariant.normal
    (sym c.in_ok-step.ensures.step ∙ ap (option_map (step_in_term (tree_of c.literal-item.result.atom))) c.in-Some.is))

pub loop-place-preserved-then-is_passed : goal.loop-place-preserved-then-is_passed
loop-place-preserved-then-is_passed c =
    let before : AreLiteralsNormalBefore c.args.rules.now c.args.from.now 0 (map literal_of c.deref-literal-items.result.now) =
    subst (AreLiteralsNormalBefore c.args.rules.now c.args.from.now 0) (sym (ap (map literal_of) c.deref-literal-items.ensures.value ∙ c.clause.view_is)) c.requires.before
    in
    let known : (is_passed c.loop-place.place c.args.from.now ≡ true → atom_step c.args.rules.now (tree_of c.literal-item.result.atom) ≡ None) × IsNormalBefore c.args.rules.now (place_within c.loop-place.place c.args.from.now) (tree_of c.literal-item.result.atom) =
    literal_before c.args.rules.now c.args.from.now c.deref-literal-items.result.now c.loop-place.place 0 c.loop-place.place c.literal-item.result c.loop-place-test.true c.literal-item.is (omega arith) before
    in
    record {
      normal = normal_literals_more c.args.rules.now c.deref-literal-items.result.now c.loop-place.place c.literal-item.result c.loop-place-test.true c.literal-item.is c.loop-place.invariant.normal (known.0 (sym c.is_passed.ensures ∙ c.if-is_passed.true));
      known = c.loop-place.invariant.known;
      on = c.loop-place.invariant.on;
    }

pub atom_step-requires-clause-before : goal.atom_step-requires-clause-before
atom_step-requires-clause-before c =
    let before : AreLiteralsNormalBefore c.args.rules.now c.args.from.now 0 (map literal_of c.deref-literal-items.result.now) =
    subst (AreLiteralsNormalBefore c.args.rules.now c.args.from.now 0) (sym (ap (map literal_of) c.deref-literal-items.ensures.value ∙ c.clause.view_is)) c.requires.before
    in
    let known : (is_passed c.loop-place.place c.args.from.now ≡ true → atom_step c.args.rules.now (tree_of c.literal-item.result.atom) ≡ None) × IsNormalBefore c.args.rules.now (place_within c.loop-place.place c.args.from.now) (tree_of c.literal-item.result.atom) =
    literal_before c.args.rules.now c.args.from.now c.deref-literal-items.result.now c.loop-place.place 0 c.loop-place.place c.literal-item.result c.loop-place-test.true c.literal-item.is (omega arith) before
    in
    subst (λ p. IsNormalBefore c.args.rules.now p (tree_of c.literal-item.result.atom)) (sym c.place_within.ensures) known.1
