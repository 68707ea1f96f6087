use Rattle.std.proofs.Common.{◌≡◌, ◌+◌, refl, ap, subst, sym, ◌∙◌, Some, true, None, arith}
use Rattle.std.specs.Option.{option_map}
use Rattle.fol_core.specs.TermView.{tree_of, tree_list}
use Rattle.fol_core.specs.Tree.{app, nodes_of, trees_of}
use Rattle.demodulate.specs.Resumed.{is_passed, place_within, IsNormalBefore, AreNormalBefore}
use Rattle.demodulate.specs.Steps.{part_step, step_below, whole_step, step_in_term}
use Rattle.demodulate.proofs.Redexes.{normal_more, argument_step, no_argument_step}
use Rattle.term_matches.proofs.Arguments.{argument_nodes}
use Rattle.demodulate.proofs.Resuming.{argument_before}
use Rattle.prover_steps.specs.Rewriting.{widened, first_step, step_in}
use Rattle.demodulate.proofs.rewriting.+first_step.Goals as goal

pub step_within-returns-in-Some-clause-step : goal.step_within-returns-in-Some-clause-step
step_within-returns-in-Some-clause-step t c = λ f.
    ap (λ r. Some (whole_step (app f (trees_of c.args.terms.now)) r)) c.in_ok-step_below.ensures.step
    ∙ subst (λ ts. Some (whole_step (app f (trees_of ts)) (step_below (c.loop-i.i + 1) (part_step c.in-Some.step))) ≡ option_map (widened (app f)) (step_in c.args.rules.now 1 (trees_of ts))) (ap tree_list c.deref-term-items.ensures.value ∙ c.terms.view_is)
    (argument_step c.args.rules.now f c.deref-term-items.result.now c.loop-i.i (c.loop-i.i + 1) c.term-item.result (part_step c.in-Some.step) c.loop-i-test.true c.term-item.is refl c.loop-i.invariant.normal
    (ap (option_map (step_in_term (tree_of c.term-item.result))) (sym c.in-Some.is) ∙ c.in_ok-step.ensures.step))

pub step_within-returns-clause-step : goal.step_within-returns-clause-step
step_within-returns-clause-step t c = λ f.
    no_argument_step c.args.rules.now f c.deref-term-items.result.now c.loop-i.i c.loop-i-test.false c.loop-i.invariant.normal
    ∙ ap (λ ts. option_map (widened (app f)) (step_in c.args.rules.now 1 (trees_of ts))) (ap tree_list c.deref-term-items.ensures.value ∙ c.terms.view_is)

pub step_within-loop-i-preserved-then-is_passed : goal.step_within-loop-i-preserved-then-is_passed
step_within-loop-i-preserved-then-is_passed t c =
    let before : AreNormalBefore c.args.rules.now c.args.from.now 1 (trees_of (tree_list c.deref-term-items.result.now)) =
    subst (λ ts. AreNormalBefore c.args.rules.now c.args.from.now 1 (trees_of ts)) (sym (ap tree_list c.deref-term-items.ensures.value ∙ c.terms.view_is)) c.requires.before
    in
    let known : (is_passed (c.loop-i.i + 1) c.args.from.now ≡ true → first_step c.args.rules.now (tree_of c.term-item.result) ≡ None) × IsNormalBefore c.args.rules.now (place_within (c.loop-i.i + 1) c.args.from.now) (tree_of c.term-item.result) =
    argument_before c.args.rules.now c.args.from.now c.deref-term-items.result.now c.loop-i.i 1 (c.loop-i.i + 1) c.term-item.result c.loop-i-test.true c.term-item.is (omega arith) before
    in
    record {
      normal = normal_more c.args.rules.now c.deref-term-items.result.now c.loop-i.i c.term-item.result c.loop-i-test.true c.term-item.is c.loop-i.invariant.normal (known.0 (sym c.is_passed.ensures ∙ c.if-is_passed.true));
      known = c.loop-i.invariant.known;
      on = c.loop-i.invariant.on;
    }

pub step_within-first_step-requires : goal.step_within-first_step-requires
step_within-first_step-requires t c =
    let before : AreNormalBefore c.args.rules.now c.args.from.now 1 (trees_of (tree_list c.deref-term-items.result.now)) =
    subst (λ ts. AreNormalBefore c.args.rules.now c.args.from.now 1 (trees_of ts)) (sym (ap tree_list c.deref-term-items.ensures.value ∙ c.terms.view_is)) c.requires.before
    in
    let known : (is_passed (c.loop-i.i + 1) c.args.from.now ≡ true → first_step c.args.rules.now (tree_of c.term-item.result) ≡ None) × IsNormalBefore c.args.rules.now (place_within (c.loop-i.i + 1) c.args.from.now) (tree_of c.term-item.result) =
    argument_before c.args.rules.now c.args.from.now c.deref-term-items.result.now c.loop-i.i 1 (c.loop-i.i + 1) c.term-item.result c.loop-i-test.true c.term-item.is (omega arith) before
    in
    let least = argument_nodes c.deref-term-items.result.now c.loop-i.i c.term-item.result c.loop-i-test.true c.term-item.is in
    let size : nodes_of (trees_of (tree_list c.deref-term-items.result.now)) ≡ nodes_of (trees_of c.args.terms.now) =
    ap (λ ts. nodes_of (trees_of (tree_list ts))) c.deref-term-items.ensures.value ∙ ap (λ ts. nodes_of (trees_of ts)) c.terms.view_is in
    (omega (arith, least, size, c.decreases), (subst (λ p. IsNormalBefore c.args.rules.now p (tree_of c.term-item.result)) (sym c.place_within.ensures) known.1, c.loop-i.invariant.known))
