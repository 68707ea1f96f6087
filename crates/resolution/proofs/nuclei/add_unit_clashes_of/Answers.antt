use Rattle.std.proofs.Common.{◌≡◌, true, nat_lt, length, flat_map, ap, arith}
use Rattle.std.proofs.lemmas.Bool.Decides.{nat_tests}
use Rattle.prover_steps.specs.Clashing.{places_of}
use Rattle.resolution.specs.View.{all_conclusions}
use Rattle.resolution.proofs.Going.{place_added, places_added, tried_some}
use Rattle.resolution.proofs.Nucleated.{units_at}
use Rattle.resolution.proofs.nuclei.add_unit_clashes_of.Goals as goal

pub loop-left-preserved : goal.loop-left-preserved
loop-left-preserved c =
    let n = c.args.nucleus.now in
    place_added (units_at c.args.held.now c.args.given.now n) n.clause c.loop-left.left (all_conclusions c.args.made.now.items) (all_conclusions c.loop-left.made.items) _ (omega (arith, ap length c.clause-2.ensures))
    c.loop-left.invariant c.in_ok-add_with_units.ensures

pub returns : goal.returns
returns c =
    let n = c.args.nucleus.now in
    let len : length c.clause.result.now ≡ length n.clause = ap length c.clause.ensures in
    let test : nat_lt 1 (length n.clause) ≡ true = grind (arith, nat_tests) in
    tried_some (nat_lt 1 (length n.clause)) (all_conclusions c.args.made.now.items) (flat_map (units_at c.args.held.now c.args.given.now n) (places_of n.clause)) (all_conclusions c.loop-left.made.items) test
    (places_added (units_at c.args.held.now c.args.given.now n) n.clause c.loop-left.left (all_conclusions c.args.made.now.items) (all_conclusions c.loop-left.made.items) (omega (arith, ap length c.clause-2.ensures))
    c.loop-left.invariant)
