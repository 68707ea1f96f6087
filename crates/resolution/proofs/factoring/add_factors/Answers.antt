use Rattle.std.proofs.Common.{ℕ, length, ap, arith, nat_lt, filter, flat_map}
use Rattle.prover_steps.specs.Clashing.{places_of}
use Rattle.resolution.specs.Tries.{factor_at}
use Rattle.resolution.proofs.Going.{place_added, places_added}
use Rattle.resolution.proofs.factoring.add_factors.Goals as goal

pub loop-a-preserved : goal.loop-a-preserved
loop-a-preserved c =
    let g = c.args.given.now in
    place_added (λ (a : ℕ). flat_map (factor_at g a) (filter (nat_lt a) (places_of g.clause))) g.clause c.loop-a.a _ _ _ (omega (arith, ap length c.clause.ensures)) c.loop-a.invariant c.in_ok-factors_from.ensures

pub returns : goal.returns
returns c =
    let g = c.args.given.now in
    places_added (λ (a : ℕ). flat_map (factor_at g a) (filter (nat_lt a) (places_of g.clause))) g.clause c.loop-a.a _ _ (omega (arith, ap length c.clause.ensures)) c.loop-a.invariant
