use Rattle.std.proofs.Common.{◌≡◌, ◌∙◌, ℕ, length, ap, sym, arith}
use Rattle.held_clauses.specs.Order.{greater_of}
use Rattle.paramod.specs.Sites.{site, paramodulants_in}
use Rattle.paramod.proofs.Missing.{atom_is}
use Rattle.resolution.proofs.Going.{place_added, places_added}
use Rattle.paramod.proofs.pairs.add_by.Goals as goal

pub add_into-requires-clause-atom : goal.add_into-requires-clause-atom
add_into-requires-clause-atom c =
    sym (atom_is c.as_slice-literal-items.result.now c.args.into.now.clause c.loop-b.b (c.as_slice-literal-items.ensures.literals ∙ c.clause.ensures) c.literal-item.result (omega arith) c.literal-item.is)

pub loop-b-preserved : goal.loop-b-preserved
loop-b-preserved c =
    let lengths : length c.as_slice-literal-items.result.now ≡ length c.args.into.now.clause = c.as_slice-literal-items.ensures.len ∙ ap length c.clause.ensures in
    place_added (λ (b : ℕ). paramodulants_in (greater_of c.args.precedence.now) (site c.args.from.now c.args.equation c.args.side c.args.into.now b)) c.args.into.now.clause c.loop-b.b _ _ _ (omega (arith, lengths))
    c.loop-b.invariant c.in_ok-add_into.ensures

pub returns : goal.returns
returns c =
    let lengths : length c.as_slice-literal-items.result.now ≡ length c.args.into.now.clause = c.as_slice-literal-items.ensures.len ∙ ap length c.clause.ensures in
    places_added (λ (b : ℕ). paramodulants_in (greater_of c.args.precedence.now) (site c.args.from.now c.args.equation c.args.side c.args.into.now b)) c.args.into.now.clause c.loop-b.b _ _ (omega (arith, lengths))
    c.loop-b.invariant
