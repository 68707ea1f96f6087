use Rattle.std.proofs.Common.{◌≡◌, ◌∙◌, length, ap, sym, arith}
use Rattle.held_clauses.specs.Order.{greater_of}
use Rattle.paramod.specs.Sites.{literal_tried}
use Rattle.paramod.proofs.Missing.{atom_is, positive_is}
use Rattle.resolution.proofs.Going.{place_added, places_added}
use Rattle.paramod.proofs.pairs.add_between.Goals as goal

pub add_by_literal-requires-clause-atom : goal.add_by_literal-requires-clause-atom
add_by_literal-requires-clause-atom c =
    sym (atom_is c.as_slice-literal-items.result.now c.args.from.now.clause c.loop-a.a (c.as_slice-literal-items.ensures.literals ∙ c.clause.ensures) c.literal-item.result (omega arith) c.literal-item.is)

pub add_by_literal-requires-clause-sign : goal.add_by_literal-requires-clause-sign
add_by_literal-requires-clause-sign c =
    positive_is c.as_slice-literal-items.result.now c.args.from.now.clause c.loop-a.a (c.as_slice-literal-items.ensures.literals ∙ c.clause.ensures) c.literal-item.result (omega arith) c.literal-item.is

pub loop-a-preserved : goal.loop-a-preserved
loop-a-preserved c =
    let lengths : length c.as_slice-literal-items.result.now ≡ length c.args.from.now.clause = c.as_slice-literal-items.ensures.len ∙ ap length c.clause.ensures in
    place_added (literal_tried (greater_of c.args.precedence.now) c.args.from.now c.args.into.now) c.args.from.now.clause c.loop-a.a _ _ _ (omega (arith, lengths)) c.loop-a.invariant c.in_ok-add_by_literal.ensures

pub returns : goal.returns
returns c =
    let lengths : length c.as_slice-literal-items.result.now ≡ length c.args.from.now.clause = c.as_slice-literal-items.ensures.len ∙ ap length c.clause.ensures in
    places_added (literal_tried (greater_of c.args.precedence.now) c.args.from.now c.args.into.now) c.args.from.now.clause c.loop-a.a _ _ (omega (arith, lengths)) c.loop-a.invariant
