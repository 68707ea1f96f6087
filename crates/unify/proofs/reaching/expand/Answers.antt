-- A node by its head.
use Rattle.std.proofs.Common.{vec_capacity}
use Rattle.unify.proofs.Spreads.{can_spread, expands_variable, expands_element, expands_application}
use Rattle.unify.proofs.reaching.expand.Goals as goal

pub node-requires : goal.node-requires
node-requires c = (c.requires.reaching.parts.spots c.args.spot (c.requires.reaching.inside c.args.spot c.requires.there)).within

pub spread-requires : goal.spread-requires
spread-requires c =
    can_spread c.args.bank.now c.args.bound.now.items c.args.reached.now.items (vec_capacity c.args.reached.now) c.args.spot c.in-App.field-0.0 c.in-App.arguments.now c.requires c.in-App.ensures.tree c.in-App.ensures.below

pub returns-in-Var-clause-expands : goal.returns-in-Var-clause-expands
returns-in-Var-clause-expands c = expands_variable c.args.bank.now c.args.bound.now.items c.args.reached.now.items (vec_capacity c.args.reached.now) c.args.spot _ c.requires c.in-Var.ensures.tree

pub returns-in-Elem-clause-expands : goal.returns-in-Elem-clause-expands
returns-in-Elem-clause-expands c = expands_element c.args.bank.now c.args.bound.now.items c.args.reached.now.items (vec_capacity c.args.reached.now) c.args.spot _ c.requires c.in-Elem.ensures.tree

pub returns-in-App-clause-expands : goal.returns-in-App-clause-expands
returns-in-App-clause-expands c =
    expands_application c.args.bank.now c.args.bound.now.items c.args.reached.now.items c.spread.new.reached.items (vec_capacity c.spread.new.reached) c.args.spot c.in-App.field-0.0 c.in-App.arguments.now
    c.in-App.ensures.tree c.spread.ensures.spreads
