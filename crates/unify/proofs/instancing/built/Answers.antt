-- One node further.
use Rattle.std.proofs.Common.{◌≡◌}
use Rattle.term_bank.proofs.Building.{grows_refl, grows_on}
use Rattle.unify.proofs.Becoming.{start_at, next_loose, moved, less_pending, final_term}
use Rattle.unify.proofs.instancing.built.Goals as goal
use Rattle.unify.proofs.instancing.built.Goals.{then-is_none+in_ok-push-2+in_ok-build, else-is_none}

pub nodes-init : goal.nodes-init
nodes-init c = record {
  grows = grows_refl c.args.bank.now;
  building = start_at c.args.bank.now c.args.bound.now.items c.new-images.result.items c.new-pending.result.items c.push.new.self.items c.args.root c.walk-first.result c.requires.bindings c.walk-first.ensures.result
      c.walk-first.ensures.spot c.new-images.ensures.items c.new-pending.ensures.items c.in_ok-push.ensures.items;
}

pub returns-in-Some-clause-term : goal.returns-in-Some-clause-term
returns-in-Some-clause-term c =
    final_term c.args.bank.now c.nodes.bank c.args.bound.now.items c.nodes.images.items c.nodes.pending.items c.args.root c.walk-first.result c.in-Some.id c.nodes.invariant.grows c.requires.bindings c.walk-first.ensures.spot
    c.nodes.invariant.building c.walk-first.ensures.result c.in-Some.ensures

pub build-requires-clause-node : goal.build-requires-clause-node
build-requires-clause-node c = next_loose c.nodes.bank c.args.bound.now.items c.nodes.images.items c.nodes.pending.items c.pop.new.self.items c.in-Some-pop.next c.nodes.invariant.building c.in-Some-pop.ensures.items

pub nodes-preserved : goal.nodes-preserved
nodes-preserved c = elim c.if-is_none.branch [
  | then-is_none+in_ok-push-2+in_ok-build w ↦ (let f : c.if-is_none.images.items ≡ w.build.new.images.items = cc in
      let h : c.if-is_none.pending.items ≡ w.build.new.pending.items = cc in
      let both = moved c.args.bank.now w.build.new.bank c.if-is_none.bank c.args.bound.now.items w.build.new.images.items c.if-is_none.images.items w.build.new.pending.items c.if-is_none.pending.items w.bank-is f h
      (grows_on c.args.bank.now c.nodes.bank w.build.new.bank c.nodes.invariant.grows w.in_ok-build.ensures.grows) w.in_ok-build.ensures.building in
      record { grows = both.0; building = both.1 })
  | else-is_none w ↦ (let f : c.if-is_none.images.items ≡ c.nodes.images.items = cc in
      let h : c.if-is_none.pending.items ≡ c.pop.new.self.items = cc in
      let both = moved c.args.bank.now c.nodes.bank c.if-is_none.bank c.args.bound.now.items c.nodes.images.items c.if-is_none.images.items c.pop.new.self.items c.if-is_none.pending.items w.bank-is f h
      c.nodes.invariant.grows (less_pending c.nodes.bank c.args.bound.now.items c.nodes.images.items c.nodes.pending.items c.pop.new.self.items c.in-Some-pop.next c.nodes.invariant.building c.in-Some-pop.ensures.items) in
      record { grows = both.0; building = both.1 })
]
