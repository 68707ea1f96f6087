-- A node by its head.
use Rattle.std.proofs.Common.{rules, subst, map, ◌+◌, ◌<◌, ◌≡◌, List}
use Rattle.fol_core.specs.Tree.{app, trees_of}
use Rattle.term_bank.specs.Bank.{tree_at, IsAt}
use Rattle.term_bank.specs.declared.id.TermId.{TermId}
use Rattle.term_bank.proofs.Building.{grows_refl}
use Rattle.unify.proofs.Becoming.{argument_spots, built_next, variable_at, element_becomes, application_becomes, other_pending}
use Rattle.unify.proofs.Seen.{sum_fits}
use Rattle.unify.proofs.instancing.build.Goals as goal
use Rattle.unify.proofs.instancing.build.Goals.{in-Var+in_ok-term-in-Var+in-App-1, in-Var+in_ok-term-in-Var+in-Var-1, in-Elem, in-App+in_ok-gather-in-App+in-Some+in_ok-term-in-Some}

pub overflow_add-x : goal.overflow_add-x
overflow_add-x c =
    let h : c.in-Var.x + c.args.node.context < 18446744073709551616 = sum_fits c.args.bank.now c.args.node c.in-Var.x c.requires.node.spot c.in-Var.ensures.tree in
    search (rules, h)

pub gather-requires-clause-arguments : goal.gather-requires-clause-arguments
gather-requires-clause-arguments c = argument_spots c.args.bank.now c.args.node c.in-App.f.0 c.in-App.arguments.now c.requires.node.spot c.in-App.ensures.tree c.in-App.ensures.below

pub returns-clause-building : goal.returns-clause-building
returns-clause-building c =
    elim c.match-node.branch [
      | in-Var+in_ok-term-in-Var+in-App-1 w ↦ (let pending : c.match-node.pending.items ≡ c.args.pending.now.items = cc in
          built_next c.args.bank.now c.match-node.bank w.put.new.self c.args.bound.now.items c.args.images.now.items c.push.new.self.items c.args.pending.now.items c.match-node.pending.items c.args.node c.match-node.term _
          w.bank-is pending w.term-is w.in_ok-term-in-Var.ensures.grows c.requires.building c.requires.node.spot
          (variable_at c.args.bank.now w.put.new.self c.args.bound.now.items c.args.node w.in-Var.x _ c.requires.building.bindings c.requires.node w.in-Var.ensures.tree w.in_ok-term-in-Var.ensures.term)
          c.in_ok-push.ensures.items)
      | in-Var+in_ok-term-in-Var+in-Var-1 w ↦ (let pending : c.match-node.pending.items ≡ c.args.pending.now.items = cc in
          built_next c.args.bank.now c.match-node.bank w.put.new.self c.args.bound.now.items c.args.images.now.items c.push.new.self.items c.args.pending.now.items c.match-node.pending.items c.args.node c.match-node.term _
          w.bank-is pending w.term-is w.in_ok-term-in-Var.ensures.grows c.requires.building c.requires.node.spot
          (variable_at c.args.bank.now w.put.new.self c.args.bound.now.items c.args.node w.in-Var.x _ c.requires.building.bindings c.requires.node w.in-Var.ensures.tree w.in_ok-term-in-Var.ensures.term)
          c.in_ok-push.ensures.items)
      | in-Elem w ↦ (let pending : c.match-node.pending.items ≡ c.args.pending.now.items = cc in
          built_next c.args.bank.now c.match-node.bank c.args.bank.now c.args.bound.now.items c.args.images.now.items c.push.new.self.items c.args.pending.now.items c.match-node.pending.items c.args.node c.match-node.term c.args.node.term
          w.bank-is pending w.term-is (grows_refl c.args.bank.now) c.requires.building c.requires.node.spot
          (element_becomes c.args.bank.now c.args.bound.now.items c.args.node _ c.requires.node w.in-Elem.ensures.tree)
          c.in_ok-push.ensures.items)
      | in-App+in_ok-gather-in-App+in-Some+in_ok-term-in-Some w ↦ (let pending : c.match-node.pending.items ≡ w.gather.new.pending.items = cc in
          built_next c.args.bank.now c.match-node.bank w.apply.new.self c.args.bound.now.items c.args.images.now.items c.push.new.self.items w.gather.new.pending.items c.match-node.pending.items c.args.node c.match-node.term _
          w.bank-is pending w.term-is w.apply.ensures.grows (other_pending c.args.bank.now c.args.bound.now.items c.args.images.now.items c.args.pending.now.items w.gather.new.pending.items c.requires.building w.gather.ensures.loose) c.requires.node.spot
          (application_becomes c.args.bank.now w.apply.new.self c.args.bound.now.items c.args.node w.in-App.f.0 w.in-App.arguments.now w.in-Some.ids.items _ w.in-App.ensures.tree (rw w.in-Some.is at w.in_ok-gather-in-App.ensures.images)
          (subst (λ (l : List TermId). IsAt w.apply.new.self w.in_ok-term-in-Some.term.0 (app w.in-App.f.0 (trees_of (map (λ (k : TermId). tree_at c.args.bank.now k.0) l)))) w.as_slice.ensures.value w.in_ok-term-in-Some.ensures.term))
          c.in_ok-push.ensures.items)
    ]
