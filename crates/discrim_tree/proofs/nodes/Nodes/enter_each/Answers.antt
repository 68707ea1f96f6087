use Rattle.std.proofs.Common.{◌+◌, [], ◌∷◌, refl, drop, get_or, subst, sym}
use Rattle.std.proofs.lemmas.List.{drop_all}
use Rattle.std.proofs.lemmas.Option.{slice_get-get_or}
use Rattle.discrim_tree.specs.Walks.{GoesOn}
use Rattle.discrim_tree.specs.declared.edge.Edge.TheVariants.{Any}
use Rattle.discrim_tree.proofs.Finding.{drop_next}
use Rattle.discrim_tree.proofs.Returning.{branches_there, skipped_none, skipped_next}
use Rattle.discrim_tree.proofs.Trees.{not_there}
use Rattle.discrim_tree.proofs.WalkSteps.{stays, goes_far, pushed_on, all_left, none_left, branch_done, entered_last, enters_nothing}
use Rattle.discrim_tree.proofs.nodes.Nodes.enter_each.Goals as goal

pub returns-then-not-contains-clause-enters : goal.returns-then-not-contains-clause-enters
returns-then-not-contains-clause-enters c =
    enters_nothing c.args.self.now.items c.args.at c.args.count c.args.waiting.now.items (not_there c.args.self.now.items c.args.at c.contains.result c.contains.ensures.1 c.if-not-contains.true)

pub loop-edge-init : goal.loop-edge-init
loop-edge-init c =
    let nodes = c.args.self.now.items in
    let node = c.index.result.now in
    let branches = c.in-Many.branches.now in (
      stays c.args.waiting.now.items,
      all_left nodes c.args.at node branches c.args.count c.args.waiting.now.items c.index.ensures c.in-Many.ensures.all,
      branches_there nodes c.args.at node branches c.index.ensures c.in-Many.ensures.rise c.in-Many.ensures.all,
      skipped_none nodes c.args.at c.args.count c.args.waiting.now.items,
    )

pub loop-edge-preserved : goal.loop-edge-preserved
loop-edge-preserved c =
    let nodes = c.args.self.now.items in
    let branches = c.in-Many.branches.now in
    let so = c.loop-edge.invariant in
    let now = c.loop-edge.waiting.items in
    let new = c.push-in-loop-edge.new.self.items in
    let i = c.loop-edge.edge-index in
    let b = get_or branches i (Any, 0) in
    let count = c.in_ok-count-in-Many.count in
    let is = drop_next branches i (Any, 0) c.loop-edge-test.true in
    let pushed = c.in_ok-push-in-Many.ensures.items in
    let on = subst (GoesOn now) (sym pushed) (pushed_on now (record { node = b.1; count = count })) in (
      goes_far c.args.waiting.now.items now new so.0 on,
      branch_done nodes c.args.at (drop i branches) (drop (i + 1) branches) b.0 b.1 c.args.count now new so.1 is on
          (entered_last nodes b.0 b.1 c.args.count count now new c.in_ok-count-in-Many.ensures pushed),
      so.2,
      skipped_next nodes c.args.at c.args.count b.1 count b.0 c.args.waiting.now.items now new c.requires
          (so.2 i b.0 b.1 (slice_get-get_or branches i (Any, 0) c.loop-edge-test.true)) c.in_ok-count-in-Many.ensures so.3 pushed,
    )

pub returns-after-loop-edge-clause-enters : goal.returns-after-loop-edge-clause-enters
returns-after-loop-edge-clause-enters c =
    let branches = c.in-Many.branches.now in
    let i = c.loop-edge.edge-index in
    none_left c.args.self.now.items c.args.at (drop i branches) c.args.count c.loop-edge.waiting.items (drop_all i branches c.loop-edge-test.false) c.loop-edge.invariant.1

pub returns-in_ok-push-in-One-clause-enters : goal.returns-in_ok-push-in-One-clause-enters
returns-in_ok-push-in-One-clause-enters c =
    let nodes = c.args.self.now.items in
    let edge = c.in-One.edge in
    let k = c.in-One.node in
    let old = c.args.waiting.now.items in
    let new = c.push.new.self.items in
    let count = c.in_ok-count-in-One.count in
    let pushed = c.in_ok-push-in-One.ensures.items in
    let on = subst (GoesOn old) (sym pushed) (pushed_on old (record { node = k; count = count })) in
    none_left nodes c.args.at [] c.args.count new refl
    (branch_done nodes c.args.at ((edge, k) ∷ []) [] edge k c.args.count old new
    (all_left nodes c.args.at c.index.result.now ((edge, k) ∷ []) c.args.count old c.index.ensures c.in-One.ensures.all) refl on
    (entered_last nodes edge k c.args.count count old new c.in_ok-count-in-One.ensures pushed))

pub returns-in_ok-push-in-One-clause-only : goal.returns-in_ok-push-in-One-clause-only
returns-in_ok-push-in-One-clause-only c =
    let nodes = c.args.self.now.items in
    let edge = c.in-One.edge in
    let k = c.in-One.node in
    let old = c.args.waiting.now.items in
    let there = branches_there nodes c.args.at c.index.result.now ((edge, k) ∷ []) c.index.ensures c.in-One.ensures.rise c.in-One.ensures.all in
    skipped_next nodes c.args.at c.args.count k c.in_ok-count-in-One.count edge old old c.push.new.self.items c.requires
    (there 0 edge k refl) c.in_ok-count-in-One.ensures (skipped_none nodes c.args.at c.args.count old) c.in_ok-push-in-One.ensures.items
