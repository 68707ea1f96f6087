use Rattle.std.proofs.Common.{inl, inr}
use Rattle.discrim_tree.proofs.Trees.{alike_on, leads_on, noted_only, paths_grown, paths_on, reaches_end, renumbered_grows, renumbered_leads, renumbered_tree, same_alike, same_used, used_noted}
use Rattle.discrim_tree.proofs.nodes.Nodes.put.Goals as goal

pub returns-in-Ok-clause-kept : goal.returns-in-Ok-clause-kept
returns-in-Ok-clause-kept c =
    let old = c.args.self.now.items in
    let mid = c.made.new.self.items in
    let new = c.note.new.self.items in
    paths_on old mid new (alike_on old c.plant.new.self.items mid c.plant.ensures.alike c.made.ensures.alike).stay
    (paths_grown mid new (renumbered_grows c.in_ok-end.end mid new c.in-Ok.ensures.others c.in-Ok.ensures.kept))

pub returns-in-Ok-clause-reached : goal.returns-in-Ok-clause-reached
returns-in-Ok-clause-reached c =
    let mid = c.made.new.self.items in
    let new = c.note.new.self.items in
    reaches_end new 0 c.args.path.now c.in_ok-end.end c.args.number
    (leads_on mid new (renumbered_leads c.in_ok-end.end mid new c.in-Ok.ensures.others) 0 c.args.path.now c.in_ok-end.end c.in_ok-end.ensures.leads)
    c.in-Ok.ensures.noted

pub returns-in-Ok-clause-only : goal.returns-in-Ok-clause-only
returns-in-Ok-clause-only c = λ tree p m h.
    let old = c.args.self.now.items in
    let mid = c.made.new.self.items in
    let new = c.note.new.self.items in
    let alike = alike_on old c.plant.new.self.items mid c.plant.ensures.alike c.made.ensures.alike in
    elim (noted_only c.in_ok-end.end mid new c.in-Ok.ensures.others c.args.number c.args.path.now (alike.tree tree) c.in_ok-end.ensures.leads c.in-Ok.ensures.only p m h) [
      | inl g ↦ inl (alike.came 0 p m g)
      | inr g ↦ inr g
    ]

pub returns-in-Ok-clause-tree : goal.returns-in-Ok-clause-tree
returns-in-Ok-clause-tree c = λ tree.
    renumbered_tree c.in_ok-end.end c.made.new.self.items c.note.new.self.items c.in-Ok.ensures.others (c.made.ensures.alike.tree (c.plant.ensures.alike.tree tree))

pub returns-in-Ok-clause-used : goal.returns-in-Ok-clause-used
returns-in-Ok-clause-used c = λ tree used.
    used_noted c.in_ok-end.end c.made.new.self.items c.note.new.self.items c.in-Ok.ensures.others c.args.number c.in-Ok.ensures.kept c.in-Ok.ensures.noted
    (c.in_ok-end.ensures.used (c.plant.ensures.used tree used))

pub returns-in-Err-clause-kept : goal.returns-in-Err-clause-kept
returns-in-Err-clause-kept c =
    let old = c.args.self.now.items in
    let mid = c.made.new.self.items in
    let new = c.note.new.self.items in
    let same = same_alike mid new c.in-Err.ensures.err in
    (alike_on old mid c.prune_up.new.self.items (alike_on old c.plant.new.self.items mid c.plant.ensures.alike c.made.ensures.alike) (alike_on mid new c.prune_up.new.self.items same c.prune_up.ensures.alike)).stay

pub returns-in-Err-clause-err : goal.returns-in-Err-clause-err
returns-in-Err-clause-err c =
    let old = c.args.self.now.items in
    let mid = c.made.new.self.items in
    let new = c.note.new.self.items in
    let same = same_alike mid new c.in-Err.ensures.err in
    (alike_on old mid c.prune_up.new.self.items (alike_on old c.plant.new.self.items mid c.plant.ensures.alike c.made.ensures.alike) (alike_on mid new c.prune_up.new.self.items same c.prune_up.ensures.alike)).came

pub returns-in-Err-clause-tree : goal.returns-in-Err-clause-tree
returns-in-Err-clause-tree c = λ tree.
    let same = same_alike c.made.new.self.items c.note.new.self.items c.in-Err.ensures.err in
    c.prune_up.ensures.alike.tree (same.tree (c.made.ensures.alike.tree (c.plant.ensures.alike.tree tree)))

pub returns-in-Err-clause-used : goal.returns-in-Err-clause-used
returns-in-Err-clause-used c = λ tree used.
    let mid = c.made.new.self.items in
    let new = c.note.new.self.items in
    let same = same_alike mid new c.in-Err.ensures.err in
    c.prune_up.ensures.used (same.tree (c.made.ensures.alike.tree (c.plant.ensures.alike.tree tree)))
    (same_used c.in_ok-end.end mid new c.in-Err.ensures.err (c.in_ok-end.ensures.used (c.plant.ensures.used tree used)))
