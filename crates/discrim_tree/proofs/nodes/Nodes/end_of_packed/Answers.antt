use Rattle.std.proofs.Common.{◌<◌, ◌∙◌, ap, sym, subst, length, List, arith}
use Rattle.packed_terms.specs.Heads.{heads}
use Rattle.discrim_tree.specs.Nodes.{Reaches, child}
use Rattle.discrim_tree.specs.declared.edge.Edge.{Edge}
use Rattle.discrim_tree.proofs.Heads.{head_barred, head_taken, head_there, heads_are_steps}
use Rattle.discrim_tree.proofs.nodes.Nodes.end_of_packed.Goals as goal

pub loop-i-init : goal.loop-i-init
loop-i-init c = λ fewer n g r. subst (λ (p : List Edge). Reaches fewer 0 p n) (sym (heads_are_steps c.args.tree.now)) r

pub returns-in_err-head : goal.returns-in_err-head
returns-in_err-head c = λ fewer n g r.
    let hs = heads c.args.tree.now in
    let within : c.loop-i.i < length hs = omega (arith, c.loop-i-test.true, c.len-i-end.ensures) in
    absurd (head_there hs c.loop-i.i within (sym c.head.ensures ∙ c.in_err-head.was))

pub returns-in_err-at : goal.returns-in_err-at
returns-in_err-at c = λ fewer n g r.
    let nodes = c.args.self.now.items in
    let at = c.loop-i.at in
    let is = sym (c.child.ensures ∙ ap (λ (e : Edge). child nodes at e) c.edge_of.ensures) ∙ c.in_err-at.was in
    absurd (head_barred nodes fewer (heads c.args.tree.now) c.loop-i.i at n c.in_ok-head.head (sym c.head.ensures ∙ c.in_ok-head.was) g is (c.loop-i.invariant fewer n g r))

pub loop-i-preserved : goal.loop-i-preserved
loop-i-preserved c = λ fewer n g r.
    let nodes = c.args.self.now.items in
    let at = c.loop-i.at in
    let is = sym (c.child.ensures ∙ ap (λ (e : Edge). child nodes at e) c.edge_of.ensures) ∙ c.in_ok-at.was in
    head_taken nodes fewer (heads c.args.tree.now) c.loop-i.i at n c.in_ok-head.head c.in_ok-at.at (sym c.head.ensures ∙ c.in_ok-head.was) g is (c.loop-i.invariant fewer n g r)
