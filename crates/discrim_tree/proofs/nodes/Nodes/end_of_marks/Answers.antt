use Rattle.std.proofs.Common.{◌∙◌, sym, subst, map, List, ℕ}
use Rattle.std.proofs.lemmas.List.{drop_all}
use Rattle.discrim_tree.specs.Marks.{mark_step}
use Rattle.discrim_tree.specs.Nodes.{Reaches}
use Rattle.discrim_tree.proofs.Marked.{mark_barred, mark_taken}
use Rattle.discrim_tree.proofs.nodes.Nodes.end_of_marks.Goals as goal

pub returns-in-None : goal.returns-in-None
returns-in-None c = λ fewer n g r.
    mark_barred c.args.self.now.items fewer c.args.marks.now c.loop-mark.mark-index c.loop-mark.at n c.loop-mark-test.true g (sym c.child.ensures ∙ c.in-None.is) (c.loop-mark.invariant fewer n g r)

pub loop-mark-preserved : goal.loop-mark-preserved
loop-mark-preserved c = λ fewer n g r.
    mark_taken c.args.self.now.items fewer c.args.marks.now c.loop-mark.mark-index c.loop-mark.at c.in-Some.k n c.loop-mark-test.true g (sym c.child.ensures ∙ c.in-Some.is) (c.loop-mark.invariant fewer n g r)

pub returns : goal.returns
returns c = λ fewer n g r.
    subst (λ (ms : List ℕ). Reaches fewer c.loop-mark.at (map mark_step ms) n) (drop_all c.loop-mark.mark-index c.args.marks.now c.loop-mark-test.false) (c.loop-mark.invariant fewer n g r)
