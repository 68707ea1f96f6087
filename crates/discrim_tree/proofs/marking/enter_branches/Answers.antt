use Rattle.std.proofs.Common.{◌≡◌, ◌∙◌, ◌+◌, ◌++◌, [], ◌∷◌, true, false, drop, get_or, sym, subst, List, ℕ}
use Rattle.std.proofs.lemmas.List.{drop_all}
use Rattle.discrim_tree.specs.Marks.{AreAmong}
use Rattle.discrim_tree.specs.declared.edge.Edge.TheVariants.{Any}
use Rattle.discrim_tree.proofs.Finding.{drop_next}
use Rattle.discrim_tree.proofs.Marked.{branch_done, entered_on, kept_itself, kept_on, kept_pushed, none_left, there_pushed, HasEntered}
use Rattle.discrim_tree.proofs.marking.enter_branches.Goals.{then-is_among+in_ok-push, else-is_among}
use Rattle.discrim_tree.proofs.marking.enter_branches.Goals as goal

pub loop-edge-preserved : goal.loop-edge-preserved
loop-edge-preserved c =
    let marks = c.args.marks.now in
    let branches = c.args.branches.now in
    let so = c.loop-edge.invariant in
    let old = c.args.waiting.now.items in
    let now = c.loop-edge.waiting.items in
    let new = c.if-is_among.waiting.items in
    let i = c.loop-edge.edge-index in
    let b = get_or branches i (Any, 0) in
    let is = drop_next branches i (Any, 0) c.loop-edge-test.true in
    elim c.if-is_among.branch [
      | then-is_among+in_ok-push w ↦
          let pushed : c.if-is_among.waiting.items ≡ c.loop-edge.waiting.items ++ (get_or c.args.branches.now c.loop-edge.edge-index (Any, 0)).1 ∷ [] = cc (w.waiting-is, w.in_ok-push.ensures.items) in
          let kept = kept_pushed now new b.1 pushed in
          record {
            kept = kept_on old now new so.kept kept;
            enters = branch_done (HasEntered marks now) (HasEntered marks new) branches (drop i branches) (drop (i + 1) branches) b.0 b.1 so.enters is (entered_on marks now new kept) (λ m e among. there_pushed now new b.1 pushed);
          }
      | else-is_among w ↦
          let same : c.loop-edge.waiting.items ≡ c.if-is_among.waiting.items = cc (w.waiting-is) in
          let kept : AreAmong c.loop-edge.waiting.items c.if-is_among.waiting.items = subst (λ (xs : List ℕ). AreAmong now xs) same (kept_itself now) in
          let unlike : true ≡ false → ⊥ = λ e. cc in
          record {
            kept = kept_on old now new so.kept kept;
            enters = branch_done (HasEntered marks now) (HasEntered marks new) branches (drop i branches) (drop (i + 1) branches) b.0 b.1 so.enters is (entered_on marks now new kept) (λ m e among. absurd (unlike (sym (c.is_among.ensures m e among) ∙ w.if-is_among.false)));
          }
    ]

pub returns-clause-enters : goal.returns-clause-enters
returns-clause-enters c =
    let branches = c.args.branches.now in
    let i = c.loop-edge.edge-index in
    none_left (HasEntered c.args.marks.now c.loop-edge.waiting.items) branches (drop i branches) (drop_all i branches c.loop-edge-test.false) c.loop-edge.invariant.enters
