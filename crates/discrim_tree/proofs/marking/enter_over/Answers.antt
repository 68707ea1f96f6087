use Rattle.std.proofs.Common.{◌≡◌, ◌+◌, ◌++◌, [], ◌∷◌, None, Option, Some, drop, get_or, subst, List, ℕ, refl}
use Rattle.discrim_tree.specs.Marking.{MeetsBehind}
use Rattle.discrim_tree.specs.Marks.{AreAmong}
use Rattle.discrim_tree.specs.declared.edge.Edge.TheVariants.{Any}
use Rattle.discrim_tree.specs.declared.marking.Meeting.{Meeting}
use Rattle.discrim_tree.proofs.Finding.{drop_next}
use Rattle.discrim_tree.proofs.Marked.{branch_done, kept_itself, kept_on, kept_pushed, met_nowhere, met_on, met_pushed, HasMet}
use Rattle.discrim_tree.proofs.marking.enter_over.Goals.{in-Some+in_ok-push, in_default}
use Rattle.discrim_tree.proofs.marking.enter_over.Goals as goal

nothing : (o : Option ℕ) → ((x : ℕ) → o ≡ Some x → ⊥) → o ≡ None
nothing None h = refl
nothing (Some x) h = absurd (h x refl)

pub loop-edge-preserved : goal.loop-edge-preserved
loop-edge-preserved c =
    let marks = c.args.marks.now in
    let met = c.args.met in
    let branches = c.args.branches.now in
    let so = c.loop-edge.invariant in
    let old = c.args.waiting.now.items in
    let now = c.loop-edge.waiting.items in
    let new = c.match-met_by.waiting.items in
    let i = c.loop-edge.edge-index in
    let b = get_or branches i (Any, 0) in
    let is = drop_next branches i (Any, 0) c.loop-edge-test.true in
    elim c.match-met_by.branch [
      | in-Some+in_ok-push w ↦
          let next = w.in-Some.met in
          let pushed : c.match-met_by.waiting.items ≡ c.loop-edge.waiting.items ++ record { node = (get_or c.args.branches.now c.loop-edge.edge-index (Any, 0)).1; met = w.in-Some.met } ∷ [] = cc (w.waiting-is, w.in_ok-push.ensures.items) in
          let kept = kept_pushed now new (record { node = b.1; met = next }) pushed in
          record {
            kept = kept_on old now new so.kept kept;
            enters = λ rise.
                branch_done (HasMet marks met now) (HasMet marks met new) branches (drop i branches) (drop (i + 1) branches) b.0 b.1 (so.enters rise) is (met_on marks met now new kept)
                (λ m e. met_pushed marks met now new m b.1 next pushed (subst (λ (o : Option ℕ). MeetsBehind marks met m o) w.in-Some.is (c.met_by.ensures rise m e)));
          }
      | in_default w ↦
          let same : c.loop-edge.waiting.items ≡ c.match-met_by.waiting.items = cc (w.waiting-is) in
          let kept : AreAmong c.loop-edge.waiting.items c.match-met_by.waiting.items = subst (λ (xs : List Meeting). AreAmong now xs) same (kept_itself now) in
          record {
            kept = kept_on old now new so.kept kept;
            enters = λ rise.
                branch_done (HasMet marks met now) (HasMet marks met new) branches (drop i branches) (drop (i + 1) branches) b.0 b.1 (so.enters rise) is (met_on marks met now new kept)
                (λ m e. met_nowhere marks met new m b.1 (subst (λ (o : Option ℕ). MeetsBehind marks met m o) (nothing c.met_by.result w.in_default.not-Some) (c.met_by.ensures rise m e)));
          }
    ]
