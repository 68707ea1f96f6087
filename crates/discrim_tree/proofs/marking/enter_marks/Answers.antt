use Rattle.std.proofs.Common.{◌≡◌, ◌∙◌, ◌++◌, [], ◌∷◌, sym, subst, List, ℕ}
use Rattle.std.specs.List.{Contains}
use Rattle.std.proofs.lemmas.List.{take_all}
use Rattle.discrim_tree.specs.Marking.{EntersWithin}
use Rattle.discrim_tree.specs.Marks.{AreAmong}
use Rattle.discrim_tree.proofs.Marked.{kept_itself, kept_on, kept_pushed, mark_done, there_pushed}
use Rattle.discrim_tree.proofs.NodeSteps.{some_same}
use Rattle.discrim_tree.proofs.marking.enter_marks.Goals.{in-Some+in_ok-push, in_default}
use Rattle.discrim_tree.proofs.marking.enter_marks.Goals as goal

pub loop-mark-preserved : goal.loop-mark-preserved
loop-mark-preserved c =
    let branches = c.args.contents.now.branches in
    let marks = c.args.marks.now in
    let so = c.loop-mark.invariant in
    let old = c.args.waiting.now.items in
    let now = c.loop-mark.waiting.items in
    let new = c.match-target.waiting.items in
    let i = c.loop-mark.mark-index in
    elim c.match-target.branch [
      | in-Some+in_ok-push w ↦
          let k = w.in-Some.k in
          let pushed : c.match-target.waiting.items ≡ c.loop-mark.waiting.items ++ w.in-Some.k ∷ [] = cc (w.waiting-is, w.in_ok-push.ensures.items) in
          let kept = kept_pushed now new k pushed in
          record {
            kept = kept_on old now new so.kept kept;
            enters = mark_done branches marks i now new c.loop-mark-test.true so.enters kept (λ j t. subst (λ (x : ℕ). Contains new x) (some_same k j (sym w.in-Some.is ∙ (c.target.ensures ∙ t))) (there_pushed now new k pushed));
          }
      | in_default w ↦
          let same : c.loop-mark.waiting.items ≡ c.match-target.waiting.items = cc (w.waiting-is) in
          let kept : AreAmong c.loop-mark.waiting.items c.match-target.waiting.items = subst (λ (xs : List ℕ). AreAmong now xs) same (kept_itself now) in
          record {
            kept = kept_on old now new so.kept kept;
            enters = mark_done branches marks i now new c.loop-mark-test.true so.enters kept (λ j t. absurd (w.in_default.not-Some j (c.target.ensures ∙ t)));
          }
    ]

pub returns-clause-enters : goal.returns-clause-enters
returns-clause-enters c =
    subst (λ (ms : List ℕ). EntersWithin c.args.contents.now.branches ms c.loop-mark.waiting.items) (take_all c.loop-mark.mark-index c.args.marks.now c.loop-mark-test.false) c.loop-mark.invariant.enters
