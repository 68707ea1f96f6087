use Rattle.std.proofs.Common.{◌≡◌, ◌∙◌, ◌+◌, ◌<◌, ◌≤◌, ◌++◌, [], ◌∷◌, refl, sym, subst, length, arith, Some, None, Option, List, ℕ}
use Rattle.std.proofs.lemmas.Option.{slice_get_read}
use Rattle.discrim_tree.specs.Walks.{Came}
use Rattle.discrim_tree.proofs.Returning.{none_came, came_next}
use Rattle.discrim_tree.proofs.WalkSteps.{stays, none_followed, follow_none, follow_pushed}
use Rattle.discrim_tree.proofs.nodes.Nodes.follow.Goals.{in-Some+in_ok-push, in_default}
use Rattle.discrim_tree.proofs.nodes.Nodes.follow.Goals as goal

nothing : (o : Option ℕ) → ((x : ℕ) → o ≡ Some x → ⊥) → o ≡ None
nothing None h = refl
nothing (Some x) h = absurd (h x refl)

pub loop-i-init : goal.loop-i-init
loop-i-init c =
    let nodes = c.args.self.now.items in
    let old = c.args.walk.now.items in
    record {
      on = stays old;
      longer = omega arith;
      from = omega arith;
      came = none_came nodes c.args.low c.args.high c.args.edge old;
      follows = none_followed nodes c.args.low c.args.edge old;
    }

pub loop-i-preserved : goal.loop-i-preserved
loop-i-preserved c =
    let nodes = c.args.self.now.items in
    let so = c.loop-i.invariant in
    let old = c.args.walk.now.items in
    let now = c.loop-i.walk.items in
    let new = c.match-child.walk.items in
    let within : c.loop-i.i < length c.loop-i.walk.items = omega (arith, c.loop-i-test.true, c.requires, so.longer) in
    let before : c.loop-i.i < length c.args.walk.now.items = omega (arith, c.loop-i-test.true, c.requires) in
    let further : c.args.low ≤ c.loop-i.i + 1 = omega (arith, so.from) in
    let here = slice_get_read now (length now) c.loop-i.i c.index.result.now refl within c.index.ensures in
    elim c.match-child.branch [
      | in-Some+in_ok-push w ↦
          let pushed : c.match-child.walk.items ≡ c.loop-i.walk.items ++ w.in-Some.k ∷ [] = cc (w.walk-is, w.in_ok-push.ensures.items) in
          let all = follow_pushed nodes c.args.low c.loop-i.i c.args.edge old now new c.index.result.now w.in-Some.k so.on so.longer so.follows here (sym c.child.ensures ∙ w.in-Some.is) pushed in
          record {
            on = all.0;
            longer = all.1;
            from = further;
            came = came_next nodes c.args.low c.args.high c.loop-i.i c.args.edge old now new c.index.result.now w.in-Some.k so.on so.from c.loop-i-test.true before here (sym c.child.ensures ∙ w.in-Some.is) so.came pushed;
            follows = all.2;
          }
      | in_default w ↦
          let same : c.match-child.walk.items ≡ c.loop-i.walk.items = cc (w.walk-is) in
          let all = follow_none nodes c.args.low c.loop-i.i c.args.edge old now new c.index.result.now so.on so.longer so.follows here (sym c.child.ensures ∙ nothing c.child.result w.in_default.not-Some) same in
          record {
            on = all.0;
            longer = all.1;
            from = further;
            came = subst (λ (xs : List ℕ). Came nodes c.args.low c.args.high c.args.edge old xs) (sym same) so.came;
            follows = all.2;
          }
    ]
