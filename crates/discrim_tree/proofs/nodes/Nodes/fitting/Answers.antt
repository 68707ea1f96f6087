use Rattle.std.proofs.Common.{◌≡◌, ◌∙◌, ap, refl, sym, subst, drop, List, [], ◌∷◌, ◌++◌, ℕ, Some, slice_get}
use Rattle.std.proofs.lemmas.List.{take_rest}
use Rattle.fol_core.specs.TermView.{tree_of}
use Rattle.discrim_tree.specs.Walks.{IsFound}
use Rattle.discrim_tree.proofs.Returning.{all_fit}
use Rattle.discrim_tree.proofs.WalkSteps.{covered}
use Rattle.discrim_tree.proofs.nodes.Nodes.fitting.Goals as goal

pub returns : goal.returns
returns c =
    let nodes = c.args.self.now.items in
    let t = tree_of c.args.t.now in
    let next = c.in_ok-next.next in
    let begun = c.in_ok-push.ensures.items ∙ ap (λ (xs : List ℕ). xs ++ 0 ∷ []) c.clear.ensures.items in
    let first : slice_get c.push.new.self.items 0 ≡ Some 0 = ap (λ (xs : List ℕ). slice_get xs 0) begun in
    let rest = drop next c.pass.new.walk.items in
    let same = take_rest c.deref.result.now next ∙ ap (drop next) c.deref.ensures.value in
    record {
      walk = rest;
      covers = covered nodes c.args.below c.args.above t next c.push.new.self.items c.pass.new.walk.items rest first refl c.in_ok-next.ensures.passes;
      fit = all_fit nodes c.args.below c.args.above t next c.push.new.self.items c.pass.new.walk.items rest begun refl c.in_ok-next.ensures.comes;
      all = λ n h. c.in_ok-numbers_at.ensures.all n (subst (λ (w : List ℕ). IsFound nodes w n) (sym same) h);
      only = λ n h. subst (λ (w : List ℕ). IsFound nodes w n) same (c.in_ok-numbers_at.ensures.only n h);
    }
