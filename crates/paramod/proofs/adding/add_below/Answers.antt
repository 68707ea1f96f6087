use Rattle.std.proofs.Common.{◌≡◌, ◌+◌, ◌-◌, List, [], ◌∷◌, ◌++◌, Some, length, vec_len, ap, sym, ◌∙◌, arith}
use Rattle.std.proofs.lemmas.List.{length-append}
use Rattle.fol_core.specs.TermView.{tree_of, tree_list}
use Rattle.fol_core.specs.Tree.{Tree, app, trees_of}
use Rattle.fol_core.specs.declared.term.Term.{Term}
use Rattle.paramod.specs.Replacing.{site_of}
use Rattle.paramod.specs.Sites.{atom_into, paramodulant_at}
use Rattle.paramod.proofs.Paths.{argument_made, into_argument, popped}
use Rattle.resolution.specs.View.{all_conclusions}
use Rattle.paramod.proofs.adding.add_below.Goals as goal

pub add_from-requires-clause-there : goal.add_from-requires-clause-there
add_from-requires-clause-there c =
    let items = c.deref-part-items.result.now in
    let shape : app c.in-App.field-0.0 (trees_of (tree_list items)) ≡ tree_of c.args.atom.now =
    ap (λ (us : List Term). app c.in-App.field-0.0 (trees_of (tree_list us))) c.deref-part-items.ensures.value ∙ ap (λ (ts : List Tree). app c.in-App.field-0.0 (trees_of ts)) c.terms.view_is
    ∙ ap tree_of (sym c.in-App.is) in
    into_argument (atom_into (site_of c.args.site.now)) [] c.loop-i.path.items c.push.new.self.items c.in-App.field-0.0 items c.loop-i.i c.part-item.result (omega arith) c.part-item.is c.loop-i.invariant.path
    c.in_ok-push-in-App.ensures.items (ap Some (sym (shape ∙ c.requires.atom)))

pub loop-i-preserved : goal.loop-i-preserved
loop-i-preserved c =
    let f = paramodulant_at (site_of c.args.site.now) in
    let before = c.loop-i.path.items in
    let pushed : c.add_from.new.path.items ≡ before ++ (c.loop-i.i + 1) ∷ [] = c.in_ok-add_from-in-App.ensures.path ∙ c.in_ok-push-in-App.ensures.items in
    record {
      path = popped before c.add_from.new.path.items c.pop-number.new.self.items (c.loop-i.i + 1) (vec_len c.add_from.new.path - 1) pushed c.pop-number.ensures.rest
          (omega (arith, ap length pushed, length-append before ((c.loop-i.i + 1) ∷ []))) ∙ c.loop-i.invariant.path;
      made = argument_made f [] before c.push.new.self.items c.deref-part-items.result.now c.loop-i.i c.part-item.result (all_conclusions c.args.made.now.items)
          (all_conclusions c.loop-i.made.items) (all_conclusions c.add_from.new.made.items) (omega arith) c.part-item.is c.loop-i.invariant.path c.in_ok-push-in-App.ensures.items c.loop-i.invariant.made
          c.in_ok-add_from-in-App.ensures.made;
    }
