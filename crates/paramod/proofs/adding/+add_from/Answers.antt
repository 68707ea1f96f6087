use Rattle.std.proofs.Common.{◌≡◌, ◌+◌, ◌-◌, List, [], ◌∷◌, ◌++◌, Some, length, flat_map, vec_len, ap, sym, ◌∙◌, arith}
use Rattle.std.proofs.lemmas.List.{length-append}
use Rattle.fol_core.specs.TermView.{tree_of, tree_list}
use Rattle.fol_core.specs.Tree.{Tree, app, trees_of, nodes, nodes_of}
use Rattle.fol_core.specs.declared.term.Term.{Term}
use Rattle.paramod.specs.Replacing.{site_of}
use Rattle.paramod.specs.Sites.{atom_into, paramodulant_at}
use Rattle.paramod.proofs.Paths.{argument_made, argument_nodes, into_argument, arguments_all, from_term, popped}
use Rattle.prover_steps.specs.Equalities.{paths_of}
use Rattle.resolution.specs.View.{all_conclusions}
use Rattle.paramod.proofs.adding.+add_from.Goals as goal

pub add_from-requires : goal.add_from-requires
add_from-requires t c =
    let items = c.deref-part-items.result.now in
    let shape : app c.in-App.field-0.0 (trees_of (tree_list items)) ≡ tree_of c.args.term.now =
    ap (λ (us : List Term). app c.in-App.field-0.0 (trees_of (tree_list us))) c.deref-part-items.ensures.value ∙ ap (λ (ts : List Tree). app c.in-App.field-0.0 (trees_of ts)) c.terms.view_is
    ∙ ap tree_of (sym c.in-App.is) in
    let whole : nodes_of (trees_of (tree_list items)) + 2 ≡ nodes (tree_of c.args.term.now) = ap nodes shape in
    let part = argument_nodes items c.loop-i.i c.part-item.result (omega arith) c.part-item.is in
    let longer : length c.push.new.self.items ≡ length (c.loop-i.path.items ++ (c.loop-i.i + 1) ∷ []) = ap length c.in_ok-push-in-App.ensures.items in (
      omega (arith, c.decreases, whole, part),
      (
        c.requires.side,
        (
          into_argument (atom_into (site_of c.args.site.now)) c.args.path.now.items c.loop-i.path.items c.push.new.self.items c.in-App.field-0.0 items c.loop-i.i c.part-item.result (omega arith)
              c.part-item.is c.loop-i.invariant.path c.in_ok-push-in-App.ensures.items (c.requires.there ∙ ap Some (sym shape)),
          omega (arith, longer, length-append c.loop-i.path.items ((c.loop-i.i + 1) ∷ [])),
        ),
      ),
    )

pub loop-i-preserved : goal.loop-i-preserved
loop-i-preserved t c =
    let f = paramodulant_at (site_of c.args.site.now) in
    let path = c.args.path.now.items in
    let before = c.loop-i.path.items in
    let pushed : c.add_from.new.path.items ≡ before ++ (c.loop-i.i + 1) ∷ [] = c.in_ok-add_from-in-App.ensures.path ∙ c.in_ok-push-in-App.ensures.items in
    record {
      path = popped before c.add_from.new.path.items c.pop-number.new.self.items (c.loop-i.i + 1) (vec_len c.add_from.new.path - 1) pushed c.pop-number.ensures.rest
          (omega (arith, ap length pushed, length-append before ((c.loop-i.i + 1) ∷ []))) ∙ c.loop-i.invariant.path;
      made = argument_made f path before c.push.new.self.items c.deref-part-items.result.now c.loop-i.i c.part-item.result (all_conclusions c.args.made.now.items ++ f path)
          (all_conclusions c.loop-i.made.items) (all_conclusions c.add_from.new.made.items) (omega arith) c.part-item.is c.loop-i.invariant.path c.in_ok-push-in-App.ensures.items c.loop-i.invariant.made
          c.in_ok-add_from-in-App.ensures.made;
    }

pub returns-after-loop-i-clause-made : goal.returns-after-loop-i-clause-made
returns-after-loop-i-clause-made t c =
    let f = paramodulant_at (site_of c.args.site.now) in
    let path = c.args.path.now.items in
    let old = all_conclusions c.args.made.now.items in
    let items = c.deref-part-items.result.now in
    let shape : app c.in-App.field-0.0 (trees_of (tree_list items)) ≡ tree_of c.args.term.now =
    ap (λ (us : List Term). app c.in-App.field-0.0 (trees_of (tree_list us))) c.deref-part-items.ensures.value ∙ ap (λ (ts : List Tree). app c.in-App.field-0.0 (trees_of ts)) c.terms.view_is
    ∙ ap tree_of (sym c.in-App.is) in
    from_term f path (trees_of (tree_list items)) old (all_conclusions c.loop-i.made.items)
    (arguments_all f path items c.loop-i.i (old ++ f path) (all_conclusions c.loop-i.made.items) (omega arith) c.loop-i.invariant.made)
    ∙ ap (λ (u : Tree). old ++ flat_map (λ rest. f (path ++ rest)) (paths_of u)) shape
