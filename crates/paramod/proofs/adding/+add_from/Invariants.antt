-- An argument has fewer nodes. The path is the term's, and what the first arguments give is made.
use Rattle.std.proofs.Common.{◌≡◌, ◌++◌, flat_map}
use Rattle.fol_core.specs.Tree.{nodes}
use Rattle.fol_core.specs.TermView.{tree_of}
use Rattle.paramod.specs.Replacing.{site_of}
use Rattle.paramod.specs.Sites.{paramodulant_at}
use Rattle.paramod.proofs.Paths.{first_paths}
use Rattle.resolution.specs.View.{all_conclusions}
use Rattle.paramod.proofs.adding.+add_from.Given as goal

abbrev pub decreases-add_from : goal.decreases-add_from
decreases-add_from l = nodes (tree_of l.term.now)

abbrev pub invariant-loop-i : goal.invariant-loop-i
invariant-loop-i l = record {
  path : l.path.items ≡ l.fn.path.items;
  made : all_conclusions l.made.items
      ≡ (all_conclusions l.fn.made.items ++ paramodulant_at (site_of l.site) l.fn.path.items)
      ++ flat_map (λ rest. paramodulant_at (site_of l.site) (l.fn.path.items ++ rest)) (first_paths l.part-items l.i);
}
