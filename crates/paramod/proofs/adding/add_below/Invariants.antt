-- The path is the atom's, and what the first arguments give is made.
use Rattle.std.proofs.Common.{◌≡◌, ◌++◌, [], flat_map}
use Rattle.paramod.specs.Replacing.{site_of}
use Rattle.paramod.specs.Sites.{paramodulant_at}
use Rattle.paramod.proofs.Paths.{first_paths}
use Rattle.resolution.specs.View.{all_conclusions}
use Rattle.paramod.proofs.adding.add_below.Given as goal

abbrev pub invariant-loop-i : goal.invariant-loop-i
invariant-loop-i l = record {
  path : l.path.items ≡ [];
  made : all_conclusions l.made.items ≡ all_conclusions l.fn.made.items ++ flat_map (paramodulant_at (site_of l.site)) (first_paths l.part-items l.i);
}
