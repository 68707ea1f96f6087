-- What is found and what the rest gives is all.
use Rattle.std.proofs.Common.{◌≡◌, ◌++◌, drop, map}
use Rattle.clausify.specs.Fronts.{normal_of}
use Rattle.clausify.specs.Input.{arities_in}
use Rattle.clausify.proofs.arity.all_arities.Given as goal

abbrev pub invariant-loop-normal : goal.invariant-loop-normal
invariant-loop-normal l = l.found.items ++ arities_in (map normal_of (drop l.normal-index l.normals)) ≡ arities_in (map normal_of l.normals)
