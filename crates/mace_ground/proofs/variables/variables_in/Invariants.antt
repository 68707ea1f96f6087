-- the greatest so far and of those to come is that of all
use Rattle.std.proofs.Common.{◌≡◌, ◌≤◌, ◌^◌, max, map, drop}
use Rattle.fol_core.specs.ClauseView.{literal_of}
use Rattle.mace_ground.specs.Instances.{variables_in}
use Rattle.mace_ground.proofs.variables.variables_in.Given as goal

abbrev pub invariant-loop-literal : goal.invariant-loop-literal
invariant-loop-literal l = record {
  few : l.above ≤ 2 ^ 64;
  all : max l.above (variables_in (map literal_of (drop l.literal-index l.literal-items))) ≡ variables_in (map literal_of l.literal-items);
}
