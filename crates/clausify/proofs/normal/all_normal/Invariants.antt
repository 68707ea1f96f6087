-- The first forms are made.
use Rattle.std.proofs.Common.{◌≡◌, map, take}
use Rattle.fol_problem.specs.Stated.{all_said}
use Rattle.clausify.specs.AskedForms.{asked_by, asked_in}
use Rattle.clausify.specs.Fronts.{normal_of}
use Rattle.clausify.specs.Input.{forms}
use Rattle.clausify.proofs.normal.all_normal.Given as goal

abbrev pub invariant-loop-input : goal.invariant-loop-input
invariant-loop-input l = record {
  forms : map normal_of l.all.items ≡ forms (all_said (take l.input-index l.inputs));
  asked : map asked_by l.all.items ≡ map asked_in (take l.input-index l.inputs);
}
