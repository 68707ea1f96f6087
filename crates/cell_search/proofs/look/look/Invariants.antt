-- Where the instance is true, so is a literal behind those that were looked at, or the one that isn't known.
use Rattle.std.proofs.Common.{◌<◌, IfSome, length}
use Rattle.mace_ground.specs.Instances.{assigned_by}
use Rattle.cell_search.proofs.Joining.{IsToldFrom}
use Rattle.cell_search.proofs.Looking.{IsLeft, IsUnseen}
use Rattle.cell_search.proofs.look.look.Given as goal

abbrev pub invariant-loop-at : goal.invariant-loop-at
invariant-loop-at l = record {
  left : IsLeft l.setup l.trail.entries (assigned_by l.env) l.literals l.at l.unknown;
  within : IfSome l.unknown (λ j. j < length l.literals);
  unseen : IfSome l.unknown (λ j. IsUnseen l.setup l.trail.entries (assigned_by l.env) l.literals j);
  told : IsToldFrom l.setup l.trail.entries (assigned_by l.env) l.literals l.at l.unknown;
}
