-- each value so far is crossed off, but the one
use Rattle.std.proofs.Common.{◌≡◌, ◌<◌, ◌+◌, ◌*◌, false, IfSome}
use Rattle.cell_search.specs.Asking.{AreCrossedBut}
use Rattle.mace_cells.specs.Trails.{is_struck_off}
use Rattle.cell_search.proofs.closing.left.Given as goal

abbrev pub invariant-loop-value : goal.invariant-loop-value
invariant-loop-value l = record {
  crossed : AreCrossedBut l.trail l.cell l.value l.only;
  within : IfSome l.only (λ v. v < l.end);
  spare : IfSome l.only (λ v. (v < l.value) × (is_struck_off (l.cell * l.trail.stride + v) l.trail.crossings ≡ false));
}
