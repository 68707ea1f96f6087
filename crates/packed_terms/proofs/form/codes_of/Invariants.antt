-- The codes so far are those of the first heads.
use Rattle.std.proofs.Common.{◌≡◌, map, take}
use Rattle.packed_terms.specs.Codes.{head_of}
use Rattle.packed_terms.proofs.form.codes_of.Given as goal

abbrev pub invariant-loop-head : goal.invariant-loop-head
invariant-loop-head l = map head_of l.codes.items ≡ take l.head-index l.heads
