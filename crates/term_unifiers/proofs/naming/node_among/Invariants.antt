-- It is none of the first variables.
use Rattle.std.specs.BTreeMap.{is_at}
use Rattle.std.specs.Map.{lookup}
use Rattle.std.specs.Ordering.{nat_cmp}
use Rattle.std.proofs.Common.{◌≡◌, drop}
use Rattle.term_unifiers.proofs.naming.node_among.Given as goal

abbrev pub invariant-loop-y : goal.invariant-loop-y
invariant-loop-y l = lookup (is_at (nat_cmp l.x)) (drop l.y-index l.few) ≡ lookup (is_at (nat_cmp l.x)) l.few
