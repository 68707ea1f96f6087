-- The first ones.
use Rattle.std.proofs.Common.{◌≡◌, ℕ, List, map, take}
use Rattle.shared_clauses.specs.Lefts.{part_atom}
use Rattle.substitutions.specs.Bindings.{Binding, by_bindings}
use Rattle.term_unifiers.specs.Renamed.{own_among}
use Rattle.term_unifiers.specs.Shared.{of_parent}
use Rattle.shared_clauses.proofs.making.left_parts.Given as goal

abbrev pub invariant-loop-one : goal.invariant-loop-one
invariant-loop-one l = (many : ℕ) (bs : List Binding) → map (of_parent many bs) l.parts.items ≡ map (part_atom (own_among many (by_bindings bs))) (take l.one-index l.left)
