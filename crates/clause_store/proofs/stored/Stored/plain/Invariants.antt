-- The first literals are made.
use Rattle.std.proofs.Common.{◌≡◌, take}
use Rattle.clause_store.specs.Stored.{stored_clause}
use Rattle.clause_store.proofs.stored.Stored.plain.Given as goal

abbrev pub invariant-loop-literal : goal.invariant-loop-literal
invariant-loop-literal l = l.clause ≡ stored_clause l.bank (take l.literal-index l.literal-items)
