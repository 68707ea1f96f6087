-- The lines of the first formulas.
use Rattle.std.proofs.Common.{take}
use Rattle.clause_store.proofs.Kept.{AreLinesOf}
use Rattle.clause_store.proofs.store.Store.new.Given as goal

abbrev pub invariant-loop-input : goal.invariant-loop-input
invariant-loop-input l = AreLinesOf (take l.input-index l.input-items) l.lines.items
