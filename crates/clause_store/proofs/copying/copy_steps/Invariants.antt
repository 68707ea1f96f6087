-- The first words behind the first one.
use Rattle.std.proofs.Common.{◌≡◌, map, take}
use Rattle.derivation.specs.View.{later_of}
use Rattle.clause_store.proofs.copying.copy_steps.Given as goal

abbrev pub invariant-loop-step : goal.invariant-loop-step
invariant-loop-step l = map later_of l.copies.items ≡ map later_of (take l.step-index l.steps)
