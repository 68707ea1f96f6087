-- The first words are bounded.
use Rattle.std.proofs.Common.{take}
use Rattle.std.specs.List.{All}
use Rattle.printed_proofs.proofs.BoundedLists.{IsBoundedStep}
use Rattle.printed_proofs.proofs.words.steps_are_bounded.Given as goal

abbrev pub invariant-loop-step : goal.invariant-loop-step
invariant-loop-step l = All IsBoundedStep (take l.step-index l.steps)
