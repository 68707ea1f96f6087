-- None so far is the variable.
use Rattle.std.proofs.Common.{take}
use Rattle.unify.specs.Steps.{IsShownIn}
use Rattle.unify.proofs.looking.shows.Given as goal

abbrev pub invariant-loop-p : goal.invariant-loop-p
invariant-loop-p l = ¬ IsShownIn l.bank (take l.p-index l.spots.items) l.x
