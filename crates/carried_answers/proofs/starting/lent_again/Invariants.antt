-- The first ones are lent again.
use Rattle.std.proofs.Common.{◌≡◌, take}
use Rattle.carried_answers.proofs.starting.lent_again.Given as goal
use Rattle.inference.specs.Left.{all_left}

abbrev pub invariant-loop-one : goal.invariant-loop-one
invariant-loop-one l = all_left l.again.items ≡ all_left (take l.one-index l.left)
