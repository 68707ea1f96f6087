-- of the cells so far it is the first of the greatest score
use Rattle.std.proofs.Common.{ℕ, get_or}
use Rattle.cell_choice.specs.Choosing.{IsHighest, is_up_to}
use Rattle.cell_choice.proofs.choice.highest.Given as goal

abbrev pub invariant-loop-cell : goal.invariant-loop-cell
invariant-loop-cell l = IsHighest (is_up_to l.trail l.limit) (λ k. get_or l.scores k 0) l.cell l.best
