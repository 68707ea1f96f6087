-- What is found and the rest is all.
use Rattle.std.proofs.Common.{◌≡◌, ◌++◌, ◌-◌, length, map}
use Rattle.clausify.specs.Input.{numbers_passing}
use Rattle.clausify.specs.Seen.{is_marked}
use Rattle.clausify.proofs.seen.marked_symbols.Given as goal

abbrev pub invariant-loop-number : goal.invariant-loop-number
invariant-loop-number l = map (λ s. s.0) l.found.items ++ numbers_passing (is_marked l.marks) l.number (length l.marks - l.number) ≡ numbers_passing (is_marked l.marks) 0 (length l.marks)
