-- The first numbers stand behind.
use Rattle.std.proofs.Common.{◌≡◌, ◌++◌, take, vec_capacity}
use Rattle.term_unifiers.proofs.comparing.put_behind.Given as goal

abbrev pub invariant-loop-number : goal.invariant-loop-number
invariant-loop-number l = record {
  numbers : l.numbers.items ≡ l.fn.numbers.items ++ take l.number-index l.more;
  capacity : vec_capacity l.numbers ≡ vec_capacity l.fn.numbers;
}
