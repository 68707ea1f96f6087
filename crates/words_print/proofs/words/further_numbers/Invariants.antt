-- The text so far, and that of the numbers to come, is that of all.
use Rattle.std.proofs.Common.{◌≡◌, ◌++◌, drop}
use Rattle.words_print.specs.WordTokens.{further_numbers, joint_text}
use Rattle.words_print.proofs.words.further_numbers.Given as goal

abbrev pub invariant-loop-n : goal.invariant-loop-n
invariant-loop-n l = l.out.items ++ joint_text (further_numbers (drop l.n-index l.numbers)) ≡ l.fn.out.items ++ joint_text (further_numbers l.numbers)
