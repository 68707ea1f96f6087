-- the text so far and that of the numbers to come is that of all
use Rattle.std.proofs.Common.{◌≡◌, ◌==◌, ◌++◌, drop, if◌then◌else◌}
use Rattle.model_tables.specs.ModelText.{numbers_text, numbers_behind}
use Rattle.model_tables.proofs.entries.numbers.Given as goal

abbrev pub invariant-loop-at : goal.invariant-loop-at
invariant-loop-at l = l.out.items ++ (if l.at == 0 then numbers_text (drop l.at l.values) else numbers_behind (drop l.at l.values)) ≡ l.fn.out.items ++ numbers_text l.values
