-- the text so far and that of the places to come is that of all
use Rattle.std.proofs.Common.{◌≡◌, ◌-◌, ◌++◌}
use Rattle.model_tables.specs.ModelText.{further_places}
use Rattle.model_tables.proofs.entries.further_places.Given as goal

abbrev pub invariant-loop : goal.invariant-loop
invariant-loop l = l.out.items ++ further_places (l.more - l.counter) ≡ l.fn.out.items ++ further_places l.more
