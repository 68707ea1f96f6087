-- the last variables have their elements, and what is left of the number is that of the others
use Rattle.std.proofs.Common.{◌≡◌, ◌+◌, ◌-◌, ◌*◌, ◌^◌, drop, length, take}
use Rattle.model_tables.specs.Size.{AllBelow}
use Rattle.model_tables.specs.Tables.{place_from}
use Rattle.cell_search.proofs.occurrences.put_elements.Given as goal

abbrev pub invariant-loop-step : goal.invariant-loop-step
invariant-loop-step l = record {
  many : length l.env ≡ length l.fn.env;
  below : AllBelow l.size l.env;
  place : l.rest * l.size ^ l.step + place_from l.size 0 (take l.step (drop (l.variables - l.step) l.env)) ≡ l.number;
}
