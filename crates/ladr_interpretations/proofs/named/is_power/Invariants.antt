-- the powers so far
use Rattle.std.proofs.Common.{◌≡◌, ◌^◌}
use Rattle.ladr_interpretations.proofs.named.is_power.Given as goal

abbrev pub invariant-loop : goal.invariant-loop
invariant-loop l = l.product ≡ l.size ^ l.counter
