use Rattle.std.proofs.Common.{ℕ, ◌++◌, take, arith, rules, length-append, length-take}
use Rattle.ladr_io.proofs.StreamLaws.{Gives-append}
use Rattle.ladr_io.proofs.reading.read_all.Goals as goal

pub returns-then-count-room-clause-given_too_large : goal.returns-then-count-room-clause-given_too_large
returns-then-count-room-clause-given_too_large g c = λ _. record {
  bytes = c.loop-all.all.items ++ take c.in_ok-count.count c.read.new.buf;
  holds = Gives-append _ _ _ _ _ c.loop-all.invariant.gave c.in_ok-count.ensures.gives;
  count = grind (arith, length-append {A = ℕ}, length-take {A = ℕ}, c.loop-all.all.ok.0);
}

pub returns-in_err-extend_from_slice-clause-given_memory : goal.returns-in_err-extend_from_slice-clause-given_memory
returns-in_err-extend_from_slice-clause-given_memory g c = λ _. record {
  bytes = c.loop-all.all.items ++ take c.in_ok-count.count c.read.new.buf;
  holds = Gives-append _ _ _ _ _ c.loop-all.invariant.gave c.in_ok-count.ensures.gives;
  count = grind (arith, length-append {A = ℕ}, length-take {A = ℕ}, c.loop-all.all.ok.0);
}
