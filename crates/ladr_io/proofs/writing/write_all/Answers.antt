use Rattle.std.proofs.Common.{ℕ, ◌+◌, ◌-◌, List, length, take, drop, Option, rules}
use Rattle.std.proofs.Math.Seq.{take-add}
use Rattle.std.proofs.lemmas.List.{take_rest}
use Rattle.ladr_io.specs.Streams.{Outflow, Takes}
use Rattle.ladr_io.proofs.StreamLaws.{Takes-append, TakesFront-take}
use Rattle.ladr_io.proofs.writing.write_all.Goals as goal

-- a front of the piece and then a front of its rest
written_more : (a b c : Outflow) (piece : List ℕ) (n m : ℕ) → Takes a b (take n piece) → Takes b c (take m (take (length piece - n) (drop n piece))) → Takes a c (take (n + m) piece)
written_more a b c piece n m g h =
    rw (take-add n m piece) (Takes-append a b c _ _ g (rw (take_rest piece n) at h))

pub returns-in-Err-clause-front : goal.returns-in-Err-clause-front
returns-in-Err-clause-front g c =
    TakesFront-take _ _ _ c.loop-written.written c.args.piece.now c.loop-written.invariant.took c.in-Err.ensures.takes

pub loop-written-preserved : goal.loop-written-preserved
loop-written-preserved g c = record {
  within = search rules;
  took = written_more _ (g.K.Sink.outflow c.loop-written.sink) _ c.args.piece.now c.loop-written.written c.in-Ok.count c.loop-written.invariant.took c.in-Ok.ensures.takes;
}
