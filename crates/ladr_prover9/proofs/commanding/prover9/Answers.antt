-- The end of a run of which the numbers are told.
use Rattle.std.proofs.Common.{inl}
use Rattle.std.proofs.lemmas.Result.{err_from_is_err_and}
use Rattle.ladr_prover9.proofs.Ending.{ends_alone, stops_alone, had_of, known_so}
use Rattle.ladr_prover9.proofs.commanding.prover9.Goals as goal

pub returns : goal.returns
returns g c =
    let run = c.in_ok-over.ensures.0 in
    (ends_alone _ _ _ _ _ _ c.in_ok-over.over run, inl (had_of run.bytes c.in_ok-over.ensures.1))

pub returns-in_err-over : goal.returns-in_err-over
returns-in_err-over g c =
    let p = err_from_is_err_and c.from_residual.result c.from_residual.ensures.1 in
    let stop = c.in_err-over.field-0.0 in
    let run = c.in_err-over.ensures.0 in
    rw (p.1, p.2) (stops_alone _ _ _ _ _ _ stop run, known_so (g.K.Sink.outflow c.args.sink.now) (g.K.Sink.outflow c.prove_counted.new.sink) stop run.bytes c.in_err-over.ensures.1)
