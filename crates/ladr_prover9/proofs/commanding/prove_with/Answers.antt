-- The frame is printed, then the proofs, and then the last lines.
use Rattle.std.proofs.Common.{◌∙◌, refl, Err}
use Rattle.std.proofs.lemmas.Result.{err_from_is_err_and}
use Rattle.ladr_prover9.proofs.Steps.{start_text}
use Rattle.ladr_prover9.proofs.Seeking.{new_again}
use Rattle.ladr_prover9.proofs.Telling.{frame_cut, last_told, search_cut, told_for}
use Rattle.ladr_prover9.proofs.commanding.prove_with.Goals as goal
use Rattle.ladr_prover9.specs.Askings.{quest_of}
use Rattle.proof_print.specs.LineTexts.{frame_text}
use Rattle.prover.specs.Provers.{state_at, watch_of}

pub returns-in_err-piece : goal.returns-in_err-piece
returns-in_err-piece g c =
    let p = err_from_is_err_and c.from_residual.result c.from_residual.ensures.1 in
    rw (p.1, p.2) (frame_cut (quest_of c.args.asking.now) c.args.seconds (g.C.Clock.times c.args.clock.now) _ _ c.in_err-piece.field-0.0 c.requires.within c.requires.unread (c.in_err-piece.ensures.printed (frame_text c.args.asking.now.input.now) c.frame_text.ensures))

pub search_proofs-requires-clause-begun : goal.search_proofs-requires-clause-begun
search_proofs-requires-clause-begun g c = new_again (quest_of c.args.asking.now).search c.args.seconds c.args.prover.now c.requires.new

pub search_proofs-requires-clause-sink : goal.search_proofs-requires-clause-sink
search_proofs-requires-clause-sink g c = (c.in_ok-piece.ensures.printed (frame_text c.args.asking.now.input.now) c.frame_text.ensures).same ∙ c.requires.sink

pub ending-requires : goal.ending-requires
ending-requires g c =
    let q = quest_of c.args.asking.now in
    let took = c.in_ok-piece.ensures.printed (frame_text q.input) c.frame_text.ensures in
    (c.in_ok-end.ensures.tells (frame_text q.input) (start_text q)).2.same ∙ took.same ∙ c.requires.sink

pub returns : goal.returns
returns g c =
    let q = quest_of c.args.asking.now in
    let t = state_at c.search_proofs.new.prover in
    let took = c.in_ok-piece.ensures.printed (frame_text q.input) c.frame_text.ensures in
    told_for q q (watch_of c.args.prover.now).seconds c.args.seconds (g.C.Clock.times c.search_proofs.new.clock) _ _ _ refl c.requires.new.time
    (last_told q (watch_of c.args.prover.now).seconds (g.C.Clock.times c.search_proofs.new.clock) _ _ _ _ (frame_text q.input) c.in_ok-end.end c.counted.result t c.ending.result c.requires.within c.counted.ensures.end (c.counted.ensures.counts q c.in_ok-end.ensures.first) took
    (c.in_ok-end.ensures.tells (frame_text q.input) (start_text q)) (c.ending.ensures.printed _ c.closing_lines.ensures))

pub returns-in_err-end : goal.returns-in_err-end
returns-in_err-end g c =
    let q = quest_of c.args.asking.now in
    let t = state_at c.search_proofs.new.prover in
    let took = c.in_ok-piece.ensures.printed (frame_text q.input) c.frame_text.ensures in
    let p = err_from_is_err_and c.from_residual-in_err-end.result c.from_residual-in_err-end.ensures.1 in
    rw (p.1, p.2) (told_for q q (watch_of c.args.prover.now).seconds c.args.seconds (g.C.Clock.times c.search_proofs.new.clock) (g.K.Sink.outflow c.args.sink.now) (g.K.Sink.outflow c.search_proofs.new.sink) (Err c.in_err-end.field-0.0) refl c.requires.new.time
    (search_cut q (watch_of c.args.prover.now).seconds (g.C.Clock.times c.search_proofs.new.clock) _ _ _ (frame_text q.input) t c.in_err-end.field-0.0 c.requires.within took (c.in_err-end.ensures.tells (frame_text q.input) (start_text q))))
