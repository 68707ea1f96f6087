-- Answer by answer.
use Rattle.std.proofs.Common.{◌∙◌, ℕ, Option, Ok, sym, ap, arith, subst, refl, rules}
use Rattle.std.proofs.lemmas.Result.{err_from_is_err_and}
use Rattle.ladr_prover9.proofs.Seeking.{counted_at, within, new_watched, only_proof, begins, lacking, comes, reached_next, has_proof, found, many, stopped, shown, first_comes, first_next, first_shown}
use Rattle.ladr_prover9.proofs.searching.search_proofs.Goals as goal
use Rattle.ladr_prover9.specs.Askings.{quest_of}
use Rattle.ladr_prover9.specs.Counting.{IsFirstProof}
use Rattle.ladr_prover9.specs.Quests.{quest_lines}
use Rattle.prover.specs.Answers.{LacksMemory, RunsTo, readings_first, end_of}
use Rattle.prover.specs.Provers.{state_at, watch_of, IsGoing}
use Rattle.prover.specs.declared.answer.ProverAnswer.{ProverAnswer}
use Rattle.prover_setup.specs.SearchInputs.{setting_in}
use Rattle.prover_steps.specs.Searching.{Setting, SearchState}

pub loop-answer-init : goal.loop-answer-init
loop-answer-init g c =
    let q = quest_of c.args.asking.now in
    let w = watch_of c.args.prover.now in
    let times = g.C.Clock.times c.args.clock.now in
    let new = c.requires.begun in
    record {
      searched = begins q w.seconds w times (state_at c.args.prover.now) (g.K.Sink.outflow c.args.sink.now) refl new.unread new.state c.requires.unread;
      setting = new.setting;
      going = new.going;
      goes = record { fit = new.fit; watched = new_watched w times new.unread c.requires.unread };
      first = subst (λ (u : SearchState). IsFirstProof (quest_lines q u) u.proofs c.args.first.now.length c.args.first.now.level) (sym new.state) c.requires.none;
    }

pub returns-in-Some-clause-tells : goal.returns-in-Some-clause-tells
returns-in-Some-clause-tells g c =
    let q = quest_of c.args.asking.now in
    let seconds = (watch_of c.args.prover.now).seconds in
    let w = watch_of c.loop-answer.prover in
    let times = g.C.Clock.times c.loop-answer.clock in
    let s = state_at c.loop-answer.prover in
    let t = state_at c.run.new.self in
    let now = g.C.Clock.times c.run.new.clock in
    let a = g.K.Sink.outflow c.args.sink.now in
    let b = g.K.Sink.outflow c.loop-answer.sink in
    let h = c.loop-answer.invariant.searched in
    let runs = subst (λ (x : Option ℕ). RunsTo (setting_in q.search) x (readings_first w) s t times now (Ok c.in_ok-answer.answer)) h.time (subst (λ (st : Setting). RunsTo st w.seconds (readings_first w) s t times now (Ok c.in_ok-answer.answer)) c.loop-answer.invariant.setting (c.in_ok-answer.ensures.runs c.loop-answer.invariant.going)) in
    comes c.ancestors_are_one.ensures.stay c.searches_start_well.ensures c.searches_are_sound.ensures q c.requires.sound seconds w times s a b h c.ends_have_reasons.ensures.start c.ends_have_reasons.ensures.reached now t c.in_ok-answer.answer c.in-Some.end c.proofs_are_counted.ensures runs (sym c.end_for.ensures ∙ c.in-Some.is)

pub returns-in-Some-clause-first : goal.returns-in-Some-clause-first
returns-in-Some-clause-first g c =
    let q = quest_of c.args.asking.now in
    let seconds = (watch_of c.args.prover.now).seconds in
    let w = watch_of c.loop-answer.prover in
    let times = g.C.Clock.times c.loop-answer.clock in
    let s = state_at c.loop-answer.prover in
    let t = state_at c.run.new.self in
    let now = g.C.Clock.times c.run.new.clock in
    let a = g.K.Sink.outflow c.args.sink.now in
    let b = g.K.Sink.outflow c.loop-answer.sink in
    let h = c.loop-answer.invariant.searched in
    let runs = subst (λ (x : Option ℕ). RunsTo (setting_in q.search) x (readings_first w) s t times now (Ok c.in_ok-answer.answer)) h.time (subst (λ (st : Setting). RunsTo st w.seconds (readings_first w) s t times now (Ok c.in_ok-answer.answer)) c.loop-answer.invariant.setting (c.in_ok-answer.ensures.runs c.loop-answer.invariant.going)) in
    first_comes c.ancestors_are_one.ensures.stay c.searches_start_well.ensures c.searches_are_sound.ensures q c.requires.sound seconds w times s a b h now t c.in_ok-answer.answer c.in-Some.end c.loop-answer.first.length c.loop-answer.first.level runs (sym c.end_for.ensures ∙ c.in-Some.is) c.loop-answer.invariant.first

pub returns-in_err-answer-clause-tells : goal.returns-in_err-answer-clause-tells
returns-in_err-answer-clause-tells g c =
    let q = quest_of c.args.asking.now in
    let seconds = (watch_of c.args.prover.now).seconds in
    let w = watch_of c.loop-answer.prover in
    let times = g.C.Clock.times c.loop-answer.clock in
    let s = state_at c.loop-answer.prover in
    let t = state_at c.run.new.self in
    let now = g.C.Clock.times c.run.new.clock in
    let a = g.K.Sink.outflow c.args.sink.now in
    let b = g.K.Sink.outflow c.loop-answer.sink in
    let h = c.loop-answer.invariant.searched in
    let lacks = subst (λ (x : Option ℕ). LacksMemory (setting_in q.search) x (readings_first w) s times now) h.time (subst (λ (st : Setting). LacksMemory st w.seconds (readings_first w) s times now) c.loop-answer.invariant.setting (c.in_err-answer.ensures.runs c.loop-answer.invariant.going)) in
    let p = err_from_is_err_and c.from_residual.result c.from_residual.ensures.1 in
    rw (p.1, p.2) (lacking c.ancestors_are_one.ensures.stay c.searches_start_well.ensures c.searches_are_sound.ensures q c.requires.sound seconds w times s a b h now t lacks)

pub last_proof-requires-clause-counted : goal.last_proof-requires-clause-counted
last_proof-requires-clause-counted g c =
    let q = quest_of c.args.asking.now in
    let seconds = (watch_of c.args.prover.now).seconds in
    let w = watch_of c.loop-answer.prover in
    let times = g.C.Clock.times c.loop-answer.clock in
    let s = state_at c.loop-answer.prover in
    let t = state_at c.run.new.self in
    let now = g.C.Clock.times c.run.new.clock in
    let a = g.K.Sink.outflow c.args.sink.now in
    let b = g.K.Sink.outflow c.loop-answer.sink in
    let h = c.loop-answer.invariant.searched in
    let runs = subst (λ (x : Option ℕ). RunsTo (setting_in q.search) x (readings_first w) s t times now (Ok c.in_ok-answer.answer)) h.time (subst (λ (st : Setting). RunsTo st w.seconds (readings_first w) s t times now (Ok c.in_ok-answer.answer)) c.loop-answer.invariant.setting (c.in_ok-answer.ensures.runs c.loop-answer.invariant.going)) in
    let proof = only_proof c.in_ok-answer.answer (sym c.end_for.ensures ∙ search rules) in
    let k = subst (λ (x : ProverAnswer). RunsTo (setting_in q.search) seconds (readings_first w) s t times now (Ok x)) proof.1 runs in
    counted_at c.lines_are_counted.ensures.reached c.args.asking.now t c.requires.asked (reached_next c.ancestors_are_one.ensures.stay c.searches_start_well.ensures c.searches_are_sound.ensures q c.requires.sound seconds w times s a b h now t proof.0 k.0 k.1.0 k.1.1)

pub last_proof-requires-clause-found : goal.last_proof-requires-clause-found
last_proof-requires-clause-found g c =
    let q = quest_of c.args.asking.now in
    let seconds = (watch_of c.args.prover.now).seconds in
    let w = watch_of c.loop-answer.prover in
    let times = g.C.Clock.times c.loop-answer.clock in
    let s = state_at c.loop-answer.prover in
    let t = state_at c.run.new.self in
    let now = g.C.Clock.times c.run.new.clock in
    let a = g.K.Sink.outflow c.args.sink.now in
    let b = g.K.Sink.outflow c.loop-answer.sink in
    let h = c.loop-answer.invariant.searched in
    let runs = subst (λ (x : Option ℕ). RunsTo (setting_in q.search) x (readings_first w) s t times now (Ok c.in_ok-answer.answer)) h.time (subst (λ (st : Setting). RunsTo st w.seconds (readings_first w) s t times now (Ok c.in_ok-answer.answer)) c.loop-answer.invariant.setting (c.in_ok-answer.ensures.runs c.loop-answer.invariant.going)) in
    let proof = only_proof c.in_ok-answer.answer (sym c.end_for.ensures ∙ search rules) in
    let k = subst (λ (x : ProverAnswer). RunsTo (setting_in q.search) seconds (readings_first w) s t times now (Ok x)) proof.1 runs in
    has_proof c.ancestors_are_one.ensures.stay c.searches_start_well.ensures c.searches_are_sound.ensures q c.requires.sound seconds w times s a b h now t proof.0 k.0 k.1.0 k.1.1

pub loop-answer-smaller : goal.loop-answer-smaller
loop-answer-smaller g c =
    let q = quest_of c.args.asking.now in
    let seconds = (watch_of c.args.prover.now).seconds in
    let w = watch_of c.loop-answer.prover in
    let times = g.C.Clock.times c.loop-answer.clock in
    let s = state_at c.loop-answer.prover in
    let t = state_at c.run.new.self in
    let now = g.C.Clock.times c.run.new.clock in
    let a = g.K.Sink.outflow c.args.sink.now in
    let b = g.K.Sink.outflow c.loop-answer.sink in
    let h = c.loop-answer.invariant.searched in
    let runs = subst (λ (x : Option ℕ). RunsTo (setting_in q.search) x (readings_first w) s t times now (Ok c.in_ok-answer.answer)) h.time (subst (λ (st : Setting). RunsTo st w.seconds (readings_first w) s t times now (Ok c.in_ok-answer.answer)) c.loop-answer.invariant.setting (c.in_ok-answer.ensures.runs c.loop-answer.invariant.going)) in
    let proof = only_proof c.in_ok-answer.answer (sym c.end_for.ensures ∙ search rules) in
    let k = subst (λ (x : ProverAnswer). RunsTo (setting_in q.search) seconds (readings_first w) s t times now (Ok x)) proof.1 runs in
    omega (arith, many c.ancestors_are_one.ensures.stay c.searches_start_well.ensures c.searches_are_sound.ensures q c.requires.sound seconds w times s a b h now t proof.0 k.0 k.1.0 k.1.1, (within c.ends_have_reasons.ensures.start c.ends_have_reasons.ensures.reached q t (reached_next c.ancestors_are_one.ensures.stay c.searches_start_well.ensures c.searches_are_sound.ensures q c.requires.sound seconds w times s a b h now t proof.0 k.0 k.1.0 k.1.1)).proofs)

pub loop-answer-preserved : goal.loop-answer-preserved
loop-answer-preserved g c =
    let q = quest_of c.args.asking.now in
    let seconds = (watch_of c.args.prover.now).seconds in
    let w = watch_of c.loop-answer.prover in
    let times = g.C.Clock.times c.loop-answer.clock in
    let s = state_at c.loop-answer.prover in
    let t = state_at c.run.new.self in
    let now = g.C.Clock.times c.run.new.clock in
    let a = g.K.Sink.outflow c.args.sink.now in
    let b = g.K.Sink.outflow c.loop-answer.sink in
    let h = c.loop-answer.invariant.searched in
    let runs = subst (λ (x : Option ℕ). RunsTo (setting_in q.search) x (readings_first w) s t times now (Ok c.in_ok-answer.answer)) h.time (subst (λ (st : Setting). RunsTo st w.seconds (readings_first w) s t times now (Ok c.in_ok-answer.answer)) c.loop-answer.invariant.setting (c.in_ok-answer.ensures.runs c.loop-answer.invariant.going)) in
    let proof = only_proof c.in_ok-answer.answer (sym c.end_for.ensures ∙ search rules) in
    let k = subst (λ (x : ProverAnswer). RunsTo (setting_in q.search) seconds (readings_first w) s t times now (Ok x)) proof.1 runs in
    let going : IsGoing c.run.new.self = record { unended = c.in_ok-answer.ensures.ends c.loop-answer.invariant.going ∙ ap end_of proof.1; sufficed = c.in_ok-answer.ensures.sufficed.1 } in
    record {
      searched = shown c.ancestors_are_one.ensures.stay c.searches_start_well.ensures c.searches_are_sound.ensures q c.requires.sound seconds w times s a b h now t proof.0 k.0 k.1.0 k.1.1 (watch_of c.run.new.self) c.last_proof.result (g.K.Sink.outflow c.piece.new.sink) (c.run.ensures.time ∙ h.time) (c.run.ensures.begun c.loop-answer.invariant.going) (c.last_proof.ensures.text s.proofs k.0.found.0 (found c.ancestors_are_one.ensures.stay c.searches_start_well.ensures c.searches_are_sound.ensures q c.requires.sound seconds w times s a b h now t proof.0 k.0 k.1.0 k.1.1)) c.in_ok-piece.ensures.lacking c.in_ok-piece.ensures.printed;
      setting = c.run.ensures.setting ∙ c.loop-answer.invariant.setting;
      going = going;
      goes = c.run.ensures.goes going;
      first = first_shown c.ancestors_are_one.ensures.stay c.searches_start_well.ensures c.searches_are_sound.ensures q c.requires.sound seconds w times s a b h now t proof.0 k.0 k.1.0 k.1.1 c.last_proof.result c.last_proof.new.first.length c.last_proof.new.first.level c.in_ok-piece.ensures.lacking
          (c.last_proof.ensures.first s.proofs k.0.found.0 (found c.ancestors_are_one.ensures.stay c.searches_start_well.ensures c.searches_are_sound.ensures q c.requires.sound seconds w times s a b h now t proof.0 k.0 k.1.0 k.1.1)
          (first_next c.ancestors_are_one.ensures.stay c.searches_start_well.ensures c.searches_are_sound.ensures q c.requires.sound seconds w times s a b h now t proof.0 k.0 k.1.0 k.1.1 c.loop-answer.first.length c.loop-answer.first.level c.loop-answer.invariant.first));
    }

pub returns-in_err-piece-clause-tells : goal.returns-in_err-piece-clause-tells
returns-in_err-piece-clause-tells g c =
    let q = quest_of c.args.asking.now in
    let seconds = (watch_of c.args.prover.now).seconds in
    let w = watch_of c.loop-answer.prover in
    let times = g.C.Clock.times c.loop-answer.clock in
    let s = state_at c.loop-answer.prover in
    let t = state_at c.run.new.self in
    let now = g.C.Clock.times c.run.new.clock in
    let a = g.K.Sink.outflow c.args.sink.now in
    let b = g.K.Sink.outflow c.loop-answer.sink in
    let h = c.loop-answer.invariant.searched in
    let runs = subst (λ (x : Option ℕ). RunsTo (setting_in q.search) x (readings_first w) s t times now (Ok c.in_ok-answer.answer)) h.time (subst (λ (st : Setting). RunsTo st w.seconds (readings_first w) s t times now (Ok c.in_ok-answer.answer)) c.loop-answer.invariant.setting (c.in_ok-answer.ensures.runs c.loop-answer.invariant.going)) in
    let proof = only_proof c.in_ok-answer.answer (sym c.end_for.ensures ∙ search rules) in
    let k = subst (λ (x : ProverAnswer). RunsTo (setting_in q.search) seconds (readings_first w) s t times now (Ok x)) proof.1 runs in
    let p = err_from_is_err_and c.from_residual-in_err-piece.result c.from_residual-in_err-piece.ensures.1 in
    rw (p.1, p.2) (stopped c.ancestors_are_one.ensures.stay c.searches_start_well.ensures c.searches_are_sound.ensures q c.requires.sound seconds w times s a b h now t proof.0 k.0 k.1.0 k.1.1 t c.last_proof.result (g.K.Sink.outflow c.piece.new.sink) c.in_err-piece.field-0.0 (c.last_proof.ensures.text s.proofs k.0.found.0 (found c.ancestors_are_one.ensures.stay c.searches_start_well.ensures c.searches_are_sound.ensures q c.requires.sound seconds w times s a b h now t proof.0 k.0 k.1.0 k.1.1)) c.in_err-piece.ensures.lacking c.in_err-piece.ensures.printed)
