use Rattle.std.proofs.Common.{◌≡◌, ℕ, suc, ◌+◌, [], Option, refl, sym, subst, ap, ◌∙◌, arith}
use Rattle.std.proofs.lemmas.Result.{err_from_is_err_and}
use Rattle.cell_search.specs.Courses.{Course}
use Rattle.ladr_io.proofs.StreamLaws.{Takes-none}
use Rattle.ladr_io.specs.Watch.{IsEarly}
use Rattle.ladr_mace4.proofs.Clocks.{watched_on, late_on, read_on}
use Rattle.ladr_mace4.proofs.Found.{line_alone, at_end, at_model, at_last, at_late, nothing_yet, further, printed_model, none_gone, gone_before, gone_more, gone_over, gone_late}
use Rattle.ladr_mace4.specs.LeafModels.{MakesSense}
use Rattle.search_clock.proofs.Clocks.{in_time, early_at}
use Rattle.search_clock.specs.Watching.{time_to_stop}
use Rattle.ladr_mace4.proofs.models.models.Goals as goal

pub returns-in_err-search-clause-tells : goal.returns-in_err-search-clause-tells
returns-in_err-search-clause-tells g c = λ r reads.
    let p = err_from_is_err_and c.from_residual.result c.from_residual.ensures.1 in
    rw (p.1, p.2) ([], line_alone c.args.asked.now c.args.plan _ c.args.n c.args.k r c.requires.begun c.requires.room c.requires.fewer (in_time c.args.watch c.args.plan.seconds _ c.requires.seconds c.requires.watched) reads, Takes-none _)

pub loop-printed-init : goal.loop-printed-init
loop-printed-init g c =
    let t = g.C.Clock.times c.args.clock.now in
    let made = c.in_ok-search.ensures in
    let stop : c.in_ok-search.search.stop ≡ time_to_stop c.args.watch.seconds t = ap (λ (s : Course). s.stop) made ∙ c.stop.ensures t c.requires.looked in
    record {
      so_far = (
        [],
        (
          nothing_yet c.args.asked.now c.args.plan c.args.n c.args.k c.in_ok-search.search (g.K.Sink.outflow c.args.sink.now) (ap (λ (s : Course). s.world) made) (ap (λ (s : Course). s.late) made),
          none_gone c.args.asked.now c.args.plan c.args.n c.in_ok-search.search t (ap (λ (s : Course). s.live) made) (ap (λ (s : Course). s.choices) made),
        ),
      );
      stop = stop;
      early = early_at c.args.watch c.in_ok-search.search.stop t c.requires.looked c.requires.watched stop;
      writes = c.requires.sink;
      fewer = omega (arith, c.requires.fewer);
    }

pub loop-printed-preserved : goal.loop-printed-preserved
loop-printed-preserved g c =
    let us = c.loop-printed.invariant.so_far.0 in
    let so_far = c.loop-printed.invariant.so_far.1.0 in
    let gone = c.loop-printed.invariant.so_far.1.1 in
    let search = c.loop-printed.search in
    let further_on = c.next_model.new.self in
    let gives = c.in-Model.ensures.gives so_far.late in
    let same = c.in-Model.ensures.same in
    let t₀ = g.C.Clock.times c.args.clock.now in
    let t = g.C.Clock.times c.loop-printed.clock in
    let t' = g.C.Clock.times c.next_model.new.clock in
    let here = gone_before c.args.asked.now c.args.plan c.args.n us search further_on t₀ t t' so_far.world same.0 gone (c.in-Model.ensures.comes so_far.late) (c.in-Model.ensures.leaf so_far.late refl) in
    let made = printed_model _ (g.K.Sink.outflow c.loop-printed.sink) (g.K.Sink.outflow c.show.new.sink) c.in_ok-show.ensures in
    record {
      so_far = (
        _,
        (
          further c.args.asked.now c.args.plan c.args.n c.args.k us search further_on c.loop-printed.printed (c.loop-printed.printed + 1) _ _ _ so_far same.0 gives.3 refl made,
          gone_more c.args.asked.now c.args.plan c.args.n us search further_on t₀ t' same.1 gives.2 here,
        ),
      );
      stop = same.1 ∙ c.loop-printed.invariant.stop;
      early = subst (λ (x : Option ℕ). IsEarly x t') (sym same.1) gives.4;
      writes = made.same ∙ c.loop-printed.invariant.writes;
      fewer = omega (arith, c.loop-printed-test.true);
    }

pub returns-in_err-show-clause-tells : goal.returns-in_err-show-clause-tells
returns-in_err-show-clause-tells g c = λ r reads.
    let sense : MakesSense c.args.asked.now c.args.n = record { well_formed = c.is_proper.ensures.well_formed; fits = c.is_proper.ensures.fits; few = c.is_proper.ensures.few; few_witnesses = c.is_proper.ensures.few_witnesses; some = c.requires.size; needed = c.requires.begun.1 } in
    let shown = c.leaves_are_models.ensures.models c.args.asked.now c.args.n c.args.plan.way sense in
    let us = c.loop-printed.invariant.so_far.0 in
    let so_far = c.loop-printed.invariant.so_far.1.0 in
    let gone = c.loop-printed.invariant.so_far.1.1 in
    let search = c.loop-printed.search in
    let further_on = c.next_model.new.self in
    let gives = c.in-Model.ensures.gives so_far.late in
    let t₀ = g.C.Clock.times c.args.clock.now in
    let t = g.C.Clock.times c.loop-printed.clock in
    let t' = g.C.Clock.times c.next_model.new.clock in
    let same = c.in-Model.ensures.same in
    let here = gone_before c.args.asked.now c.args.plan c.args.n us search further_on t₀ t t' so_far.world same.0 gone (c.in-Model.ensures.comes so_far.late) (c.in-Model.ensures.leaf so_far.late refl) in
    let stop : search.stop ≡ time_to_stop c.args.plan.seconds t₀ = subst (λ (s : Option ℕ). search.stop ≡ time_to_stop s t₀) c.requires.seconds c.loop-printed.invariant.stop in
    let watched = watched_on c.args.watch search.stop _ t₀ t' c.requires.looked c.loop-printed.invariant.stop c.requires.watched gives.4 here.goes in
    let p = err_from_is_err_and c.from_residual-in_err-show.result c.from_residual-in_err-show.ensures.1 in
    rw (p.1, p.2) (at_model c.args.asked.now c.args.plan t' c.args.n c.args.k r us search further_on.tables further_on.choices c.loop-printed.printed _ _ _ c.in_err-show.field-0.0 shown c.requires.begun c.requires.room c.loop-printed-test.true so_far t₀ here
    (in_time c.args.watch c.args.plan.seconds t' c.requires.seconds watched.0) (read_on c.args.plan.seconds search.stop t₀ t₀ t' (r + 1) here.chosen (r + suc here.chosen) (omega arith) stop reads here.goes) c.in_err-show.ensures)

pub returns-in-Exhausted-clause-tells : goal.returns-in-Exhausted-clause-tells
returns-in-Exhausted-clause-tells g c = λ r reads.
    let sense : MakesSense c.args.asked.now c.args.n = record { well_formed = c.is_proper.ensures.well_formed; fits = c.is_proper.ensures.fits; few = c.is_proper.ensures.few; few_witnesses = c.is_proper.ensures.few_witnesses; some = c.requires.size; needed = c.requires.begun.1 } in
    let shown = c.leaves_are_models.ensures.models c.args.asked.now c.args.n c.args.plan.way sense in
    let cover = c.leaves_are_models.ensures.cover c.args.asked.now c.args.n c.args.plan.way sense in
    let us = c.loop-printed.invariant.so_far.0 in
    let so_far = c.loop-printed.invariant.so_far.1.0 in
    let gone = c.loop-printed.invariant.so_far.1.1 in
    let search = c.loop-printed.search in
    let gives = c.in-Exhausted.ensures.gives so_far.late in
    let t₀ = g.C.Clock.times c.args.clock.now in
    let t = g.C.Clock.times c.loop-printed.clock in
    let t' = g.C.Clock.times c.next_model.new.clock in
    let over = gone_over c.args.asked.now c.args.plan c.args.n us search c.next_model.new.self.choices t₀ t t' so_far.world gone (c.in-Exhausted.ensures.comes so_far.late) in
    let stop : search.stop ≡ time_to_stop c.args.plan.seconds t₀ = subst (λ (s : Option ℕ). search.stop ≡ time_to_stop s t₀) c.requires.seconds c.loop-printed.invariant.stop in
    let watched = watched_on c.args.watch search.stop _ t₀ t' c.requires.looked c.loop-printed.invariant.stop c.requires.watched gives.4 over.1.1 in
    at_end c.args.asked.now c.args.plan t' c.args.n c.args.k r us search c.loop-printed.printed _ _ _ c.exhausted.result shown cover c.requires.begun c.requires.room c.loop-printed-test.true so_far over.0 over.1.0.0 over.1.0.1
    (in_time c.args.watch c.args.plan.seconds t' c.requires.seconds watched.0) (read_on c.args.plan.seconds search.stop t₀ t₀ t' (r + 1) over.0 (r + suc over.0) (omega arith) stop reads over.1.1) c.exhausted.ensures.piece c.exhausted.ensures.step

pub returns-in-Exhausted-clause-watched : goal.returns-in-Exhausted-clause-watched
returns-in-Exhausted-clause-watched g c = λ j e.
    let us = c.loop-printed.invariant.so_far.0 in
    let so_far = c.loop-printed.invariant.so_far.1.0 in
    let gone = c.loop-printed.invariant.so_far.1.1 in
    let search = c.loop-printed.search in
    let gives = c.in-Exhausted.ensures.gives so_far.late in
    let t₀ = g.C.Clock.times c.args.clock.now in
    let t = g.C.Clock.times c.loop-printed.clock in
    let t' = g.C.Clock.times c.next_model.new.clock in
    let over = gone_over c.args.asked.now c.args.plan c.args.n us search c.next_model.new.self.choices t₀ t t' so_far.world gone (c.in-Exhausted.ensures.comes so_far.late) in
    (watched_on c.args.watch search.stop _ t₀ t' c.requires.looked c.loop-printed.invariant.stop c.requires.watched gives.4 over.1.1).0

pub returns-in-MaxSeconds-clause-tells : goal.returns-in-MaxSeconds-clause-tells
returns-in-MaxSeconds-clause-tells g c = λ r reads.
    let sense : MakesSense c.args.asked.now c.args.n = record { well_formed = c.is_proper.ensures.well_formed; fits = c.is_proper.ensures.fits; few = c.is_proper.ensures.few; few_witnesses = c.is_proper.ensures.few_witnesses; some = c.requires.size; needed = c.requires.begun.1 } in
    let shown = c.leaves_are_models.ensures.models c.args.asked.now c.args.n c.args.plan.way sense in
    let us = c.loop-printed.invariant.so_far.0 in
    let so_far = c.loop-printed.invariant.so_far.1.0 in
    let gone = c.loop-printed.invariant.so_far.1.1 in
    let search = c.loop-printed.search in
    let gives = c.in-MaxSeconds.ensures.gives so_far.late in
    let t₀ = g.C.Clock.times c.args.clock.now in
    let t = g.C.Clock.times c.loop-printed.clock in
    let t' = g.C.Clock.times c.next_model.new.clock in
    let choices = c.next_model.new.self.choices in
    let over = gone_late c.args.asked.now c.args.plan c.args.n us search choices c.in-MaxSeconds.last t₀ t t' so_far.world gone (c.in-MaxSeconds.ensures.comes so_far.late) in
    let stop : search.stop ≡ time_to_stop c.args.plan.seconds t₀ = subst (λ (s : Option ℕ). search.stop ≡ time_to_stop s t₀) c.requires.seconds c.loop-printed.invariant.stop in
    let late = late_on c.args.watch c.args.plan.seconds search.stop _ t₀ t' c.in-MaxSeconds.last c.requires.seconds c.requires.looked c.loop-printed.invariant.stop over.1.1 gives.3 in
    at_late c.args.asked.now c.args.plan t' c.args.n c.args.k r us search c.loop-printed.printed _ _ _ _ shown c.requires.begun c.requires.room c.loop-printed-test.true so_far over.0 over.1.0.0 over.1.0.1.0 over.1.0.1.1 late.0 (c.unwrap_or-first.ensures ∙ late.1)
    (read_on c.args.plan.seconds search.stop t₀ t₀ t' (r + 1) (suc over.0) (r + suc (suc over.0)) (omega arith) stop reads over.1.1)

pub returns-clause-tells : goal.returns-clause-tells
returns-clause-tells g c = λ r reads.
    let sense : MakesSense c.args.asked.now c.args.n = record { well_formed = c.is_proper.ensures.well_formed; fits = c.is_proper.ensures.fits; few = c.is_proper.ensures.few; few_witnesses = c.is_proper.ensures.few_witnesses; some = c.requires.size; needed = c.requires.begun.1 } in
    let shown = c.leaves_are_models.ensures.models c.args.asked.now c.args.n c.args.plan.way sense in
    let us = c.loop-printed.invariant.so_far.0 in
    let so_far = c.loop-printed.invariant.so_far.1.0 in
    let gone = c.loop-printed.invariant.so_far.1.1 in
    let search = c.loop-printed.search in
    let t₀ = g.C.Clock.times c.args.clock.now in
    let t = g.C.Clock.times c.loop-printed.clock in
    let stop : search.stop ≡ time_to_stop c.args.plan.seconds t₀ = subst (λ (s : Option ℕ). search.stop ≡ time_to_stop s t₀) c.requires.seconds c.loop-printed.invariant.stop in
    let watched = watched_on c.args.watch search.stop _ t₀ t c.requires.looked c.loop-printed.invariant.stop c.requires.watched c.loop-printed.invariant.early gone.goes in
    at_last c.args.asked.now c.args.plan t c.args.n c.args.k r us search c.loop-printed.printed _ _ shown c.requires.begun c.requires.room c.requires.fewer (omega (arith, c.loop-printed.invariant.fewer, c.loop-printed-test.false)) so_far t₀ gone
    (in_time c.args.watch c.args.plan.seconds t c.requires.seconds watched.0) (read_on c.args.plan.seconds search.stop t₀ t₀ t (r + 1) gone.chosen (r + suc gone.chosen) (omega arith) stop reads gone.goes)
