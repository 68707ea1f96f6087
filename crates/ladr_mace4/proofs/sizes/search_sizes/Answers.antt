use Rattle.std.proofs.Common.{◌<◌, [], ◌∷◌, ◌++◌, Ok, Err, ap, refl, rules, ◌∙◌, arith}
use Rattle.std.proofs.lemmas.Result.{err_from_is_err_and}
use Rattle.search_clock.proofs.Clocks.{in_time, unread}
use Rattle.ladr_mace4.proofs.Ended.{none_ended, told_at, cut_in, ends_in, more_in, ends_behind}
use Rattle.ladr_mace4.specs.Story.{models_in_all}
use Rattle.ladr_mace4.proofs.sizes.search_sizes.Goals as goal

pub loop-n-init : goal.loop-n-init
loop-n-init g c = record {
  so_far = ([], none_ended c.args.asked.now c.args.plan _ (g.K.Sink.outflow c.args.sink.now) (unread c.args.plan.seconds _ c.requires.unread));
  fewer = omega (arith, c.requires.wanted);
  from = c.requires.start;
  seconds = refl;
  watched = search rules;
  writes = c.requires.sink;
}

pub loop-n-preserved : goal.loop-n-preserved
loop-n-preserved g c =
    let so_far = c.loop-n.invariant.so_far in
    let ended = so_far.1 in
    let few : models_in_all so_far.0 < c.args.plan.wanted = omega (arith, ended.count, c.loop-n.invariant.fewer) in
    let t' = g.C.Clock.times c.one_size.new.clock in
    let told = told_at c.args.asked.now c.args.plan t' c.loop-n.n c.loop-n.printed so_far.0 _ _ _ (Ok c.in_ok-step.step) ended.next ended.count (c.in_ok-step.ensures.tells _ ended.reads) in
    let more = more_in c.args.asked.now c.args.plan t' so_far.0 ended.ended few c.loop-n.n c.loop-n.printed c.in-Over.now _ _ _ c.in_ok-step.step c.in-Over.is ended.next ended.count ended.took told in
    record {
      so_far = (so_far.0 ++ more.0.0 ∷ [], more.0.1);
      fewer = more.1;
      from = omega (arith, c.loop-n.invariant.from);
      seconds = c.in_ok-step.ensures.seconds ∙ c.loop-n.invariant.seconds;
      watched = c.in_ok-step.ensures.watched c.in-Over.now (ap Ok c.in-Over.is);
      writes = more.0.1.took.same ∙ c.requires.sink;
    }

pub returns-in-Ends : goal.returns-in-Ends
returns-in-Ends g c =
    let so_far = c.loop-n.invariant.so_far in
    let ended = so_far.1 in
    let few : models_in_all so_far.0 < c.args.plan.wanted = omega (arith, ended.count, c.loop-n.invariant.fewer) in
    let t' = g.C.Clock.times c.one_size.new.clock in
    let told = told_at c.args.asked.now c.args.plan t' c.loop-n.n c.loop-n.printed so_far.0 _ _ _ (Ok c.in_ok-step.step) ended.next ended.count (c.in_ok-step.ensures.tells _ ended.reads) in
    ends_in c.args.asked.now c.args.plan t' so_far.0 ended.ended few _ _ _ c.in-Ends.end c.in-Ends.printed c.in_ok-step.step c.in-Ends.is ended.took told

pub returns-in_err-step : goal.returns-in_err-step
returns-in_err-step g c =
    let so_far = c.loop-n.invariant.so_far in
    let ended = so_far.1 in
    let few : models_in_all so_far.0 < c.args.plan.wanted = omega (arith, ended.count, c.loop-n.invariant.fewer) in
    let t' = g.C.Clock.times c.one_size.new.clock in
    let told = told_at c.args.asked.now c.args.plan t' c.loop-n.n c.loop-n.printed so_far.0 _ _ _ (Err c.in_err-step.field-0.0) ended.next ended.count (c.in_err-step.ensures.tells _ ended.reads) in
    let p = err_from_is_err_and c.from_residual.result c.from_residual.ensures.1 in
    rw (p.1, p.2) (cut_in c.args.asked.now c.args.plan t' so_far.0 ended.ended few _ _ _ c.in_err-step.field-0.0 ended.took told)

pub returns : goal.returns
returns g c =
    let so_far = c.loop-n.invariant.so_far in
    let ended = so_far.1 in
    let few : models_in_all so_far.0 < c.args.plan.wanted = omega (arith, ended.count, c.loop-n.invariant.fewer) in
    let t = g.C.Clock.times c.loop-n.clock in
    let early = in_time c.loop-n.watch c.args.plan.seconds t c.loop-n.invariant.seconds c.loop-n.invariant.watched in
    ends_behind c.args.asked.now c.args.plan t so_far.0 ended.ended few _ _ c.loop-n.n c.loop-n.printed c.all_searched.result ended.next ended.count early ended.reads (omega (arith, c.loop-n-test.false)) c.all_searched.ensures ended.took
