use Rattle.std.proofs.Common.{Err, subst}
use Rattle.std.proofs.lemmas.Result.{err_from_is_err_and}
use Rattle.fol_problem.specs.Stated.{stated_of}
use Rattle.ladr_mace4.proofs.Seeking.{last_seek, cut_seek}
use Rattle.ladr_mace4.specs.Finding.{Sought, Seeks}
use Rattle.ladr_mace4.specs.declared.plan.Plan.{Plan}
use Rattle.ladr_output.specs.Telling.{Tells}
use Rattle.ladr_mace4.proofs.search.find.Goals as goal

pub returns : goal.returns
returns g c =
    let p = stated_of c.args.problem.now in
    let t = g.C.Clock.times c.seek.new.clock in
    let told = last_seek p c.search_plan-plan.result t _ _ _ c.in_ok-over.over c.print_end.result c.in_ok-over.ensures c.print_end.ensures in
    subst (λ (s : Plan). Tells (Seeks p s t) (Sought p s t) (g.K.Sink.outflow c.args.sink.now) (g.K.Sink.outflow c.print_end.new.sink) c.print_end.result) c.search_plan-plan.ensures.plan told

pub returns-in_err-over : goal.returns-in_err-over
returns-in_err-over g c =
    let p = stated_of c.args.problem.now in
    let t = g.C.Clock.times c.seek.new.clock in
    let told = cut_seek p c.search_plan-plan.result t _ _ c.in_err-over.field-0.0 c.in_err-over.ensures in
    let q = err_from_is_err_and c.from_residual.result c.from_residual.ensures.1 in
    rw (q.1, q.2) (subst (λ (s : Plan). Tells (Seeks p s t) (Sought p s t) (g.K.Sink.outflow c.args.sink.now) (g.K.Sink.outflow c.seek.new.sink) (Err c.in_err-over.field-0.0)) c.search_plan-plan.ensures.plan told)
