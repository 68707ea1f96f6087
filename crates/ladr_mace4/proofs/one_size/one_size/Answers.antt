use Rattle.std.proofs.Common.{◌<◌, sym, subst, arith}
use Rattle.std.proofs.lemmas.Result.{err_from_is_err_and}
use Rattle.fol_core.specs.Occurs.{size_needed}
use Rattle.ladr_mace4.proofs.Begun.{at_skipped, at_line, at_beginning, behind_line}
use Rattle.search_clock.proofs.Clocks.{in_time, looked_on}
use Rattle.ladr_mace4.specs.Rooms.{IsBegun}
use Rattle.search_clock.specs.Watching.{IsInTime, HasRead}
use Rattle.model_tables.specs.Size.{formulas_of}
use Rattle.ladr_mace4.proofs.one_size.one_size.Goals as goal

pub returns-then-from-needed-clause-tells : goal.returns-then-from-needed-clause-tells
returns-then-from-needed-clause-tells g c = λ r reads.
    let small : c.args.n < size_needed (formulas_of c.args.asked.now) = omega (arith, c.if-from-needed.true, c.from.ensures, c.requires.needed) in
    at_skipped c.args.asked.now c.args.plan _ c.args.n c.args.k r _ _ c.skipped.result c.requires.end small c.requires.fewer (in_time c.args.watch.now c.args.plan.seconds _ c.requires.seconds c.requires.watched) reads c.skipped.ensures.piece c.skipped.ensures.step

pub returns-in-None-clause-tells : goal.returns-in-None-clause-tells
returns-in-None-clause-tells g c = λ r reads.
    behind_line c.args.asked.now c.args.plan _ c.args.n c.args.k r _ _ _ c.models.result c.in_ok-begin.ensures.line (c.models.ensures.tells r (looked_on c.args.plan.seconds _ _ r c.in_ok-begin.ensures.looks reads))

pub returns-in-Some-clause-tells : goal.returns-in-Some-clause-tells
returns-in-Some-clause-tells g c = λ r reads.
    let begun : IsBegun c.args.asked.now c.args.plan c.args.n = (c.requires.end, omega (arith, c.if-from-needed.false, c.from.ensures, c.requires.needed)) in
    let stops = rw c.in-Some.is at c.in_ok-begin.ensures.room in
    at_beginning c.args.asked.now c.args.plan _ c.args.n c.args.k r _ _ c.in-Some.end begun c.in_ok-begin.ensures.line (stops c.args.k c.requires.fewer) (looked_on c.args.plan.seconds _ _ r c.in_ok-begin.ensures.looks reads)

pub returns-in_err-begin-clause-tells : goal.returns-in_err-begin-clause-tells
returns-in_err-begin-clause-tells g c = λ r reads.
    let begun : IsBegun c.args.asked.now c.args.plan c.args.n = (c.requires.end, omega (arith, c.if-from-needed.false, c.from.ensures, c.requires.needed)) in
    let t = g.C.Clock.times c.args.clock.now in
    let t' = g.C.Clock.times c.begin.new.clock in
    let early : IsInTime c.args.plan.seconds t' = subst (λ x. IsInTime c.args.plan.seconds x) (sym c.in_err-begin.ensures.unread) (in_time c.args.watch.now c.args.plan.seconds t c.requires.seconds c.requires.watched) in
    let p = err_from_is_err_and c.from_residual.result c.from_residual.ensures.1 in
    rw (p.1, p.2) (at_line c.args.asked.now c.args.plan t' c.args.n c.args.k r _ _ c.in_err-begin.field-0.0 begun c.requires.fewer early (subst (λ x. HasRead c.args.plan.seconds r x) (sym c.in_err-begin.ensures.unread) reads) c.in_err-begin.ensures.line)
