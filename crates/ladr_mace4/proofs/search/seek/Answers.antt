use Rattle.std.proofs.Common.{[], refl, subst}
use Rattle.fol_problem.specs.Stated.{Stated, stated_of}
use Rattle.ladr_io.proofs.StreamLaws.{Takes-none}
use Rattle.ladr_mace4.proofs.Seeking.{sizes_seek}
use Rattle.ladr_mace4.specs.Story.{SearchGoes, SearchComes}
use Rattle.ladr_mace4.specs.declared.ends.SearchOver.{SearchOver}
use Rattle.ladr_output.specs.Telling.{Tells}
use Rattle.ladr_mace4.proofs.search.seek.Goals as goal

pub returns-in-Ok : goal.returns-in-Ok
returns-in-Ok g c =
    let t = g.C.Clock.times c.search_sizes.new.clock in
    let told = subst (λ (p : Stated). Tells {E = SearchOver} (SearchGoes p c.args.plan t) (λ e u. SearchComes p c.args.plan t e.end e.printed u) (g.K.Sink.outflow c.args.sink.now) (g.K.Sink.outflow c.search_sizes.new.sink) c.search_sizes.result) c.in-Ok.ensures.asked c.search_sizes.ensures in
    sizes_seek (stated_of c.args.problem.now) c.args.plan t _ _ c.search_sizes.result c.in-Ok.ensures.within told

pub returns-in-Err-ClauseLimit : goal.returns-in-Err-ClauseLimit
returns-in-Err-ClauseLimit g c = ([], (c.in-Err-ClauseLimit.ensures.limit _ (cc), c.requires.unread, refl), Takes-none _)
