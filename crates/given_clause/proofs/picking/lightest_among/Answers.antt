use Rattle.std.proofs.Common.{◌≡◌, ◌<◌, List, length, get_or, subst}
use Rattle.given_clause.specs.Guides.{setting_of}
use Rattle.given_clause.specs.Turns.{best_so_far}
use Rattle.prover_steps.specs.Clashing.{Held}
use Rattle.given_clause.proofs.Lightest.{best_more}
use Rattle.given_clause.proofs.picking.lightest_among.Goals as goal

pub loop-place-preserved : goal.loop-place-preserved
loop-place-preserved c =
    let clauses = c.as_slice-held-items.ensures.clauses in
    best_more (setting_of c.args.guide.now) c.args.among c.args.waiting.now c.loop-place.place c.held-item.result c.index.result.now (best_so_far c.loop-place.best) (best_so_far c.best_with-best.result)
    (subst (λ (hs : List Held). c.loop-place.place < length hs) clauses c.loop-place-test.true)
    (subst (λ (hs : List Held). c.held-item.result ≡ get_or hs c.loop-place.place c.held-item.result) clauses c.held-item.is)
    c.requires c.index.ensures c.loop-place.invariant c.best_with-best.ensures
