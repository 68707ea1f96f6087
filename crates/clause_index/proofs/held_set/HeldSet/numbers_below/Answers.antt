use Rattle.std.proofs.Common.{List, subst}
use Rattle.clause_index.specs.Filing.{LeavesOutNoSubsumed}
use Rattle.clause_index.specs.Subsumers.{HasAllBelow}
use Rattle.clause_index.proofs.Firsts.{first_covered}
use Rattle.clause_index.proofs.Subsumers.{below_covered, some_is}
use Rattle.fol_core.specs.ClauseView.{literal_of}
use Rattle.prover_steps.specs.Clashing.{Held}
use Rattle.clause_index.proofs.held_set.HeldSet.numbers_below.Goals as goal

pub returns-in-Some-clause-found : goal.returns-in-Some-clause-found
returns-in-Some-clause-found c =
    let clause = c.args.clause.now in
    let numbers = c.in-Some.numbers.items in
    let finder = c.self.inside.finder in
    subst (λ (hs : List Held). HasAllBelow clause hs numbers) c.self.view_is
    (below_covered finder clause numbers c.self.inside.listed
    (some_is c.in_ok-numbers.field-0 c.in-Some.numbers (λ ns. LeavesOutNoSubsumed finder clause ns.items) c.in-Some.is c.in_ok-numbers.ensures.found) c.requires.long c.self.invariant)

pub returns-clause-found : goal.returns-clause-found
returns-clause-found c =
    let numbers = c.in_ok-numbers-2.numbers.items in
    first_covered (literal_of c.args.first.now) c.args.clause.now numbers c.args.self.now c.requires.first c.in_ok-numbers-2.ensures.found
