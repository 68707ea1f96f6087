use Rattle.std.proofs.Common.{◌≡◌, ℕ, List, filter, ap, ap₂, ◌∙◌}
use Rattle.std.specs.List.{filter_map}
use Rattle.clause_index.specs.Places.{with_number}
use Rattle.clause_index.specs.Subsumers.{is_long_above}
use Rattle.held_clauses.specs.Holding.{lent}
use Rattle.prover_steps.specs.Clashing.{Held}
use Rattle.clause_index.proofs.Candidates.{none_left_out}
use Rattle.clause_index.proofs.Subsumers.{above_covered, ok_so}
use Rattle.clause_index.proofs.held_set.HeldSet.long_above.Goals as goal

pub returns-clause-found : goal.returns-clause-found
returns-clause-found c =
    let test = is_long_above c.args.clause.now in
    let numbers = c.in_ok-numbers.numbers.items in
    let list = c.self.inside.listed in
    ok_so c.all_with.result _ (λ hs. filter test (lent hs.items) ≡ filter test c.args.self.now)
    (λ hs found. ap (filter test) (
    found
    ∙ ap₂ (λ (ks : List Held) (ns : List ℕ). filter_map (λ n. with_number n ks) ns) c.as_slice-list.ensures.clauses c.as_slice.ensures.value
    )
    ∙ none_left_out test list numbers c.as_slice-list.ensures.rising c.in_ok-numbers.ensures.rise
    (above_covered c.self.inside.finder c.args.clause.now numbers list c.in_ok-numbers.ensures.found c.self.invariant)
    ∙ ap (filter test) c.self.view_is)
    c.all_with.ensures
