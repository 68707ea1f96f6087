use Rattle.std.proofs.Common.{◌≡◌, ℕ, List, filter, subst, ap, ap₂, ◌∙◌, arith}
use Rattle.std.specs.List.{filter_map}
use Rattle.clause_index.specs.Places.{with_number}
use Rattle.clause_index.specs.Subsumers.{is_below}
use Rattle.fol_core.specs.ClauseView.{literal_of}
use Rattle.held_clauses.specs.Holding.{lent}
use Rattle.prover_steps.specs.Clashing.{Held}
use Rattle.prover_steps.specs.HeldOrder.{numbers_of, IsRising}
use Rattle.clause_index.proofs.Candidates.{none_left_out}
use Rattle.clause_index.proofs.Firsts.{begins, first_kept}
use Rattle.clause_index.proofs.Subsumers.{ok_so}
use Rattle.clause_index.proofs.held_set.HeldSet.near_below.Goals as goal

pub returns-in-len1-clause-found : goal.returns-in-len1-clause-found
returns-in-len1-clause-found c =
    let clause = c.args.clause.now in
    ok_so c.with_instance.result _ (λ hs. filter (is_below clause) (lent hs.items) ≡ filter (is_below clause) c.args.self.now)
    (λ hs found. first_kept (literal_of c.one-item.result) clause (lent hs.items) c.args.self.now
    (begins clause c.as_slice.result.now c.one-item.result (omega (arith, c.in-len1.len_at_least)) c.one-item.is c.as_slice.ensures.literals) found)
    c.with_instance.ensures.found

pub returns-in_ok-numbers-in-len1-up-clause-found : goal.returns-in_ok-numbers-in-len1-up-clause-found
returns-in_ok-numbers-in-len1-up-clause-found c =
    let test = is_below c.args.clause.now in
    let numbers = c.in_ok-numbers-in-len1-up.numbers.items in
    let list = c.args.self.now in
    ok_so c.all_with.result _ (λ hs. filter test (lent hs.items) ≡ filter test list)
    (λ hs found. ap (filter test) (
    found
    ∙ ap₂ (λ (ks : List Held) (ns : List ℕ). filter_map (λ n. with_number n ks) ns) (c.as_slice-list.ensures.clauses ∙ c.self.view_is) c.as_slice-in-len1-up.ensures.value
    )
    ∙ none_left_out test list numbers (subst (λ (hs : List Held). IsRising (numbers_of hs)) c.self.view_is c.as_slice-list.ensures.rising) c.in_ok-numbers-in-len1-up.ensures.rise c.in_ok-numbers-in-len1-up.ensures.found)
    c.all_with.ensures
