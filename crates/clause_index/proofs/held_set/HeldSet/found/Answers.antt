use Rattle.std.proofs.Common.{◌≡◌, ℕ, IfOk, List, filter, subst, sym, ap, ap₂, ◌∙◌}
use Rattle.std.specs.Borrow.{Bor}
use Rattle.std.specs.List.{filter_map}
use Rattle.clause_index.specs.Filing.{HasAllSuch}
use Rattle.clause_index.specs.Finding.{has_part_such}
use Rattle.clause_index.specs.Places.{with_number}
use Rattle.discrim_tree.specs.Seeking.{passes}
use Rattle.fol_core.specs.TermView.{tree_of}
use Rattle.held_clauses.specs.Holding.{lent}
use Rattle.prover_steps.specs.Clashing.{Held}
use Rattle.clause_index.proofs.Candidates.{none_left_out}
use Rattle.clause_index.proofs.held_set.HeldSet.found.Goals as goal

pub returns-clause-found : goal.returns-clause-found
returns-clause-found c =
    let passing = passes c.args.sought.now (tree_of c.args.t.now) in
    let test = has_part_such c.args.part.now passing in
    let numbers = c.in_ok-numbers.numbers.items in
    let list = c.self.inside.listed in
    subst (λ (ks : List Held). IfOk c.all_found.result (λ hs. lent hs.items ≡ ks))
    (ap (λ (bs : List (Bor Held)). filter test (lent bs)) c.as_slice-2.ensures.value
    ∙ ap (filter test) c.in_ok-held.ensures
    ∙ ap₂ (λ (ks : List Held) (ns : List ℕ). filter test (filter_map (λ n. with_number n ks) ns)) c.as_slice-list.ensures.clauses c.as_slice.ensures.value
    ∙ none_left_out test list numbers c.as_slice-list.ensures.rising c.in_ok-numbers.ensures.rise
    (subst (λ (hs : List Held). HasAllSuch c.args.part.now passing hs numbers) (sym c.self.view_is) c.in_ok-numbers.ensures.found)
    ∙ ap (filter test) c.self.view_is)
    c.all_found.ensures
