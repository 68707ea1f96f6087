use Rattle.std.proofs.Common.{◌≡◌, IfOk, List, filter, subst, sym, ap, ap₂, ◌∙◌}
use Rattle.std.specs.List.{filter_map}
use Rattle.clause_index.specs.Entries.{is_short_above, short_atoms}
use Rattle.clause_index.specs.Places.{with_number}
use Rattle.discrim_tree.specs.Terms.{has_instance}
use Rattle.fol_core.specs.TermView.{tree_of}
use Rattle.held_clauses.specs.Holding.{lent}
use Rattle.prover_steps.specs.Clashing.{Held}
use Rattle.clause_index.proofs.Gathering.{short_found}
use Rattle.clause_index.proofs.listed.Listed.short_above.Goals as goal

pub returns-clause-found : goal.returns-clause-found
returns-clause-found c =
    subst (λ (ks : List Held). IfOk c.all_with.result (λ hs. lent hs.items ≡ ks))
    (ap₂ (λ (ks : List Held) ns. filter_map (λ n. with_number n ks) ns) c.as_slice-2.ensures.value c.as_slice.ensures.value
    ∙ short_found c.args.sign (λ s. has_instance s (tree_of c.args.atom.now)) c.self.inside.clauses.items c.index.result.now c.in_ok-numbers.numbers.items c.self.invariant.rising (c.index.ensures ∙ ap (short_atoms c.args.sign) (sym c.self.view_is)) c.in_ok-numbers.ensures.found
    ∙ ap (filter (is_short_above c.args.sign (tree_of c.args.atom.now))) c.self.view_is)
    c.all_with.ensures
