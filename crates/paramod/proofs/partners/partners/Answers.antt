use Rattle.std.proofs.Common.{◌∙◌, ◌++◌, List, ℕ, flat_map, ap, sym, subst}
use Rattle.fol_core.specs.ClauseView.{literal_of}
use Rattle.clause_index.specs.Numbered.{AddsAll}
use Rattle.held_clauses.specs.Order.{greater_of}
use Rattle.paramod.specs.Partners.{by_sides, by_terms}
use Rattle.paramod.proofs.Gathered.{all_there, both_asked}
use Rattle.resolution.proofs.Going.{flat_mapped}
use Rattle.paramod.proofs.partners.partners.Goals as goal

pub returns : goal.returns
returns c =
    let greater = greater_of c.args.precedence.now in
    let hs = c.args.held.now in
    let ls = c.as_slice-literals.result.now in
    let clause = c.args.given.now.clause in
    let one = sym (flat_mapped (by_sides greater hs) literal_of ls) ∙ ap (flat_map (by_sides greater hs)) (c.as_slice-literals.ensures.literals ∙ c.clause.ensures) in
    let two = sym (flat_mapped (by_terms greater hs) literal_of ls) ∙ ap (flat_map (by_terms greater hs)) (c.as_slice-literals.ensures.literals ∙ c.clause.ensures) in
    let begun = c.new-numbers.result.items in
    let mid = c.add_by_sides_each.new.numbers.items in
    let last = c.add_by_terms_each.new.numbers.items in
    let first : AddsAll begun (flat_map (by_sides greater hs) clause) mid = subst (λ (ns : List ℕ). AddsAll begun ns mid) one c.in_ok-add_by_sides_each.ensures in
    let second : AddsAll mid (flat_map (by_terms greater hs) clause) last = subst (λ (ns : List ℕ). AddsAll mid ns last) two c.in_ok-add_by_terms_each.ensures in
    let both = both_asked begun mid last (flat_map (by_sides greater hs) clause) (flat_map (by_terms greater hs) clause) first second in
    record {
      numbers = last;
      are = c.in_ok-found.ensures;
      all = all_there (flat_map (by_sides greater hs) clause ++ flat_map (by_terms greater hs) clause) last
          (subst (λ (ns : List ℕ). AddsAll ns (flat_map (by_sides greater hs) clause ++ flat_map (by_terms greater hs) clause) last) c.new-numbers.ensures.items both);
    }
