use Rattle.std.proofs.Common.{◌≡◌, ℕ, get_or, inl, inr, sym, ap, ◌∙◌, subst, arith}
use Rattle.std.proofs.lemmas.Bool.{cases_lt}
use Rattle.fol_core.specs.Literals.{ClauseTree}
use Rattle.mace_ground.specs.Instances.{variables_in}
use Rattle.cell_search.proofs.Grouping.{each_clause, groups_still, walks_still}
use Rattle.cell_search.proofs.Obeying.{clause_of_row}
use Rattle.cell_search.specs.Ways.{EachInClause, HasWalkOf}
use Rattle.cell_search.proofs.walks.groups.Goals as goal

pub loop-at-init : goal.loop-at-init
loop-at-init c = record {
  groups = c.in_ok-groups.ensures;
  walks = λ same i d less at. absurd (omega (arith, less));
}

pub loop-at-preserved : goal.loop-at-preserved
loop-at-preserved c = record {
  groups = groups_still c.args.setup.now c.loop-at.groups.items c.add_clause.new.groups.items c.in_ok-add_clause.ensures.grow c.loop-at.invariant.groups;
  walks = λ same i d less at.
      let w = c.args.setup.now in
      let us = c.loop-at.groups.items in
      let hs = c.add_clause.new.groups.items in
      elim (cases_lt i c.loop-at.at) [
        | inl earlier ↦
            each_clause (HasWalkOf w us i (variables_in d)) (HasWalkOf w hs i (variables_in d)) (walks_still w us hs c.in_ok-add_clause.ensures.grow i (variables_in d)) d (c.loop-at.invariant.walks same i d earlier at)
        | inr now ↦
            let last : c.loop-at.at ≡ i = omega (arith, less, now) in
            let row : c.index-clauses-at.result.1 ≡ d =
            clause_of_row c.args.clauses.now w.clauses c.loop-at.at c.index-clauses-at.result d same c.loop-at-test.true c.index-clauses-at.is (at.1 ∙ ap (λ (n : ℕ). get_or w.clauses n d) (sym last)) in
            subst (λ (n : ℕ). EachInClause (HasWalkOf w hs n (variables_in d)) d) last
            (subst (λ (e : ClauseTree). EachInClause (HasWalkOf w hs c.loop-at.at (variables_in e)) e) row (c.in_ok-add_clause.ensures.walks c.loop-at.invariant.groups))
      ];
}
