use Rattle.std.proofs.Common.{ℕ, ◌+◌, List, [], ◌∷◌, length, map, refl, sym, ap, ◌∙◌, subst}
use Rattle.std.proofs.lemmas.List.{length-append}
use Rattle.fol_core.specs.Literals.{ClauseTree}
use Rattle.cell_search.proofs.Obeying.{clause_of_row}
use Rattle.cell_search.proofs.Ways.{through_more}
use Rattle.cell_search.specs.Covering.{IsWholeWay, AreWaysThrough}
use Rattle.cell_search.specs.declared.walk.Walk.{Walk}
use Rattle.cell_search.proofs.walks.walks.Goals as goal

pub loop-clause-preserved : goal.loop-clause-preserved
loop-clause-preserved c = record {
  many = let longer = length-append c.loop-clause.walks.items (c.in_ok-whole_walk.field-0 ∷ []) in ap (λ (xs : List Walk). length xs) c.in_ok-push.ensures.items ∙ longer ∙ ap (λ (n : ℕ). n + 1) c.loop-clause.invariant.many;
  through =
      subst (λ (xs : List Walk). AreWaysThrough (map (λ row. row.1) c.args.clauses.now) xs) (sym c.in_ok-push.ensures.items)
      (through_more (map (λ row. row.1) c.args.clauses.now) c.loop-clause.walks.items c.loop-clause.clause c.in_ok-whole_walk.field-0 c.loop-clause.invariant.many c.loop-clause.invariant.through
      (λ d is. subst (λ (e : ClauseTree). IsWholeWay e c.loop-clause.clause c.in_ok-whole_walk.field-0)
      (clause_of_row c.args.clauses.now (map (λ row. row.1) c.args.clauses.now) c.loop-clause.clause c.index-clauses-clause.result d refl c.loop-clause-test.true c.index-clauses-clause.is is)
      c.in_ok-whole_walk.ensures));
}
