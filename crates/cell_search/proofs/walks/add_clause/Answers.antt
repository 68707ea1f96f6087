use Rattle.std.proofs.Common.{ℕ, subst}
use Rattle.fol_core.specs.Tree.{Trees}
use Rattle.fol_core.specs.declared.symbols.Kind.{Kind}
use Rattle.cell_search.proofs.Grouping.{grow_none, grow_on, groups_still, walks_still}
use Rattle.cell_search.proofs.Occurring.{clause_end, literals_still, no_literal_before, one_literal_before}
use Rattle.cell_search.specs.Ways.{EachInClause, HasWalkOf}
use Rattle.cell_search.proofs.walks.add_clause.Goals as goal

pub loop-literal-init : goal.loop-literal-init
loop-literal-init c = record {
  grow = grow_none c.args.groups.now.items;
  walks = λ are. no_literal_before (HasWalkOf c.args.setup.now c.args.groups.now.items c.args.at c.in_ok-variables.variables) c.as_slice-literal-items.result.now;
}

pub loop-literal-preserved : goal.loop-literal-preserved
loop-literal-preserved c = record {
  grow = grow_on c.args.groups.now.items c.loop-literal.groups.items c.add_atom.new.groups.items c.loop-literal.invariant.grow c.in_ok-add_atom.ensures.grow;
  walks = λ are.
      let w = c.args.setup.now in
      let us = c.loop-literal.groups.items in
      let hs = c.add_atom.new.groups.items in
      let many = c.in_ok-variables.variables in
      let still : (kind : Kind) (s : ℕ) (ts : Trees) → HasWalkOf w us c.args.at many kind s ts → HasWalkOf w hs c.args.at many kind s ts =
      walks_still w us hs c.in_ok-add_atom.ensures.grow c.args.at many in
      one_literal_before (HasWalkOf w hs c.args.at many) c.as_slice-literal-items.result.now c.loop-literal.literal-index c.literal-item.result c.loop-literal-test.true c.literal-item.is
      (literals_still (HasWalkOf w us c.args.at many) (HasWalkOf w hs c.args.at many) still c.as_slice-literal-items.result.now c.loop-literal.literal-index (c.loop-literal.invariant.walks are))
      (c.in_ok-add_atom.ensures.walks (groups_still w c.args.groups.now.items us c.loop-literal.invariant.grow are));
}

pub returns-clause-walks : goal.returns-clause-walks
returns-clause-walks c = λ are.
    let gs = c.loop-literal.groups.items in
    subst (λ (n : ℕ). EachInClause (HasWalkOf c.args.setup.now gs c.args.at n) c.args.clause.now) c.in_ok-variables.ensures
    (clause_end (HasWalkOf c.args.setup.now gs c.args.at c.in_ok-variables.variables) c.as_slice-literal-items.result.now c.loop-literal.literal-index c.args.clause.now c.loop-literal-test.false
    c.as_slice-literal-items.ensures.literals (c.loop-literal.invariant.walks are))
