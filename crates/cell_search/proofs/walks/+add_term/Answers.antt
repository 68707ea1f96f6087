use Rattle.std.proofs.Common.{◌≡◌, ℕ, ◌+◌, List, sym, ap, subst, arith}
use Rattle.fol_core.specs.Tree.{Tree, Trees, trees_of, nodes, nodes_of}
use Rattle.fol_core.specs.TermView.{tree_of}
use Rattle.fol_core.specs.declared.symbols.Kind.{Kind}
use Rattle.fol_core.specs.declared.term.Term.{Term}
use Rattle.model_tables.proofs.Places.{argument_smaller}
use Rattle.cell_search.proofs.Grouping.{grow_on, groups_still, walks_still}
use Rattle.cell_search.proofs.Occurring.{HeadHas, before_still, head_still, none_before, one_before, term_end}
use Rattle.cell_search.specs.Ways.{HasWalkOf}
use Rattle.cell_search.proofs.walks.+add_term.Goals as goal

pub add_term-requires : goal.add_term-requires
add_term-requires t c =
    let whole : nodes (tree_of c.args.term.now) ≡ nodes_of (trees_of c.in-App.terms) + 2 = ap (λ (x : Term). nodes (tree_of x)) c.in-App.is in
    let same = ap (λ (ts : List Tree). nodes_of (trees_of ts)) c.as_slice-term-items.ensures.trees in
    let part = argument_smaller c.as_slice-term-items.result.now c.loop-term.term-index c.term-item.result c.loop-term-test.true c.term-item.is in
    omega (arith, c.decreases, whole, same, part)

pub loop-term-init : goal.loop-term-init
loop-term-init t c = record {
  grow = c.in_ok-add_occurrence.ensures.grow;
  walks = λ are. (
    subst (λ (u : Term). HeadHas (HasWalkOf c.args.setup.now c.add_occurrence.new.groups.items c.args.clause c.args.variables) (tree_of u)) (sym c.in-App.is) (c.in_ok-add_occurrence.ensures.walk are),
    none_before (HasWalkOf c.args.setup.now c.add_occurrence.new.groups.items c.args.clause c.args.variables) c.as_slice-term-items.result.now,
  );
}

pub loop-term-preserved : goal.loop-term-preserved
loop-term-preserved t c = record {
  grow = grow_on c.args.groups.now.items c.loop-term.groups.items c.add_term.new.groups.items c.loop-term.invariant.grow c.in_ok-add_term.ensures.grow;
  walks = λ are.
      let w = c.args.setup.now in
      let us = c.loop-term.groups.items in
      let hs = c.add_term.new.groups.items in
      let still : (kind : Kind) (s : ℕ) (ts : Trees) → HasWalkOf w us c.args.clause c.args.variables kind s ts → HasWalkOf w hs c.args.clause c.args.variables kind s ts =
      walks_still w us hs c.in_ok-add_term.ensures.grow c.args.clause c.args.variables in
      let before = c.loop-term.invariant.walks are in (
        head_still (HasWalkOf w us c.args.clause c.args.variables) (HasWalkOf w hs c.args.clause c.args.variables) still (tree_of c.args.term.now) before.0,
        one_before (HasWalkOf w hs c.args.clause c.args.variables) c.as_slice-term-items.result.now c.loop-term.term-index c.term-item.result c.loop-term-test.true c.term-item.is
            (before_still (HasWalkOf w us c.args.clause c.args.variables) (HasWalkOf w hs c.args.clause c.args.variables) still c.as_slice-term-items.result.now c.loop-term.term-index before.1)
            (c.in_ok-add_term.ensures.walks (groups_still w c.args.groups.now.items us c.loop-term.invariant.grow are)),
      );
}

pub returns-clause-walks : goal.returns-clause-walks
returns-clause-walks t c = λ are.
    let h = c.loop-term.invariant.walks are in
    term_end (HasWalkOf c.args.setup.now c.loop-term.groups.items c.args.clause c.args.variables) c.args.term.now c.in-App.symbol c.in-App.terms c.as_slice-term-items.result.now c.loop-term.term-index c.in-App.is
    c.as_slice-term-items.ensures.trees c.loop-term-test.false h.0 h.1
