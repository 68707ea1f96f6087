use Rattle.std.proofs.Common.{ℕ, Vec, Global, sym, subst}
use Rattle.fol_core.specs.Tree.{Trees}
use Rattle.fol_core.specs.TermView.{tree_of}
use Rattle.fol_core.specs.declared.symbols.Kind.{Kind}
use Rattle.cell_search.proofs.Grouping.{grow_none, grow_on, groups_still, walks_still}
use Rattle.cell_search.proofs.Occurring.{AtomHas, atom_end, atom_first, atom_none, atom_still, before_still, none_before, one_before}
use Rattle.cell_search.specs.Ways.{GroupsGrow, HasWalkOf}
use Rattle.cell_search.specs.declared.walk.Group.{Group}
use Rattle.cell_search.proofs.walks.add_atom.Goals.{then-symbol+in_ok-add_occurrence, else-symbol}
use Rattle.cell_search.proofs.walks.add_atom.Goals as goal

pub loop-term-preserved : goal.loop-term-preserved
loop-term-preserved c = record {
  grow = grow_on c.args.groups.now.items c.loop-term.groups.items c.add_term.new.groups.items c.loop-term.invariant.grow c.in_ok-add_term.ensures.grow;
  walks = λ are.
      let w = c.args.setup.now in
      let us = c.loop-term.groups.items in
      let hs = c.add_term.new.groups.items in
      let still : (kind : Kind) (s : ℕ) (ts : Trees) → HasWalkOf w us c.args.clause c.args.variables kind s ts → HasWalkOf w hs c.args.clause c.args.variables kind s ts =
      walks_still w us hs c.in_ok-add_term.ensures.grow c.args.clause c.args.variables in
      let before = c.loop-term.invariant.walks are in (
        atom_still (HasWalkOf w us c.args.clause c.args.variables) (HasWalkOf w hs c.args.clause c.args.variables) still (tree_of c.args.atom.now) before.0,
        one_before (HasWalkOf w hs c.args.clause c.args.variables) c.as_slice-term-items.result.now c.loop-term.term-index c.term-item.result c.loop-term-test.true c.term-item.is
            (before_still (HasWalkOf w us c.args.clause c.args.variables) (HasWalkOf w hs c.args.clause c.args.variables) still c.as_slice-term-items.result.now c.loop-term.term-index before.1)
            (c.in_ok-add_term.ensures.walks (groups_still w c.args.groups.now.items us c.loop-term.invariant.grow are)),
      );
}

pub returns-clause-walks : goal.returns-clause-walks
returns-clause-walks c = λ are.
    let h = c.loop-term.invariant.walks are in
    atom_end (HasWalkOf c.args.setup.now c.loop-term.groups.items c.args.clause c.args.variables) c.args.atom.now c.in-App.symbol c.in-App.terms c.as_slice-term-items.result.now c.loop-term.term-index c.in-App.is
    c.as_slice-term-items.ensures.trees c.loop-term-test.false h.0 h.1

pub loop-term-init : goal.loop-term-init
loop-term-init c =
    let items = c.as_slice-term-items.result.now in
    let gs = c.args.groups.now.items in record {
      grow = elim c.if-symbol.branch [
        | then-symbol+in_ok-add_occurrence v ↦ subst (λ (o : Vec Group Global). GroupsGrow gs o.items) (sym v.groups-is) v.in_ok-add_occurrence.ensures.grow
        | else-symbol v ↦ subst (λ (o : Vec Group Global). GroupsGrow gs o.items) (sym v.groups-is) (grow_none gs)
      ];
      walks = λ are. (
        elim c.if-symbol.branch [
          | then-symbol+in_ok-add_occurrence v ↦
              subst (λ (o : Vec Group Global). AtomHas (HasWalkOf c.args.setup.now o.items c.args.clause c.args.variables) (tree_of c.args.atom.now)) (sym v.groups-is)
              (atom_first (HasWalkOf c.args.setup.now v.add_occurrence.new.groups.items c.args.clause c.args.variables) c.args.atom.now c.in-App.symbol c.in-App.terms c.in-App.is (v.in_ok-add_occurrence.ensures.walk are))
          | else-symbol v ↦
              subst (λ (o : Vec Group Global). AtomHas (HasWalkOf c.args.setup.now o.items c.args.clause c.args.variables) (tree_of c.args.atom.now)) (sym v.groups-is)
              (atom_none (HasWalkOf c.args.setup.now gs c.args.clause c.args.variables) c.args.atom.now c.in-App.symbol c.in-App.terms c.in-App.is v.if-symbol.false)
        ],
        none_before (HasWalkOf c.args.setup.now c.if-symbol.groups.items c.args.clause c.args.variables) items,
      );
    }
