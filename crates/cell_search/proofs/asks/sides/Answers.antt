use Rattle.std.proofs.Common.{◌∙◌}
use Rattle.mace_ground.specs.Instances.{assigned_by}
use Rattle.fol_core.specs.Tree.{trees_of}
use Rattle.fol_core.specs.TermView.{tree_of}
use Rattle.cell_search.proofs.Asked.{both_there, no_cell}
use Rattle.cell_search.proofs.Looking.{sides_are}
use Rattle.cell_search.proofs.asks.sides.Goals as goal

pub returns-clause-sides : goal.returns-clause-sides
returns-clause-sides c =
    rw c.in-App.is
    (sides_are c.args.setup.now c.args.trail.now.entries (assigned_by c.args.env.now) c.in-App.symbol.0 (trees_of c.in-App.terms) (tree_of c.args.other.now) c.in_ok-cell.cell c.in_ok-value.value
    c.in_ok-cell.ensures.within c.in_ok-cell.ensures.number c.in_ok-value.ensures)

pub returns-in_err-cell-clause-seen : goal.returns-in_err-cell-clause-seen
returns-in_err-cell-clause-seen c =
    rw c.in-App.is
    (c.from_residual-in_err-cell.ensures ∙ no_cell c.args.setup.now c.args.trail.now.entries (assigned_by c.args.env.now) c.in-App.symbol.0 (trees_of c.in-App.terms) (tree_of c.args.other.now) c.in_err-cell.ensures.number)

pub returns-clause-seen : goal.returns-clause-seen
returns-clause-seen c =
    rw c.in-App.is
    (both_there c.args.setup.now c.args.trail.now.entries (assigned_by c.args.env.now) c.in-App.symbol.0 (trees_of c.in-App.terms) (tree_of c.args.other.now) c.in_ok-cell.cell c.in_ok-value.value
    c.in_ok-cell.ensures.number c.in_ok-value.ensures)
