use Rattle.std.proofs.Common.{arith}
use Rattle.mace_ground.specs.Instances.{assigned_by}
use Rattle.fol_core.specs.Tree.{trees_of}
use Rattle.cell_search.proofs.Asked.{no_equation_asked}
use Rattle.cell_search.proofs.Looking.{relation_asks}
use Rattle.cell_search.proofs.asks.asked.Goals as goal

pub returns-then-symbol-clause-asked : goal.returns-then-symbol-clause-asked
returns-then-symbol-clause-asked c =
    rw c.in-App.is
    (relation_asks c.args.setup.now c.args.trail.now.entries (assigned_by c.args.env.now) c.args.literal.now.positive c.in-App.symbol.0 (trees_of c.in-App.terms) c.in_ok-cell.cell
    c.if-symbol.true c.in_ok-cell.ensures.within c.in_ok-cell.ensures.number)

pub returns-in_default-as_slice-clause-seen : goal.returns-in_default-as_slice-clause-seen
returns-in_default-as_slice-clause-seen c =
    rw c.in-App.is
    (no_equation_asked c.args.setup.now c.args.trail.now.entries (assigned_by c.args.env.now) c.args.literal.now.positive c.in-App.symbol.0 c.in-App.terms c.if-symbol.false
    (λ two. omega (arith, two, c.in_default-as_slice.len_below, c.as_slice.ensures.len)))

pub returns-in_default-as_slice-2-clause-seen : goal.returns-in_default-as_slice-2-clause-seen
returns-in_default-as_slice-2-clause-seen c =
    rw c.in-App.is
    (no_equation_asked c.args.setup.now c.args.trail.now.entries (assigned_by c.args.env.now) c.args.literal.now.positive c.in-App.symbol.0 c.in-App.terms c.if-symbol.false
    (λ two. omega (arith, two, c.in_default-as_slice.len_at_least, c.as_slice.ensures.len)))
