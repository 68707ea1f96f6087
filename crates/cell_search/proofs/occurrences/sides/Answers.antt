use Rattle.std.proofs.Common.{arith}
use Rattle.mace_ground.specs.Instances.{assigned_by}
use Rattle.cell_search.proofs.Counted.{no_numbers}
use Rattle.cell_search.proofs.occurrences.sides.Goals as goal

pub returns-in_default-as_slice-clause-numbers : goal.returns-in_default-as_slice-clause-numbers
returns-in_default-as_slice-clause-numbers c =
    rw c.in-App.is
    (no_numbers c.args.setup.now c.args.trail.now.entries (assigned_by c.args.env.now) c.in-App.symbol.0 c.in-App.terms c.if-symbol.false
    (λ two. omega (arith, two, c.in_default-as_slice.len_below, c.as_slice.ensures.len)))

pub returns-in_default-as_slice-2-clause-numbers : goal.returns-in_default-as_slice-2-clause-numbers
returns-in_default-as_slice-2-clause-numbers c =
    rw c.in-App.is
    (no_numbers c.args.setup.now c.args.trail.now.entries (assigned_by c.args.env.now) c.in-App.symbol.0 c.in-App.terms c.if-symbol.false
    (λ two. omega (arith, two, c.in_default-as_slice.len_at_least, c.as_slice.ensures.len)))
