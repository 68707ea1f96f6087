use Rattle.std.proofs.Common.{sym, arith}
use Rattle.mace_ground.specs.Instances.{assigned_by}
use Rattle.cell_search.proofs.Looking.{no_equation}
use Rattle.cell_search.proofs.literals.equation_truth.Goals as goal

pub returns-in_default : goal.returns-in_default
returns-in_default c = sym (no_equation c.args.setup.now c.args.trail.now.entries (assigned_by c.args.env.now) c.args.terms.now (λ two. omega (arith, two, c.in_default, c.as_slice.ensures.len)))

pub returns-in_default-2 : goal.returns-in_default-2
returns-in_default-2 c = sym (no_equation c.args.setup.now c.args.trail.now.entries (assigned_by c.args.env.now) c.args.terms.now (λ two. omega (arith, two, c.in_default, c.as_slice.ensures.len)))
