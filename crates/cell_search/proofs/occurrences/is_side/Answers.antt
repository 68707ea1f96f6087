use Rattle.std.proofs.Common.{sym, ◌∙◌}
use Rattle.fol_core.specs.ClauseView.{literal_of}
use Rattle.mace_ground.specs.Instances.{assigned_by}
use Rattle.cell_search.proofs.Counted.{any_at}
use Rattle.cell_search.specs.Counted.{side_seen}
use Rattle.cell_search.proofs.occurrences.is_side.Goals as goal

pub returns-then-is_side_of : goal.returns-then-is_side_of
returns-then-is_side_of c =
    any_at literal_of (side_seen c.args.setup.now c.args.trail.now.entries (assigned_by c.args.env.now) c.args.cell) c.args.literals.now c.loop-literal.literal-index c.literal-item.result c.loop-literal-test.true c.literal-item.is
    (sym c.is_side_of.ensures ∙ c.if-is_side_of.true)
