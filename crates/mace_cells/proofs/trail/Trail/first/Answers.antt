use Rattle.std.proofs.Common.{refl, subst}
use Rattle.std.specs.Prelude.{MatchOption}
use Rattle.mace_cells.proofs.Counting.{ranked_by}
use Rattle.mace_cells.proofs.Making.{value_read}
use Rattle.mace_cells.specs.Trails.{Partial, IsRankedBy}
use Rattle.mace_cells.proofs.trail.Trail.first.Goals as goal

pub returns : goal.returns
returns c =
    let a = c.self.inside in (
      a.ranks,
      (
        subst (λ (t : Partial). IsRankedBy t a.ranks) c.self.view_is
            (ranked_by _ a.stride a.counts a.ranks a.entries.list a.crossings.list a.values.items c.indices_are_bytes.ensures refl (λ k. value_read _ a.entries.list a.values.items k c.self.invariant.values) c.self.invariant.free c.self.invariant.scored),
        c.first.ensures,
      ),
    )
