use Rattle.std.proofs.Common.{ℕ, ◌<◌, subst}
use Rattle.cell_ranks.specs.Ranks.{Ranked, rank_index}
use Rattle.cell_ranks.proofs.ranks.Ranks.indices_are_bytes.Goals as goal

pub returns : goal.returns
returns c = subst (λ (r : Ranked). (k : ℕ) → rank_index r k < 256) c.self.view_is c.self.invariant.bytes
