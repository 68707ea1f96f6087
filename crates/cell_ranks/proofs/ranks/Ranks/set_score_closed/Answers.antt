use Rattle.std.proofs.Common.{sym, subst}
use Rattle.cell_ranks.proofs.Ranking.{score_changes}
use Rattle.cell_ranks.specs.Ranks.{Ranked, IsFree}
use Rattle.cell_ranks.proofs.ranks.Ranks.set_score_closed.Goals as goal

pub invariant_of-self : goal.invariant_of-self
invariant_of-self c =
    let a = c.self.inside in
    let h = c.self.invariant in
    let closed = subst (λ (r : Ranked). IsFree r c.args.cell → ⊥) (sym c.self.view_is) c.requires.closed in
    record {
      layout = h.layout;
      few = h.few;
      bytes = h.bytes;
      many = h.many;
      nodes = h.nodes;
      won = score_changes a.indices.items a.free.items a.scores.items a.nodes.items c.args.cell c.args.score h.nodes h.leaves closed h.won;
      leaves = h.leaves;
    }
