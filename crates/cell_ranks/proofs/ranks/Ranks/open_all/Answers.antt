use Rattle.std.proofs.Common.{◌≡◌, ℕ, Bool, List, length, ap, ◌∙◌, arith}
use Rattle.cell_ranks.proofs.Ranking.{all_raised}
use Rattle.cell_ranks.specs.Ranks.{Ranked, ranked}
use Rattle.cell_ranks.proofs.ranks.Ranks.open_all.Goals as goal

pub returns : goal.returns
returns c =
    let a = c.self.inside in
    let old = c.args.self.now in
    let new = c.loop-cell.self in
    let inside : c.len-cell-end.result ≡ length a.indices.items = omega (arith, c.len-cell-end.ensures, a.indices.ok) in
    let view : length a.indices.items ≡ length old.indices = ap (λ (r : Ranked). length r.indices) c.self.view_is in
    ap (λ (xs : List ℕ). ranked xs new.free new.scores) c.loop-cell.invariant.indices ∙ ap (λ (xs : List ℕ). ranked old.indices new.free xs) c.loop-cell.invariant.scores
    ∙ ap (λ (bs : List Bool). ranked old.indices bs old.scores) (all_raised new.free (length old.indices) c.loop-cell.invariant.many (λ k h. c.loop-cell.invariant.free k (omega (arith, h, inside, view, c.loop-cell-test.false))))
