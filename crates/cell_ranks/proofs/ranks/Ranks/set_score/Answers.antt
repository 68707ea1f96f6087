use Rattle.std.proofs.Common.{◌≡◌, ◌<◌, Bool, List, true, false, get_or, set, length, sym, ap, subst, ◌∙◌, arith}
use Rattle.std.proofs.lemmas.List.{get_or_default}
use Rattle.cell_ranks.proofs.Ranking.{raised_again}
use Rattle.cell_ranks.specs.Ranks.{Ranked, ranked}
use Rattle.cell_ranks.proofs.ranks.Ranks.set_score.Goals as goal

pub returns-then-index : goal.returns-then-index
returns-then-index c =
    let a = c.self.inside in
    let within : c.args.cell < length a.indices.items = subst (λ (r : Ranked). c.args.cell < length r.indices) (sym c.self.view_is) c.requires.cell in
    let flag : get_or a.free.items c.args.cell false ≡ true = sym (get_or_default a.free.items c.args.cell c.index.result.now false (omega (arith, within, c.self.invariant.many))) ∙ sym c.index.ensures ∙ c.if-index.true in
    let here : get_or c.args.self.now.free c.args.cell false ≡ true = subst (λ (r : Ranked). get_or r.free c.args.cell false ≡ true) c.self.view_is flag in
    c.open.ensures ∙ ap (λ (r : Ranked). ranked r.indices (set r.free c.args.cell true) r.scores) c.set_score_closed.ensures
    ∙ ap (λ (r : Ranked). ranked r.indices (set r.free c.args.cell true) (set r.scores c.args.cell c.args.score)) c.close.ensures
    ∙ ap (λ (bs : List Bool). ranked c.args.self.now.indices bs (set c.args.self.now.scores c.args.cell c.args.score)) (raised_again c.args.self.now.free c.args.cell here)
