use Rattle.std.proofs.Common.{◌≡◌, IfOk, filter, subst, sym}
use Rattle.std.proofs.lemmas.Result.{IfOk-weaker}
use Rattle.given_clause.specs.Acting.{acts_on}
use Rattle.given_clause.specs.declared.acting.Act.{Act}
use Rattle.held_clauses.specs.Holding.{lent}
use Rattle.given_clause.proofs.Narrowed.{put_back_kept}
use Rattle.given_clause.proofs.acting.near.Goals as goal

pub returns-in-Subsumes : goal.returns-in-Subsumes
returns-in-Subsumes c =
    subst
    (λ (act : Act). IfOk c.near_below.result (λ hs. filter (λ d. acts_on act c.args.held.now d.clause) (lent hs.items) ≡ filter (λ d. acts_on act c.args.held.now d.clause) c.args.set.now))
    (sym c.in-Subsumes.is) (rw c.clause.ensures at c.near_below.ensures.found)

pub returns-in-PutsBack : goal.returns-in-PutsBack
returns-in-PutsBack c =
    subst
    (λ (act : Act). IfOk c.near_put_back.result (λ hs. filter (λ d. acts_on act c.args.held.now d.clause) (lent hs.items) ≡ filter (λ d. acts_on act c.args.held.now d.clause) c.args.set.now))
    (sym c.in-PutsBack.is) (IfOk-weaker c.near_put_back.result _ _ (λ hs e. put_back_kept c.in-PutsBack.back c.args.held.now (lent hs.items) c.args.set.now e) c.near_put_back.ensures)
