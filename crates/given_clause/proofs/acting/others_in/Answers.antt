use Rattle.std.proofs.Common.{◌≡◌, ◌&&◌, IfOk, List, not, filter, subst, ap, ◌∙◌}
use Rattle.given_clause.specs.Acting.{acts_on}
use Rattle.held_clauses.specs.Holding.{lent}
use Rattle.prover_steps.specs.Clashing.{Held, is_same_held}
use Rattle.given_clause.proofs.Narrowed.{others_there}
use Rattle.given_clause.proofs.acting.others_in.Goals as goal

pub returns : goal.returns
returns c =
    let test = λ (d : Held). not (is_same_held c.args.held.now d) && acts_on c.args.act c.args.held.now d.clause in
    subst (λ (ks : List Held). IfOk c.others_among.result (λ hs. lent hs.items ≡ ks))
    (ap (λ ls. filter test (lent ls)) c.as_slice.ensures.value ∙ others_there c.args.act c.args.held.now (lent c.in_ok-near.near.items) c.args.set.now c.in_ok-near.ensures)
    c.others_among.ensures
