use Rattle.std.proofs.Common.{◌∙◌, List, ℕ, subst}
use Rattle.ladr_made.proofs.Summing.{summary_so}
use Rattle.ladr_made.proofs.making.made_summary.Goals as goal
use Rattle.ladr_made.specs.Modelling.{IsModelled}
use Rattle.ladr_made.specs.Proving.{IsProved}

pub returns : goal.returns
returns c =
    let p = c.in_ok-proved.proved in
    let m = c.in_ok-modelled.modelled in
    summary_so c.args.n p m (subst (λ (b : List ℕ). IsProved b p) c.in_ok-problem.ensures c.in_ok-proved.ensures) (subst (λ (b : List ℕ). IsModelled b m) (c.deref.ensures.value ∙ c.in_ok-assumptions.ensures) c.in_ok-modelled.ensures)
    c.summary_text.result c.summary_text.ensures
