use Rattle.std.proofs.Common.{◌++◌, filter, ap, sym, ◌∙◌}
use Rattle.fol_core.specs.ClauseView.{literal_of}
use Rattle.fol_core.specs.Literals.{Lit, ClauseTree}
use Rattle.prover_steps.specs.HeldOrder.{numbers_of}
use Rattle.resolution.specs.Opposing.{opposes, numbers_against}
use Rattle.resolution.proofs.Going.{flat_mapped}
use Rattle.resolution.proofs.opposing.add_against.Goals as goal

pub returns : goal.returns
returns c =
    let hs = c.args.held.now in
    c.in_ok-add_opposing_each.ensures
    ∙ ap (λ ns. c.args.numbers.now.items ++ ns)
    (sym (flat_mapped (λ (l : Lit). numbers_of (filter (opposes l) hs)) literal_of c.as_slice.result.now) ∙ ap (λ (d : ClauseTree). numbers_against hs d) c.as_slice.ensures.literals)
