use Rattle.std.proofs.Common.{◌++◌, ap, sym, ◌∙◌}
use Rattle.fol_core.specs.Literals.{ClauseTree}
use Rattle.resolution.specs.Opposing.{numbers_against}
use Rattle.resolution.specs.Trying.{is_satellite}
use Rattle.resolution.proofs.Going.{tried_none, tried_some}
use Rattle.resolution.proofs.opposing.add_nuclei.Goals as goal

pub returns-then-not-is_satellite : goal.returns-then-not-is_satellite
returns-then-not-is_satellite c =
    let h = c.args.satellite.now in
    tried_none (is_satellite c.args.kind h.clause) c.args.numbers.now.items (numbers_against c.args.held.now h.clause)
    (ap (is_satellite c.args.kind) (sym c.clause.ensures) ∙ sym c.is_satellite.ensures ∙ c.if-not-is_satellite.true)

pub returns : goal.returns
returns c =
    let h = c.args.satellite.now in
    let old = c.args.numbers.now.items in
    tried_some (is_satellite c.args.kind h.clause) old (numbers_against c.args.held.now h.clause) _
    (ap (is_satellite c.args.kind) (sym c.clause.ensures) ∙ sym c.is_satellite.ensures ∙ c.if-not-is_satellite.false)
    (c.in_ok-add_against.ensures ∙ ap (λ (d : ClauseTree). old ++ numbers_against c.args.held.now d) c.clause-2.ensures)
