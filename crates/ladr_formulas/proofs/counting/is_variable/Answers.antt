use Rattle.std.proofs.Common.{◌∙◌, sym, ap}
use Rattle.std.specs.Prelude.{is_some}
use Rattle.ladr_formulas.specs.Formulas.{is_free_name}
use Rattle.ladr_formulas.proofs.CountingLemmas.{left_or, right_or}
use Rattle.ladr_formulas.proofs.OrderLemmas.{bound_among}
use Rattle.ladr_formulas.proofs.counting.is_variable.Goals as goal

pub returns-then-bound : goal.returns-then-bound
returns-then-bound c =
    let among = sym (bound_among c.args.scope.now c.args.name.now) ∙ ap is_some (sym c.number.ensures) ∙ sym c.is_some-bound.ensures in
    c.if-bound.true ∙ left_or _ (is_free_name c.args.style c.args.name.now) (among ∙ c.if-bound.true)

pub returns-else-bound : goal.returns-else-bound
returns-else-bound c =
    let among = sym (bound_among c.args.scope.now c.args.name.now) ∙ ap is_some (sym c.number.ensures) ∙ sym c.is_some-bound.ensures in
    c.is_free_name.ensures ∙ right_or _ (is_free_name c.args.style c.args.name.now) (among ∙ c.if-bound.false)
