use Rattle.std.proofs.Common.{sym, ◌∙◌}
use Rattle.held_clauses.specs.Order.{greater_of}
use Rattle.paramod.proofs.Taken.{same_clause, other_clause}
use Rattle.prover_steps.specs.Clashing.{is_same_held}
use Rattle.prover_steps.specs.Equalities.{paramodulants_into}
use Rattle.resolution.specs.View.{all_conclusions}
use Rattle.paramod.proofs.pairs.add_back.Goals as goal

pub returns-then-is_same : goal.returns-then-is_same
returns-then-is_same c =
    same_clause (is_same_held c.args.given.now c.args.other.now) (all_conclusions c.args.made.now.items) (paramodulants_into (greater_of c.args.precedence.now) c.args.other.now c.args.given.now)
    (sym c.is_same.ensures ∙ c.if-is_same.true)

pub returns : goal.returns
returns c =
    other_clause (is_same_held c.args.given.now c.args.other.now) (all_conclusions c.args.made.now.items) (paramodulants_into (greater_of c.args.precedence.now) c.args.other.now c.args.given.now) _
    (sym c.is_same.ensures ∙ c.if-is_same.false) c.in_ok-add_between.ensures
