use Rattle.std.proofs.Common.{sym, ap, ◌∙◌}
use Rattle.std.specs.Option.{option_map}
use Rattle.resolution.specs.View.{conclusion_of}
use Rattle.given_clause.proofs.Conflicts.{conflict_here}
use Rattle.given_clause.proofs.acting.first_conflict.Goals as goal

pub returns-in-Some : goal.returns-in-Some
returns-in-Some c =
    sym (c.loop-unit.invariant
    ∙ conflict_here c.args.units.now c.loop-unit.unit-index c.unit-item.result c.args.held.now (conclusion_of c.in-Some.conclusion) c.loop-unit-test.true c.unit-item.is
    (sym c.in_ok-conclusion.ensures ∙ ap (option_map conclusion_of) c.in-Some.is))
