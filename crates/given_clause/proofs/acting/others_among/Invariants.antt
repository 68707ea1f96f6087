-- Those among the clauses so far.
use Rattle.std.proofs.Common.{◌≡◌, not, ◌&&◌, filter, take}
use Rattle.given_clause.specs.Acting.{acts_on}
use Rattle.held_clauses.specs.Holding.{lent}
use Rattle.prover_steps.specs.Clashing.{is_same_held}
use Rattle.given_clause.proofs.acting.others_among.Given as goal

abbrev pub invariant-loop-other : goal.invariant-loop-other
invariant-loop-other l = lent l.others.items ≡ filter (λ d. not (is_same_held l.held d) && acts_on l.act l.held d.clause) (lent (take l.other-index l.list))
