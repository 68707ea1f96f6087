use Rattle.std.proofs.Common.{map, ap, ◌∙◌, arith}
use Rattle.held_clauses.specs.Holding.{lent}
use Rattle.resolution.specs.Trying.{partner_of}
use Rattle.resolution.proofs.Idle.{stand_found, stand_past}
use Rattle.resolution.proofs.partners.candidates_at.Goals as goal

pub returns-then-place-literals : goal.returns-then-place-literals
returns-then-place-literals c =
    stand_past c.args.kind c.as_slice-literals.result.now c.args.nucleus.now c.args.place c.args.held.now _ c.as_slice-literals.ensures.literals (omega arith) (ap (map partner_of) c.new.ensures.items)

pub returns : goal.returns
returns c =
    stand_found c.args.kind c.as_slice-literals.result.now c.args.nucleus.now c.args.place c.index-literals-place.result c.args.held.now (lent c.as_slice.result.now) (map partner_of c.in_ok-candidates.candidates.items)
    c.as_slice-literals.ensures.literals (omega arith) c.index-literals-place.is (ap lent c.as_slice.ensures.value ∙ c.in_ok-found.ensures.found) c.in_ok-candidates.ensures
