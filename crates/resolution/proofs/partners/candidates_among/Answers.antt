use Rattle.std.proofs.Common.{arith, map, subst}
use Rattle.std.proofs.lemmas.List.{take_all}
use Rattle.held_clauses.specs.Holding.{lent}
use Rattle.resolution.specs.Trying.{partner_of, partners_by}
use Rattle.resolution.specs.Ways.{StandFor}
use Rattle.resolution.proofs.Standing.{stand_lent}
use Rattle.resolution.proofs.partners.candidates_among.Goals as goal

pub loop-h-preserved : goal.loop-h-preserved
loop-h-preserved c =
    stand_lent c.args.nucleus.now c.args.place c.args.kind c.args.held.now c.loop-h.h-index c.h-item.result (map partner_of c.loop-h.candidates.items) _ (omega arith) c.h-item.is
    c.loop-h.invariant c.in_ok-add_held.ensures

pub returns : goal.returns
returns c =
    subst (λ ks. StandFor c.args.nucleus.now c.args.place (map partner_of c.loop-h.candidates.items) (partners_by c.args.kind (lent ks))) (take_all c.loop-h.h-index c.args.held.now (omega arith))
    c.loop-h.invariant
