-- What is found stands for the literals of the clauses so far.
use Rattle.std.proofs.Common.{map, take}
use Rattle.held_clauses.specs.Holding.{lent}
use Rattle.resolution.specs.Trying.{partner_of, partners_by}
use Rattle.resolution.specs.Ways.{StandFor}
use Rattle.resolution.proofs.partners.candidates_among.Given as goal

abbrev pub invariant-loop-h : goal.invariant-loop-h
invariant-loop-h l = StandFor l.nucleus l.place (map partner_of l.candidates.items) (partners_by l.kind (lent (take l.h-index l.held)))
