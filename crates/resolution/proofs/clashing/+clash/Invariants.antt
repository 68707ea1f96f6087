-- Fewer places are left; what is taken stays, and what the partners so far give is made.
use Rattle.std.proofs.Common.{◌≡◌, ◌+◌, ◌*◌, ◌++◌, flat_map, take, length}
use Rattle.inference.specs.Lent.{lent_clauses}
use Rattle.resolution.specs.Trying.{partner_of, all_tried}
use Rattle.resolution.specs.View.{all_conclusions}
use Rattle.resolution.specs.declared.partners.Candidate.{Candidate}
use Rattle.resolution.proofs.Clashes.{ways_with}
use Rattle.resolution.proofs.clashing.+clash.Given as goal

abbrev pub decreases-clash_on : goal.decreases-clash_on
decreases-clash_on l = 2 * length l.places.now

abbrev pub decreases-take_on : goal.decreases-take_on
decreases-take_on l = 2 * length l.rest.now + 1

abbrev pub invariant-clash_on-loop-candidate : goal.invariant-clash_on-loop-candidate
invariant-clash_on-loop-candidate l = record {
  satellites : l.taken.satellites.items ≡ l.fn.taken.satellites.items;
  clauses : l.taken.clauses.items ≡ l.fn.taken.clauses.items;
  made : all_conclusions l.made.items
      ≡ all_conclusions l.fn.made.items
      ++ flat_map
      (λ (c : Candidate). ways_with l.nucleus.kind l.nucleus.number l.nucleus.given l.used l.fn.taken.satellites.items (lent_clauses l.fn.taken.clauses.items) l.place.place (all_tried l.rest) (partner_of c))
      (take l.candidate-index l.candidate-items);
}
