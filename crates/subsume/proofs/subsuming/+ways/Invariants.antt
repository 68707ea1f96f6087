-- Each call has fewer literals left; the ways by the places from here on decide, and the places and terms are those of the start.
use Rattle.std.proofs.Common.{◌≡◌, ◌+◌, ◌*◌, ◌-◌, length, vec_len, vec_capacity}
use Rattle.subsume.specs.Places.{literals_of}
use Rattle.subsume.proofs.Ways.{serves_from}
use Rattle.subsume.proofs.subsuming.+ways.Given as goal

abbrev pub decreases-goes_on : goal.decreases-goes_on
decreases-goes_on l = 3 * (length l.literals.now - vec_len l.places.now) + 1

abbrev pub decreases-serves : goal.decreases-serves
decreases-serves l = 3 * (length l.literals.now - vec_len l.places.now) + 2

abbrev pub decreases-completes : goal.decreases-completes
decreases-completes l = 3 * (length l.literals.now - vec_len l.places.now) + 3

abbrev pub invariant-completes-loop-place : goal.invariant-completes-loop-place
invariant-completes-loop-place l = record {
  places : l.places.items ≡ l.fn.places.items;
  bindings : l.found.bindings ≡ l.fn.found.bindings;
  len : vec_len l.places ≡ vec_len l.fn.places;
  capacity : vec_capacity l.places ≡ vec_capacity l.fn.places;
  room : l.found.room ≡ l.fn.found.room;
  decides : serves_from (literals_of l.literals) (literals_of l.others) l.fn.found.bindings l.fn.places.items 0 ≡ serves_from (literals_of l.literals) (literals_of l.others) l.fn.found.bindings l.fn.places.items l.place;
}
