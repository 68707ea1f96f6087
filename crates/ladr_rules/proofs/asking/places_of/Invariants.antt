-- The terms left decide.
use Rattle.std.proofs.Common.{◌≡◌, []}
use Rattle.ladr_rules.specs.Asked.{places_behind}
use Rattle.ladr_rules.proofs.Parts.{raws_from}
use Rattle.ladr_rules.proofs.asking.places_of.Given as goal

abbrev pub invariant-loop-term : goal.invariant-loop-term
invariant-loop-term l = places_behind l.front [] (raws_from l.terms 0) ≡ places_behind l.front l.places.items (raws_from l.terms l.term-index)
