-- What comes of matching terms as far as there is room.
use Rattle.std.specs.Prelude.{true, false, List, Option}
use Rattle.substitutions.specs.Bindings.{Binding}
use Rattle.term_matches.specs.Matched.{MatchesOnto}
use Rattle.term_matches.specs.declared.matches.Tried.{Tried}
use Rattle.term_matches.specs.declared.matches.Tried.TheVariants.{Found, Missed, Full}

abbrev pub IsTried : Tried → Option (List Binding) → List Binding → List Binding → Type 0
IsTried Found o old new = MatchesOnto true o old new
IsTried Missed o old new = MatchesOnto false o old new
IsTried Full o old new = Unit {0}
