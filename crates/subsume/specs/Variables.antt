-- How often variables stand in a clause.
use Rattle.std.specs.Prelude.{ℕ, ◌+◌, [], ◌∷◌}
use Rattle.fol_core.specs.Literals.{ClauseTree}
use Rattle.term_matches.specs.Occurrences.{occurrences}

abbrev pub standing : ClauseTree → ℕ
standing [] = 0
standing (l ∷ c) = occurrences l.atom + standing c
