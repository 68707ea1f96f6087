-- How often variables stand in terms.
use Rattle.std.specs.Prelude.{ℕ, ◌+◌}
use Rattle.fol_core.specs.Tree.{Tree, var, elem, app, Trees, none, more}

abbrev mutual
  -- each variable as often as it stands in the term
  pub occurrences : Tree → ℕ
  occurrences (var x) = 1
  occurrences (elem k) = 0
  occurrences (app f ts) = occurrences_of ts

  pub occurrences_of : Trees → ℕ
  occurrences_of none = 0
  occurrences_of (more t ts) = occurrences t + occurrences_of ts

abbrev mutual
  -- how many of them stand where a second term has a term too
  pub met : Tree → Tree → ℕ
  met (var x) t = 1
  met (app f ss) (app g ts) = met_all ss ts
  met s t = 0

  pub met_all : Trees → Trees → ℕ
  met_all (more s ss) (more t ts) = met s t + met_all ss ts
  met_all ss ts = 0
