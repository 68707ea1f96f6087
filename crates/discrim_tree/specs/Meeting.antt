-- Terms that can't be made the same.
use Rattle.std.specs.Prelude.{◌≡◌}
use Rattle.fol_core.specs.Substitutions.{Substitution, substitute}
use Rattle.fol_core.specs.Tree.{Tree}

-- nothing that is put in for their variables, for those of each by itself, makes the terms the same
abbrev pub NeverMeet : Tree → Tree → Type 0
NeverMeet s t = (u v : Substitution) → ¬ (substitute u s ≡ substitute v t)
