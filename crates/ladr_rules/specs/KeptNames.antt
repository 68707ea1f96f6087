-- The names that a program keeps.
use Rattle.std.specs.Prelude.{ℕ, List, map}
use Rattle.std.specs.Global.{Vec}

abbrev pub names_of : List (Vec ℕ) → List (List ℕ)
names_of names = map (λ v. v.items) names
