-- What an instance of a clause comes to.
use Rattle.std.specs.Prelude.{◌≡◌, List, map}
use Rattle.clause_limits.specs.Sizes.{measured}
use Rattle.clause_limits.specs.declared.measured.Measure.{Measure}
use Rattle.fol_core.specs.Literals.{ClauseTree}
use Rattle.fol_core.specs.Renumbered.{renumbered}
use Rattle.inference.specs.declared.instance.Instantiated.{Instantiated}
use Rattle.inference.specs.declared.instance.Instantiated.TheVariants.{Small, Large}
use Rattle.substitutions.specs.Bindings.{Binding}

-- the clause; where that is built the two types say
abbrev pub IsMade : ClauseTree → Instantiated → Type 0
IsMade c (Small d) = d ≡ c
IsMade c (Large d) = c ≡ renumbered d

-- how large the terms of bindings are
abbrev pub all_measured : List Binding → List Measure
all_measured bs = map (λ b. measured b.1) bs
