-- What the tests of an index say.
use Rattle.std.specs.Prelude.{◌≡◌, ◌↔◌, IsTrue}
use Rattle.fol_core.specs.Substitutions.{Substitution, substitute}
use Rattle.fol_core.specs.Tree.{Tree}
use Rattle.discrim_tree.specs.Fitting.{Fits}
use Rattle.discrim_tree.specs.Linear.{passes_linear}
use Rattle.discrim_tree.specs.Places.{repeated, AreAlike, IsNarrow}
use Rattle.discrim_tree.specs.Seeking.{fits_below, fits_above}
use Rattle.discrim_tree.specs.Terms.{has_instance, can_unify}
use Rattle.discrim_tree.specs.declared.sought.Sought.{Sought}
use Rattle.discrim_tree.specs.declared.sought.Sought.TheVariants.{Generalizations}

-- a substitution makes of the first term the second
abbrev pub InstancesAreMade : Type 0
InstancesAreMade =
    (s t : Tree) → IsTrue (has_instance s t) ↔ ((u : Substitution) × (substitute u s ≡ t))

-- a substitution for each term makes them the same
abbrev pub UnifiersAreOfTwo : Type 0
UnifiersAreOfTwo =
    (s t : Tree) → IsTrue (can_unify s t)
    ↔ ((u : Substitution) × (v : Substitution) × (substitute u s ≡ substitute v t))

-- terms fit by their steps where they are sought, if each occurrence of a variable is a variable of
-- its own
abbrev pub StepsAreLinear : Type 0
StepsAreLinear =
    (k : Sought) (s t : Tree) → Fits (fits_below k) (fits_above k) s t ↔ IsTrue (passes_linear k t s)

-- a term that fits another one so is an instance of it exactly where it has the same part at both
-- places, for each place of a variable of that and its next one, if these have numbers
abbrev pub RepeatsDecide : Type 0
RepeatsDecide =
    (s t : Tree) → IsNarrow s → IsTrue (passes_linear Generalizations t s) →
    IsTrue (has_instance s t) ↔ AreAlike t (repeated s)
