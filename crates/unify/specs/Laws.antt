-- What holds of bindings.
use Rattle.std.specs.Prelude.{ℕ, List, [], take}
use Rattle.fol_core.specs.Substitutions.{Substitution}
use Rattle.fol_core.specs.Tree.{Tree, Trees, none, more}
use Rattle.term_bank.specs.Bank.{Grows}
use Rattle.unifiers.specs.Unifier.{Unifies, IsMostGeneral}
use Rattle.unify.specs.Bindings.{Meets, resolved, SolvesBindings, AreBindings}
use Rattle.unify.specs.Unified.{Unites, AreApart}
use Rattle.unify.specs.declared.spot.Bound.{Bound}

-- what bindings amount to meets them, and each substitution that meets them is this one followed by
-- itself
abbrev pub BindingsAreSolved : Type 0
BindingsAreSolved =
    (bank : List Tree) (bs : List Bound) → AreBindings bank bs
    → SolvesBindings (resolved bank bs) bank bs

-- bindings that just the unifiers of terms meet amount to a most general one
abbrev pub ResolvedIsMostGeneral : Type 0
ResolvedIsMostGeneral =
    (bank : List Tree) (bs : List Bound) (ss ts : Trees) → AreBindings bank bs
    → ((u : Substitution) → Meets u bank bs → Unifies u ss ts)
    → ((u : Substitution) → Unifies u ss ts → Meets u bank bs)
    → IsMostGeneral (resolved bank bs) ss ts

-- so do those that come of two terms where nothing was bound
abbrev pub UnitedIsMostGeneral : Type 0
UnitedIsMostGeneral =
    (bank : List Tree) (bs : List Bound) (s t : Tree) → Unites bank [] bs s t
    → IsMostGeneral (resolved bank bs) (more s none) (more t none)

-- and where nothing comes of them they have no unifier
abbrev pub ApartHasNoUnifier : Type 0
ApartHasNoUnifier =
    (bank : List Tree) (s t : Tree) → AreApart bank [] s t → (u : Substitution)
    → ¬ Unifies u (more s none) (more t none)

-- there are none at first, the oldest ones stay bindings, and a bank may grow
abbrev pub NothingIsBound : Type 0
NothingIsBound = (bank : List Tree) → AreBindings bank []

abbrev pub OldestAreBindings : Type 0
OldestAreBindings =
    (bank : List Tree) (bs : List Bound) (n : ℕ) → AreBindings bank bs
    → AreBindings bank (take n bs)

abbrev pub BindingsStay : Type 0
BindingsStay =
    (old new : List Tree) (bs : List Bound) → Grows old new → AreBindings old bs
    → AreBindings new bs
