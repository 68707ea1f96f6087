-- What is asked before two terms are made the same, and what is left then.
use Rattle.std.specs.Prelude.{ℕ, ◌≡◌, ◌≤◌, Bool, true, false, List, length, vec_capacity}
use Rattle.fol_core.specs.Substitutions.{Substitution, substitute}
use Rattle.fol_core.specs.Tree.{Tree}
use Rattle.unify.specs.Bindings.{Meets, AreBindings, bound_variables}
use Rattle.unify.specs.Rooms.{TakePart, BindWithin}
use Rattle.unify.specs.Spots.{spot_tree, In}
use Rattle.unify.specs.Steps.{AllSpots, IsShownIn, Leaving}
use Rattle.unify.specs.Unified.{BindsMore}
use Rattle.unify.specs.declared.spot.Spot.{Spot}
use Rattle.unify.specs.declared.spot.Workspace.{Workspace}

-- whatever is linked
pub record CanBegin (bank : List Tree) (w : Workspace) (s t : Spot) : Type 0 where
  pub ps : List Spot
  pub xs : List ℕ
  pub parts : TakePart bank w.bound.items ps xs
  pub bindings : AreBindings bank w.bound.items
  pub kept : AllSpots bank w.kept.items
  pub kept_free : (x : ℕ) → IsShownIn bank w.kept.items x → ¬ In x (bound_variables w.bound.items)
  pub left : In s ps
  pub right : In t ps
  pub vars : length xs ≤ vec_capacity w.bound
  pub nodes : length ps ≤ vec_capacity w.links
  pub reach : length ps ≤ vec_capacity w.reached

-- nodes and variables take part, two terms among them, and there is room for so many
pub record HasWorkRoom (bank : List Tree) (w : Workspace) (ps : List Spot) (xs : List ℕ)
    (s t : Spot) : Type 0 where
  pub parts : TakePart bank w.bound.items ps xs
  pub left : In s ps
  pub right : In t ps
  pub vars : length xs ≤ vec_capacity w.bound
  pub nodes : length ps ≤ vec_capacity w.links
  pub reach : length ps ≤ vec_capacity w.reached

pub record Ended (bank : List Tree) (old new : Workspace) (s t : Spot) : Type 0 where
  pub bindings : AreBindings bank new.bound.items
  pub extends : BindsMore old.bound.items new.bound.items
  pub kept_free : (x : ℕ) → IsShownIn bank old.kept.items x
      → ¬ In x (bound_variables new.bound.items)
  pub equal : (u : Substitution) → Meets u bank new.bound.items
      → substitute u (spot_tree bank s) ≡ substitute u (spot_tree bank t)
  pub every : (u : Substitution) → Leaving u bank old.kept.items → Meets u bank old.bound.items
      → substitute u (spot_tree bank s) ≡ substitute u (spot_tree bank t)
      → Meets u bank new.bound.items
  pub stays : (ps : List Spot) (xs : List ℕ) → HasWorkRoom bank old ps xs s t
      → TakePart bank new.bound.items ps xs × BindWithin ps old.bound.items new.bound.items

pub record Undone (bank : List Tree) (old new : Workspace) (s t : Spot) : Type 0 where
  pub same : new.bound.items ≡ old.bound.items
  pub never : (u : Substitution) → Leaving u bank old.kept.items → Meets u bank old.bound.items
      → ¬ (substitute u (spot_tree bank s) ≡ substitute u (spot_tree bank t))

abbrev pub IsWalkedTo : List Tree → Workspace → Workspace → Spot → Spot → Bool → Type 0
IsWalkedTo bank old new s t true = Ended bank old new s t
IsWalkedTo bank old new s t false = Undone bank old new s t

-- and the room stays
pub record EndsAs (bank : List Tree) (old new : Workspace) (s t : Spot) (made : Bool) : Type 0 where
  pub ends : IsWalkedTo bank old new s t made
  pub vars : vec_capacity new.bound ≡ vec_capacity old.bound
  pub nodes : vec_capacity new.links ≡ vec_capacity old.links
  pub reach : vec_capacity new.reached ≡ vec_capacity old.reached
  pub spare : vec_capacity new.kept ≡ vec_capacity old.kept
