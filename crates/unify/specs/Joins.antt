-- What is asked of a pair of terms before they are made the same.
use Rattle.std.specs.Prelude.{ℕ, ◌≡◌, List}
use Rattle.fol_core.specs.Tree.{Tree, var}
use Rattle.unify.specs.Bindings.{bound_variables, PointsOn}
use Rattle.unify.specs.Spots.{spot_tree, In}
use Rattle.unify.specs.Steps.{IsNoVariable, IsShownIn, IsWork, StandsForClass}
use Rattle.unify.specs.declared.spot.Spot.{Spot}
use Rattle.unify.specs.declared.spot.Workspace.{Workspace}

-- a variable that nothing is bound to, and a term that may be bound to it
pub record MayBindOther (bank : List Tree) (w : Workspace) (x : ℕ) (q : Spot) : Type 0 where
  pub ps : List Spot
  pub xs : List ℕ
  pub work : IsWork bank ps xs w
  pub inside : In q ps
  pub named : In x xs
  pub unbound : ¬ In x (bound_variables w.bound.items)
  pub free : PointsOn bank (bound_variables w.bound.items) q
  pub other : ¬ (spot_tree bank q ≡ var x)
  pub firm : IsShownIn bank w.kept.items x → (y : ℕ) → spot_tree bank q ≡ var y
      → IsShownIn bank w.kept.items y

-- and the variable isn't kept
pub record MayBind (bank : List Tree) (w : Workspace) (x : ℕ) (q : Spot) : Type 0 where
  pub ps : List Spot
  pub xs : List ℕ
  pub work : IsWork bank ps xs w
  pub inside : In q ps
  pub named : In x xs
  pub unbound : ¬ In x (bound_variables w.bound.items)
  pub free : PointsOn bank (bound_variables w.bound.items) q
  pub other : ¬ (spot_tree bank q ≡ var x)
  pub loose : ¬ IsShownIn bank w.kept.items x

-- two that stand for classes
pub record CanJoin (bank : List Tree) (w : Workspace) (p q : Spot) : Type 0 where
  pub ps : List Spot
  pub xs : List ℕ
  pub work : IsWork bank ps xs w
  pub left : In p ps
  pub right : In q ps
  pub left_end : StandsForClass bank w p
  pub right_end : StandsForClass bank w q

pub record CanJoinVariable (bank : List Tree) (w : Workspace) (x : ℕ) (p q : Spot) : Type 0 where
  pub join : CanJoin bank w p q
  pub variable : spot_tree bank p ≡ var x

pub record CanLink (bank : List Tree) (w : Workspace) (p q : Spot) : Type 0 where
  pub join : CanJoin bank w p q
  pub left : IsNoVariable bank p
  pub right : IsNoVariable bank q
