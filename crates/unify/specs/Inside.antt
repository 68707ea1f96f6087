-- Bindings have the room that they tell of.
use Rattle.std.specs.Prelude.{◌≤◌, vec_capacity}
use Rattle.unify.specs.declared.bindings.Bindings.TheInside.{Inside}

pub record HasCapacity (a : Inside) : Type 0 where
  pub links : a.nodes ≤ vec_capacity a.work.links
  pub reached : a.nodes ≤ vec_capacity a.work.reached
  pub kept : a.nodes ≤ vec_capacity a.work.kept
