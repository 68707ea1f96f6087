-- Room as it is told of.
use Rattle.std.specs.Prelude.{◌≤◌, vec_capacity}
use Rattle.weights.specs.declared.room.Room.TheInside.{Inside}

pub record HasCapacity (a : Inside) : Type 0 where
  pub weights : a.size ≤ vec_capacity a.weights
  pub bindings : a.size ≤ a.found.room
  pub places : a.size ≤ a.places
