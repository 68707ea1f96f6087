-- Room as it is told of.
use Rattle.std.specs.Prelude.{◌≤◌, vec_capacity}
use Rattle.subsume.specs.declared.room.Places.TheInside.{Inside}

pub record HasRoom (a : Inside) : Type 0 where
  pub places : a.size ≤ vec_capacity a.taken
  pub terms : a.size ≤ a.found.room
