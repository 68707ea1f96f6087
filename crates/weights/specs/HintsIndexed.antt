-- Hints as they are kept.
use Rattle.std.specs.Prelude.{◌<◌, length, map}
use Rattle.weights.specs.HintIndex.{AreIndexed}
use Rattle.weights.specs.HintRows.{hint_row}
use Rattle.weights.specs.declared.hints.Hints.TheInside.{Inside}

pub record IsIndexed (a : Inside) : Type 0 where
  pub some : 0 < length a.rows.items
  pub rows : AreIndexed a.rows.items (map hint_row a.hints.items)
