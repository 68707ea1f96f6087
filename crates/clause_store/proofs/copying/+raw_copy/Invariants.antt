-- The first arguments.
use Rattle.std.proofs.Common.{◌≡◌, take}
use Rattle.fol_core.specs.RawView.{raw_list}
use Rattle.clause_store.proofs.copying.+raw_copy.Given as goal

abbrev pub invariant-copy_raws-loop-raw : goal.invariant-copy_raws-loop-raw
invariant-copy_raws-loop-raw l = l.copies ≡ raw_list (take l.raw-index l.raw-items)
