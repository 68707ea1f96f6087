-- the place of all arguments is that of those to come behind those passed
use Rattle.std.proofs.Common.{◌≡◌, drop, slice_index}
use Rattle.fol_core.specs.Tree.{trees_of}
use Rattle.fol_core.specs.TermView.{tree_list}
use Rattle.fol_core.specs.Truth.{values_of}
use Rattle.model_tables.specs.Tables.{place_from, meaning_of}
use Rattle.model_tables.specs.Variables.{assignment}
use Rattle.model_tables.proofs.evaluate.atom.Given as goal

abbrev pub invariant-loop-argument : goal.invariant-loop-argument
invariant-loop-argument l =
    let values = values_of (meaning_of l.tables) (assignment l.env) in
    slice_index l.row (place_from l.size l.place (values (trees_of (tree_list (drop l.argument-index l.argument-items)))))
    ≡ slice_index l.row (place_from l.size 0 (values (trees_of (tree_list l.argument-items))))
