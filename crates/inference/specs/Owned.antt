-- What is left, as a search keeps it.
use Rattle.std.specs.Option.{option_map}
use Rattle.fol_core.specs.ClauseView.{literal_of}
use Rattle.fol_core.specs.TermView.{tree_of}
use Rattle.inference.specs.Left.{ChangeTree, LeftTree}
use Rattle.inference.specs.declared.large.OwnedChange.{OwnedChange}
use Rattle.inference.specs.declared.large.OwnedLeft.{OwnedLeft}

abbrev pub owned_change_tree : OwnedChange → ChangeTree
owned_change_tree c = record { path = c.path.items; parent = c.parent; term = tree_of c.term }

abbrev pub owned_tree : OwnedLeft → LeftTree
owned_tree l = record {
  parent = l.parent;
  literal = literal_of l.literal;
  change = option_map owned_change_tree l.change;
}
