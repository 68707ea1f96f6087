-- The entries of the code.
use Rattle.std.specs.Prelude.{List, map}
use Rattle.discrim_tree.specs.Entries.{Indexed, indexed}
use Rattle.discrim_tree.specs.declared.entry.IndexEntry.{IndexEntry}

abbrev pub indexed_of : IndexEntry → Indexed
indexed_of e = indexed e.number e.tree

abbrev pub all_indexed : List IndexEntry → List Indexed
all_indexed es = map indexed_of es
