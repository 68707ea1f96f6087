-- The text of an interpretation by names.
use Rattle.std.specs.Prelude.{ℕ, List, map}
use Rattle.ladr_commands.specs.ByName.{NamedTable, ByName}
use Rattle.model_tables.specs.ModelText.{entry_text, entries_text}

-- the text of an entry, with the name that was read
abbrev pub table_text : NamedTable → List ℕ
table_text t = entry_text t.head.name t.head.arity t.head.kind t.values

-- its text by a number of its own: the entries in the order read
unfoldable pub named_text : ByName → ℕ → List ℕ
named_text it k = entries_text it.size k (map table_text it.entries)
