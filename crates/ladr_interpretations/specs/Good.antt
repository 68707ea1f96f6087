-- When an interpretation by names is one, and the tables that it gives to symbols.
use Rattle.std.specs.Prelude.{ℕ, ◌-◌, ◌^◌, ◌==◌, nat_lt, nat_le, Bool, true, not, ◌&&◌, List, [], ◌∷◌, ◌++◌, length, map, is_some, if◌then◌else◌}
use Rattle.std.specs.List.{list_all}
use Rattle.fol_core.specs.SymbolTable.{Symbol, is_called, is_same_kind, number_of}
use Rattle.ladr_commands.specs.ByName.{NamedTable, ByName}
use Rattle.model_tables.specs.Size.{bound_of}
use Rattle.model_tables.specs.Tables.{Listing, Finite, listing}

-- a value for each list of arguments, and none too great
abbrev pub is_filled : ℕ → NamedTable → Bool
is_filled n t =
    length t.values == n ^ t.head.arity
    && list_all (λ v. nat_lt v (bound_of n t.head.kind)) t.values

-- no name and arity stands twice, nor among those before
abbrev pub are_new : List Symbol → List Symbol → Bool
are_new before [] = true
are_new before (s ∷ ss) =
    not (is_some (number_of before s.name s.arity)) && are_new (before ++ s ∷ []) ss

abbrev pub heads_of : List NamedTable → List Symbol
heads_of ts = map (λ t. t.head) ts

-- from 1 to 200 elements, each table filled, and no symbol twice
abbrev pub is_good : ByName → Bool
is_good it =
    nat_le 1 it.size && nat_le it.size 200 && list_all (is_filled it.size) it.entries
    && are_new [] (heads_of it.entries)

-- the values of the entry for a symbol's name, arity and kind, none where there is no such entry
abbrev pub values_for : List NamedTable → Symbol → List ℕ
values_for [] s = []
values_for (t ∷ ts) s =
    if is_called s.name s.arity t.head
    then (if is_same_kind t.head.kind s.kind then t.values else []) else values_for ts s

-- the symbol's kind and those values
abbrev pub listing_for : List NamedTable → Symbol → Listing
listing_for ts s = listing s.kind (values_for ts s)

-- the tables that it gives to the symbols
abbrev pub tables_for : ByName → List Symbol → Finite
tables_for it table = record { top = it.size - 1; rows = map (listing_for it.entries) table }
