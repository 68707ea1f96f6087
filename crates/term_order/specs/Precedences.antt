-- The order of symbols by their rows, and what they weigh.
use Rattle.std.specs.Prelude.{ℕ, Bool, ◌==◌, nat_lt, ◌&&◌, ◌||◌, List}
use Rattle.std.specs.List.{slice_index_or}
use Rattle.term_order.specs.declared.precedence.SymbolRow.{SymbolRow}

-- a symbol without a row is listed nowhere, and weighs 1
abbrev pub row_at : List SymbolRow → ℕ → SymbolRow
row_at rows f = slice_index_or rows f (record { listed = 0; arity = 0; weight = 1 })

abbrev pub weight_at : List SymbolRow → ℕ → ℕ
weight_at rows f = (row_at rows f).weight

-- whether a row and a symbol's number come behind others: by the place in the list, then by arity,
-- then by number
abbrev pub comes_behind : SymbolRow → ℕ → SymbolRow → ℕ → Bool
comes_behind high f low g =
    nat_lt low.listed high.listed
    || (low.listed == high.listed
    && (nat_lt low.arity high.arity || (low.arity == high.arity && nat_lt g f)))

-- what comes behind stands above
abbrev pub stands_above : List SymbolRow → ℕ → ℕ → Bool
stands_above rows f g = comes_behind (row_at rows f) f (row_at rows g) g
