-- The rows of a table's symbols, and the order that they give.
use Rattle.std.specs.Prelude.{ℕ, suc, ◌≡◌, ◌<◌, ◌≢◌, ◌⊎◌, Bool, IsTrue, IsSome, List, map, Option, Some, None, slice_get, unwrap_or}
use Rattle.std.specs.Option.{option_map_or}
use Rattle.fol_core.specs.KboRows.{weight_in}
use Rattle.fol_core.specs.NamesOnce.{place_in}
use Rattle.fol_core.specs.SymbolTable.{Symbol}
use Rattle.term_order.specs.Precedences.{stands_above}
use Rattle.term_order.specs.declared.precedence.SymbolRow.{SymbolRow}

-- the place of a name among those that are listed, from 1 on, or 0
abbrev pub listed_place : List ℕ → List (List ℕ) → ℕ
listed_place name listed = option_map_or suc (place_in name listed) 0

-- the row of a symbol; one whose name has no weight weighs 1
abbrev pub symbol_row : List (List ℕ) → List (List ℕ × ℕ) → Symbol → SymbolRow
symbol_row listed weights s = record {
  listed = listed_place s.name listed;
  arity = s.arity;
  weight = unwrap_or (weight_in s.name weights) 1;
}

abbrev pub symbol_rows : List (List ℕ) → List (List ℕ × ℕ) → List Symbol → List SymbolRow
symbol_rows listed weights table = map (symbol_row listed weights) table

-- What holds of the order of two symbols of a table, by their numbers.
pub record IsOrderedAsListed (listed : List (List ℕ)) (above : ℕ → ℕ → Bool) (f : ℕ) (s : Symbol)
    (g : ℕ) (t : Symbol) : Type 0 where
  -- one that is listed stands above one that isn't
  pub listed_first : IsSome (place_in s.name listed) → place_in t.name listed ≡ None →
      IsTrue (above f g)
  -- and above those of the names before its own
  pub in_order : (m n : ℕ) → place_in s.name listed ≡ Some m → place_in t.name listed ≡ Some n →
      n < m → IsTrue (above f g)
  -- a name's symbols stand in the order of their arities
  pub arities : s.name ≡ t.name → t.arity < s.arity → IsTrue (above f g)
  -- so do those that aren't listed
  pub others : place_in s.name listed ≡ None → place_in t.name listed ≡ None →
      t.arity < s.arity → IsTrue (above f g)
  -- and of one arity, the later one stands above
  pub later : place_in s.name listed ≡ None → place_in t.name listed ≡ None →
      s.arity ≡ t.arity → g < f → IsTrue (above f g)
  -- of two symbols one stands above the other
  pub total : f ≢ g → IsTrue (above f g) ⊎ IsTrue (above g f)

abbrev pub TableIsOrdered : List (List ℕ) → List (List ℕ × ℕ) → List Symbol → Type 0
TableIsOrdered listed weights table =
    (f g : ℕ) (s t : Symbol) → slice_get table f ≡ Some s → slice_get table g ≡ Some t →
    IsOrderedAsListed listed (stands_above (symbol_rows listed weights table)) f s g t
