-- The tables of a search, for the symbols of a table.
use Rattle.std.proofs.Common.{◌≡◌, inl, inr, ℕ, ◌+◌, ◌^◌, ◌<◌, ◌≤◌, Bool, true, false, ◌||◌, ◌==◌, nat_le, if◌then◌else◌, List, [], ◌∷◌, map, length, get_or, Option, Some, None, slice_get, slice_index, refl, sym, ap, ◌∙◌, arith}
use Rattle.std.specs.List.{range_with_len}
use Rattle.std.specs.Option.{option_map_or}
use Rattle.std.proofs.lemmas.Bool.{cases_lt, eqb-true}
use Rattle.std.proofs.lemmas.List.FromFn.{get_or-map-range_with_len, length-map-range_with_len}
use Rattle.std.proofs.lemmas.Option.{none-some, same_Some, slice_get-get_or, slice_get_past}
use Rattle.cell_search.specs.Finites.{tables_over}
use Rattle.fol_core.specs.Free.{is_in}
use Rattle.fol_core.specs.SymbolTable.{Symbol, kind_at, arity_at}
use Rattle.mace_ground.specs.Cells.{Block, blocks_of, found_from}
use Rattle.model_tables.specs.Tables.{Listing, Finite, listing, row_of, place_from, element, meaning_of}
use Rattle.ladr_cells.proofs.Celled.{block_in}

-- a symbol that isn't among them has no block, and the block of one that is has the table's kind and arity
pub none_found : (table : List Symbol) (n k s : ℕ) (ss : List ℕ) → is_in s ss ≡ false → found_from n k (blocks_of table ss) s ≡ None
none_found table n k s [] h = refl
none_found table n k s (x ∷ ss) h = by (s == x) h (λ e. none_found table n (k + n ^ arity_at table x) s ss e)
  where
    by : (b : Bool) → (b || is_in s ss) ≡ false → (is_in s ss ≡ false → found_from n (k + n ^ arity_at table x) (blocks_of table ss) s ≡ None)
        → (if b then Some (k, block_in table x) else found_from n (k + n ^ arity_at table x) (blocks_of table ss) s) ≡ None
    by true e rest = absurd cc
    by false e rest = rest e

pub block_found : (table : List Symbol) (n k s : ℕ) (ss : List ℕ) (q : ℕ × Block) → found_from n k (blocks_of table ss) s ≡ Some q → q.1 ≡ block_in table s
block_found table n k s [] q h = absurd (none-some _ h)
block_found table n k s (x ∷ ss) q h = by (s == x) refl h (λ e. block_found table n (k + n ^ arity_at table x) s ss q e)
  where
    by : (b : Bool) → (s == x) ≡ b → (if b then Some (k, block_in table x) else found_from n (k + n ^ arity_at table x) (blocks_of table ss) s) ≡ Some q
        → (found_from n (k + n ^ arity_at table x) (blocks_of table ss) s ≡ Some q → q.1 ≡ block_in table s) → q.1 ≡ block_in table s
    by true e g rest = ap (λ (r : ℕ × Block). r.1) (sym (same_Some _ _ g)) ∙ ap (block_in table) (sym (eqb-true s x e))
    by false e g rest = rest g

module _ (table : List Symbol) (t : Finite) where
  abbrev row_at : ℕ → Listing
  row_at s = listing (kind_at table s) (row_of t s)

  -- a row for each of the symbols has the values that were there
  row_over : (s : ℕ) → s < length table → row_of (tables_over table t) s ≡ row_of t s
  row_over s below =
      let rows = map row_at (range_with_len 0 (length table)) in
      let many : length rows ≡ length table = length-map-range_with_len row_at 0 (length table) in
      let there : slice_get rows s ≡ Some (get_or rows s (row_at s)) = slice_get-get_or rows s (row_at s) (omega (arith, below, many)) in
      let value : get_or rows s (row_at s) ≡ row_at s = get_or-map-range_with_len row_at 0 (length table) s s (row_at s) below (omega arith) in
      ap (λ (o : Option Listing). option_map_or (λ l. l.values) o []) (there ∙ ap (λ (l : Listing). Some l) value)

  -- no others are there
  module _ (none : (s : ℕ) → length table ≤ s → row_of t s ≡ []) where
    pub same_rows : (s : ℕ) → row_of (tables_over table t) s ≡ row_of t s
    same_rows s = elim (cases_lt s (length table)) [
      | inl below ↦ row_over s below
      | inr past ↦
          let rows = map row_at (range_with_len 0 (length table)) in
          let many : length rows ≡ length table = length-map-range_with_len row_at 0 (length table) in
          ap (λ (o : Option Listing). option_map_or (λ l. l.values) o []) (slice_get_past rows s (omega (arith, past, many))) ∙ sym (none s past)
    ]

    pub same_meaning : meaning_of (tables_over table t) ≡ meaning_of t
    same_meaning = λ i. record {
      within = λ x. nat_le x t.top;
      function = λ f xs. element t (slice_index (same_rows f i) (place_from (t.top + 1) 0 xs));
      relation = λ r xs. slice_index (same_rows r i) (place_from (t.top + 1) 0 xs) == 1;
    }
