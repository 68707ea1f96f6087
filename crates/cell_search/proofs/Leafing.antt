-- The tables of a closed table in which each cell has a value are those of the leaf.
use Rattle.std.proofs.Common.{◌≡◌, ℕ, zero, suc, ◌+◌, ◌-◌, ◌^◌, ◌<◌, ◌≤◌, List, ◌∷◌, map, unwrap_or, Option, None, Some, refl, sym, ap, ◌∙◌, arith}
use Rattle.std.specs.List.{range_with_len}
use Rattle.std.proofs.lemmas.Option.{same_Some}
use Rattle.fol_core.specs.declared.symbols.Kind.TheVariants.{Function}
use Rattle.mace_cells.specs.Trails.{Partial, value_in}
use Rattle.mace_cells.specs.World.{World, cell_of, many_cells}
use Rattle.mace_ground.specs.Cells.{Block, found}
use Rattle.model_tables.specs.Tables.{listing}
use Rattle.plain_search.specs.Lefts.{ValuesLeft, only_value}
use Rattle.cell_search.proofs.Seeing.{found_within}
use Rattle.cell_search.proofs.Viewing.{view_has_values}
use Rattle.cell_search.specs.Finites.{AreLeafTables, above_symbols, finite_by, finite_of, values_by}
use Rattle.cell_search.specs.Losses.{decided_in}
use Rattle.cell_search.specs.Phases.{IsClosedTable}
use Rattle.cell_search.specs.Searchable.{HasAllCells}
use Rattle.cell_search.specs.Viewing.{left_in}

module _ (w : World) (f g : ℕ → Option ℕ) (same : (k : ℕ) → k < many_cells w → f k ≡ g k) where
  same_from : (k n : ℕ) → k + n ≤ many_cells w → map (λ j. unwrap_or (f j) 0) (range_with_len k n) ≡ map (λ j. unwrap_or (g j) 0) (range_with_len k n)
  same_from k zero few = refl
  same_from k (suc n) few =
      ap (λ (o : Option ℕ). unwrap_or o 0 ∷ map (λ j. unwrap_or (f j) 0) (range_with_len (k + 1) n)) (same k (omega (arith, few)))
      ∙ ap (λ (xs : List ℕ). unwrap_or (g k) 0 ∷ xs) (same_from (k + 1) n (omega (arith, few)))

  same_row : (s : ℕ) → values_by w f (found w.size w.blocks s) ≡ values_by w g (found w.size w.blocks s)
  same_row s = by (found w.size w.blocks s) refl
    where
      by : (o : Option (ℕ × Block)) → found w.size w.blocks s ≡ o → values_by w f o ≡ values_by w g o
      by None e = refl
      by (Some q) e = let end = (found_within w.size 0 w.blocks s q e).1 in same_from q.0 (w.size ^ q.1.arity) (omega (arith, end))

  pub same_finite : finite_by w f ≡ finite_by w g
  same_finite = λ i. record { top = w.size - 1; rows = map (λ s. listing Function (same_row s i)) (range_with_len 0 (above_symbols w.blocks)) }

pub leaf_tables : (w : World) (t : Partial) → HasAllCells w → IsClosedTable w t → AreLeafTables w (decided_in w t.entries) (finite_of w t.entries)
leaf_tables w t cells closed p is =
    let same : left_in w t ≡ p = same_Some (left_in w t) p (sym closed.behind ∙ is) in
    same_finite w (value_in t.entries) (λ k. only_value (p (cell_of w k)))
    (λ k few. sym (view_has_values w t cells closed.well k few) ∙ ap (λ (q : ValuesLeft). only_value (q (cell_of w k))) same)
