-- The models of what is stated that the leaves of the plain search are.
use Rattle.std.proofs.Common.{◌≡◌, ℕ, zero, suc, ◌+◌, ◌-◌, ◌<◌, ◌≤◌, List, [], ◌∷◌, map, length, get_or, Option, Some, slice_get, inl, inr, refl, ap, ap₂, sym, subst, ◌∙◌, arith}
use Rattle.std.specs.List.{AllByRecursion, range_with_len}
use Rattle.std.specs.Option.{option_map_or}
use Rattle.std.proofs.lemmas.List.FromFn.{get_or-map-range_with_len, length-map-range_with_len}
use Rattle.std.proofs.lemmas.Option.{slice_get-get_or}
use Rattle.cell_search.specs.Leaves.{LeafTablesSolve, LeafTablesDiffer, LeafTablesCover}
use Rattle.cell_search.specs.Finites.{above_symbols, finite_at, finite_by, values_by}
use Rattle.fol_core.specs.Meaning.{Meaning}
use Rattle.fol_problem.specs.Stated.{Stated}
use Rattle.ladr_cells.proofs.Whole.{same_meaning, same_rows}
use Rattle.ladr_cells.specs.Showing.{IsOneOf, CoverModels}
use Rattle.ladr_cells.specs.Worlds.{world_for}
use Rattle.ladr_mace4.proofs.Known.{Facts}
use Rattle.ladr_mace4.proofs.WholeModels.{whole_over, whole_model, none_behind}
use Rattle.ladr_mace4.specs.Done.{tables_at, leaf_models}
use Rattle.ladr_mace4.specs.Models.{IsWholeModel, AreShown}
use Rattle.ladr_mace4.specs.Skolems.{all_symbols}
use Rattle.mace_cells.specs.declared.way.Way.{Way}
use Rattle.mace_cells.specs.World.{World, AreAlike, cell_of}
use Rattle.mace_ground.specs.Cells.{found}
use Rattle.mace_search.specs.Complete.{AreDifferent, IsNewModel}
use Rattle.model_tables.specs.Tables.{Listing, Finite, listing, row_of, meaning_of}
use Rattle.fol_core.specs.declared.symbols.Kind.TheVariants.{Function}
use Rattle.plain_search.proofs.Coming.{leaves_are_found}
use Rattle.plain_search.specs.Lefts.{ValuesLeft, only_value}
use Rattle.plain_search.specs.PlainLaws as plain
use Rattle.plain_search.specs.Trying.{leaves}

-- tables of a leaf with the same rows are the same
mapped : (f g : ℕ → Listing) (k n : ℕ) → ((s : ℕ) → s < k + n → f s ≡ g s) → map f (range_with_len k n) ≡ map g (range_with_len k n)
mapped f g k zero h = refl
mapped f g k (suc n) h = ap₂ (λ (l : Listing) (ls : List Listing). l ∷ ls) (h k (omega arith)) (mapped f g (k + 1) n (λ s below. h s (omega (arith, below))))

module _ (w : World) where
  abbrev row_by : (ℕ → Option ℕ) → ℕ → Listing
  row_by f s = listing Function (values_by w f (found w.size w.blocks s))

  row_is : (f : ℕ → Option ℕ) (s : ℕ) → s < above_symbols w.blocks → row_of (finite_by w f) s ≡ values_by w f (found w.size w.blocks s)
  row_is f s below =
      let many = above_symbols w.blocks in
      let rows = map (row_by f) (range_with_len 0 many) in
      let enough : length rows ≡ many = length-map-range_with_len (row_by f) 0 many in
      let there : slice_get rows s ≡ Some (get_or rows s (row_by f s)) = slice_get-get_or rows s (row_by f s) (omega (arith, below, enough)) in
      let value : get_or rows s (row_by f s) ≡ row_by f s = get_or-map-range_with_len (row_by f) 0 many s s (row_by f s) below (omega arith) in
      ap (λ (o : Option Listing). option_map_or (λ l. l.values) o []) (there ∙ ap (λ (l : Listing). Some l) value)

  same_by : (f g : ℕ → Option ℕ) → ((s : ℕ) → row_of (finite_by w f) s ≡ row_of (finite_by w g) s) → finite_by w f ≡ finite_by w g
  same_by f g same =
      let rows = mapped (row_by f) (row_by g) 0 (above_symbols w.blocks) (λ s below. ap (λ (vs : List ℕ). listing Function vs) (sym (row_is f s (omega (arith, below))) ∙ same s ∙ row_is g s (omega (arith, below)))) in
      ap (λ (ls : List Listing). record { top = w.size - 1; rows = ls }) rows

one_at : (f : ValuesLeft → Finite) (q : ValuesLeft) (qs : List ValuesLeft) → plain.IsOneOf q qs → IsOneOf (f q) (map f qs)
one_at f q [] one = absurd one
one_at f q (r ∷ rs) (inl e) = inl (ap f e)
one_at f q (r ∷ rs) (inr one) = inr (one_at f q rs one)

module _ (solve : LeafTablesSolve) (differ : LeafTablesDiffer) (cover : LeafTablesCover) (p : Stated) (way : Way) (n : ℕ) (facts : Facts p way n) where
  abbrev w : World
  w = world_for p n way

  abbrev at : ValuesLeft → Finite
  at = tables_at p n way

  abbrev AreLeaves : List ValuesLeft → Type 0
  AreLeaves qs = (q : ValuesLeft) → plain.IsOneOf q qs → plain.IsOneOf q (leaves w)

  none_more : (q : ValuesLeft) → plain.IsOneOf q (leaves w) → (k : ℕ) → length (all_symbols p) ≤ k → row_of (finite_at w q) k ≡ []
  none_more q one = none_behind p way n facts.stand (finite_at w q) (solve w q facts.cells one).0

  leaf_whole : (q : ValuesLeft) → plain.IsOneOf q (leaves w) → IsWholeModel p n (at q)
  leaf_whole q one =
      let x = solve w q facts.cells one in
      whole_model p way n facts.stand (finite_at w q) x.0 (facts.says (meaning_of (finite_at w q)) x.1) x.1.holds

  all_whole : (qs : List ValuesLeft) → AreLeaves qs → AllByRecursion (IsWholeModel p n) (map at qs)
  all_whole [] within = tt
  all_whole (q ∷ qs) within = (leaf_whole q (within q (inl refl)), all_whole qs (λ r one. within r (inr one)))

  same_leaf : (q r : ValuesLeft) → plain.IsOneOf q (leaves w) → plain.IsOneOf r (leaves w) → at q ≡ at r → finite_at w q ≡ finite_at w r
  same_leaf q r one other e =
      let t = finite_at w q in
      let u = finite_at w r in
      same_by w (λ k. only_value (q (cell_of w k))) (λ k. only_value (r (cell_of w k))) (λ k. sym (same_rows (all_symbols p) t (none_more q one) k) ∙ ap (λ (x : Finite). row_of x k) e ∙ same_rows (all_symbols p) u (none_more r other) k)

  new_leaf : (q : ValuesLeft) (qs : List ValuesLeft) → plain.IsOneOf q (leaves w) → AreLeaves qs → IsNewModel (finite_at w q) (map (finite_at w) qs) → IsNewModel (at q) (map at qs)
  new_leaf q [] one within h = tt
  new_leaf q (r ∷ rs) one within h = ((λ same. h.0 (same_leaf q r one (within r (inl refl)) same)), new_leaf q rs one (λ x i. within x (inr i)) h.1)

  all_different : (qs : List ValuesLeft) → AreLeaves qs → AreDifferent (map (finite_at w) qs) → AreDifferent (map at qs)
  all_different [] within h = tt
  all_different (q ∷ qs) within h = (new_leaf q qs (within q (inl refl)) (λ r i. within r (inr i)) h.0, all_different qs (λ r i. within r (inr i)) h.1)

  leaves_shown : AreShown p n (map at (leaves w))
  leaves_shown = (all_whole (leaves w) (λ q one. one), all_different (leaves w) (λ q one. one) (differ w facts.cells))

  leaves_cover : CoverModels p n (map at (leaves w))
  leaves_cover t is =
      let expanded = facts.each t is in
      let x = cover w facts.cells (meaning_of expanded.0) expanded.1.1 tt in
      let q = x.1.1.0 in
      let one = x.1.1.1.0 in
      let u = finite_at w q in
      let whole = (solve w q facts.cells one).0 in
      let alike : AreAlike w x.0 (meaning_of (at q)) = subst (λ (m : Meaning). AreAlike w x.0 m) (sym (same_meaning (all_symbols p) u (none_more q one))) x.1.1.1.1 in
      (at q, one_at at q (leaves w) one, (x.1.2.0, facts.renamed t expanded.0 (at q) is.0 expanded.1.0 x.0 x.1.0 x.1.2.0 x.1.2.1.0 x.1.2.1.1 (whole_over p way n facts.stand u whole) alike))

  all_leaves : map at (leaves w) ≡ leaf_models p n way
  all_leaves = sym (ap (λ (qs : List ValuesLeft). map at qs) (leaves_are_found w))

  pub models_shown : AreShown p n (leaf_models p n way)
  models_shown = subst (AreShown p n) all_leaves leaves_shown

  pub models_cover : CoverModels p n (leaf_models p n way)
  models_cover = subst (CoverModels p n) all_leaves leaves_cover
