-- The cells of one value get it, which changes nothing of what is left.
use Rattle.std.proofs.Common.{◌≡◌, ℕ, ◌+◌, ◌*◌, ◌<◌, Bool, true, false, [], ◌∷◌, None, inl, inr, sym, ap, ◌∙◌, arith}
use Rattle.std.proofs.lemmas.Bool.{cases_lt}
use Rattle.mace_cells.specs.Trails.{Partial, value_in, is_struck_off}
use Rattle.mace_cells.specs.World.{World, cell_of, many_cells}
use Rattle.model_tables.specs.Size.{bound_of}
use Rattle.plain_search.specs.Closing.{asks, nothing}
use Rattle.plain_search.specs.Lefts.{IsAmong}
use Rattle.cell_search.proofs.Bounding.{bound_some}
use Rattle.cell_search.proofs.Following.{alone, below, left_blank, rising}
use Rattle.cell_search.proofs.Keeping.{one_among}
use Rattle.cell_search.proofs.Viewing.{is_uncrossed}
use Rattle.cell_search.specs.Asking.{IsGivenSingle}
use Rattle.cell_search.specs.Following.{AreWellLeft, IsFollowed}
use Rattle.cell_search.specs.Searchable.{HasAllCells}
use Rattle.cell_search.specs.Viewing.{uncrossed}

free_at_first : (t : Partial) (k v : ℕ) → t.crossings ≡ [] → is_struck_off (k * t.stride + v) t.crossings ≡ false
free_at_first t k v none = ap (is_struck_off (k * t.stride + v)) none

pub single_same : (w : World) (t : Partial) (k : ℕ) (done : Bool) (t' : Partial) → HasAllCells w → k < many_cells w → t.crossings ≡ [] → value_in t.entries k ≡ None → bound_of w.size (cell_of w k).kind ≡ 1
    → IsFollowed w t (asks (cell_of w k) 0 true) done t' → IsFollowed w t nothing done t'
single_same w t k done t' cells few none blank one did =
    let there : IsAmong 0 (uncrossed t k (bound_of w.size (cell_of w k).kind)) = is_uncrossed t k (bound_of w.size (cell_of w k).kind) 0 (omega (arith, one)) (free_at_first t k 0 none) in
    let all : uncrossed t k (bound_of w.size (cell_of w k).kind) ≡ 0 ∷ [] = one_among 0 0 (uncrossed t k (bound_of w.size (cell_of w k).kind)) (rising w t cells k few) there
    (λ x i. let less = below w t cells k few x i in omega (arith, less, one)) in
    sym (alone w t cells k few 0 (left_blank w t cells k few blank ∙ all)) ∙ did

pub begins_well : (w : World) (t : Partial) → 0 < w.size → t.crossings ≡ [] → ((k : ℕ) → k < many_cells w → IsGivenSingle w t.entries k) → AreWellLeft w t
begins_well w t some none given k few = elim (cases_lt 1 (bound_of w.size (cell_of w k).kind)) [
  | inl several ↦ inr (0, 1, (omega arith, several, free_at_first t k 0 none, free_at_first t k 1 none))
  | inr most ↦ let least = bound_some w.size (cell_of w k).kind some in inl (given k few (omega (arith, most, least)))
]
