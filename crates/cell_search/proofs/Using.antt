-- The numbers in use, and up to which values cells are tried.
use Rattle.std.proofs.Common.{◌≡◌, inl, inr, ℕ, suc, ◌-◌, ◌<◌, Bool, true, false, min, max, List, [], ◌∷◌, length, get_or, refl, sym, ap, ap₂, subst, ◌∙◌, arith}
use Rattle.std.proofs.lemmas.Bool.{cases_lt}
use Rattle.cell_choice.proofs.Exchanging.{least_numbers_suffice}
use Rattle.cell_choice.proofs.Shaping.{shape_at}
use Rattle.cell_choice.specs.Numbers.{uses_by}
use Rattle.cell_choice.specs.Shapes.{shape_of, cell_shapes}
use Rattle.cell_choice.specs.declared.shape.CellShape.{CellShape}
use Rattle.fol_core.specs.declared.symbols.Kind.{Kind}
use Rattle.fol_core.specs.declared.symbols.Kind.TheVariants.{Function, Relation}
use Rattle.mace_cells.specs.Choices.{Decision}
use Rattle.mace_cells.specs.Numbers.{above_each, above_used, tried_to, greatest_tried}
use Rattle.mace_cells.specs.Stacked.{rest_of}
use Rattle.mace_cells.specs.Trails.{Partial, partial}
use Rattle.mace_cells.specs.World.{World, IsBound, cell_of, many_cells}
use Rattle.mace_ground.specs.Cells.{Cell}
use Rattle.model_tables.specs.Size.{bound_of}
use Rattle.cell_search.specs.Losses.{decided_in}
use Rattle.cell_search.specs.Searchable.{HasAllCells}
use Rattle.cell_search.proofs.Boards.{bound_is}
use Rattle.cell_search.proofs.Bounding.{arguments_below, bound_some}

pub top_used : (fixed : ℕ) (ds : List Decision) (us rest : List ℕ) (u : ℕ) → us ≡ uses_by fixed ds → us ≡ u ∷ rest → u ≡ above_used fixed ds
top_used fixed [] us rest u h g = absurd (let e : u ∷ rest ≡ [] = sym g ∙ h in cc)
top_used fixed (d ∷ ds) us rest u h g = let e : u ∷ rest ≡ above_used fixed (d ∷ ds) ∷ uses_by fixed ds = sym g ∙ h in cc

pub none_used : (fixed : ℕ) (ds : List Decision) (us : List ℕ) → us ≡ uses_by fixed ds → us ≡ [] → fixed ≡ above_used fixed ds
none_used fixed [] us h g = refl
none_used fixed (d ∷ ds) us h g = absurd (let e : above_used fixed (d ∷ ds) ∷ uses_by fixed ds ≡ [] = sym h ∙ g in cc)

pub uses_rest : (fixed : ℕ) (ds : List Decision) → rest_of (uses_by fixed ds) ≡ uses_by fixed (rest_of ds)
uses_rest fixed [] = refl
uses_rest fixed (d ∷ ds) = refl

pub uses_many : (fixed : ℕ) (ds : List Decision) → length (uses_by fixed ds) ≡ length ds
uses_many fixed [] = refl
uses_many fixed (d ∷ ds) = ap suc (uses_many fixed ds)

-- each solution is isomorphic to one with a value that is tried
pub bound_tried : (w : World) → HasAllCells w → (ds : List Decision) (k : ℕ) → k < many_cells w → IsBound w ds (cell_of w k) (greatest_tried w ds (cell_of w k))
bound_tried w proper ds k within = by w.way.least_numbers (cell_of w k).kind refl
  where
    all : (kind : Kind) → (cell_of w k).kind ≡ kind → IsBound w ds (cell_of w k) (bound_of w.size kind - 1)
    all kind is = bound_is w ds k (bound_of w.size kind - 1) (bound_of w.size kind) proper.some within (ap (bound_of w.size) (sym is)) (let some = bound_some w.size kind proper.some in omega (arith, some))

    by : (least : Bool) (kind : Kind) → (cell_of w k).kind ≡ kind → IsBound w ds (cell_of w k) (tried_to least w.size kind (max (above_used w.fixed ds) (above_each (cell_of w k).arguments)))
    by false kind is = all kind is
    by true Relation is = all Relation is
    by true Function is = elim (cases_lt (max (above_used w.fixed ds) (above_each (cell_of w k).arguments)) (w.size - 1)) [
      | inl less ↦
          let some = proper.some in
          least_numbers_suffice w ds (cell_of w k) (min (max (above_used w.fixed ds) (above_each (cell_of w k).arguments)) (w.size - 1)) proper.named is
          (arguments_below w.size w.blocks k proper.some within) (omega (arith, some)) (omega (arith, less)) (omega (arith, less))
      | inr more ↦
          let same : w.size - 1 ≡ min (max (above_used w.fixed ds) (above_each (cell_of w k).arguments)) (w.size - 1) = omega (arith, more) in
          subst (IsBound w ds (cell_of w k)) same (all Function is)
    ]

-- one decision more
pub uses_more : (w : World) (t t' : Partial) (k v mark above used new : ℕ) (us us' : List ℕ) → us ≡ uses_by w.fixed (decided_in w t.entries) → us' ≡ new ∷ us → above ≡ above_each (cell_of w k).arguments
    → used ≡ above_used w.fixed (decided_in w t.entries) → new ≡ max (max (suc v) above) used
    → t' ≡ partial t.many t.stride t.ranking (record { cell = k; value = v; decided = true; mark = mark } ∷ t.entries) t.crossings → us' ≡ uses_by w.fixed (decided_in w t'.entries)
uses_more w t t' k v mark above used new us us' old is arguments so_far here table =
    is ∙ ap₂ (λ (x : ℕ) (xs : List ℕ). x ∷ xs) (here ∙ ap₂ (λ (p q : ℕ). max (max (suc v) p) q) arguments so_far) old ∙ ap (λ (s : Partial). uses_by w.fixed (decided_in w s.entries)) (sym table)

-- the shape of a cell, by which its greatest value is told
pub shape_read : (w : World) (shapes : List CellShape) (k : ℕ) (s : CellShape) → shapes ≡ cell_shapes w.size w.blocks → k < many_cells w → s ≡ get_or shapes k s → s ≡ shape_of (cell_of w k)
shape_read w shapes k s is within here = here ∙ ap (λ (ss : List CellShape). get_or ss k s) is ∙ shape_at w.size w.blocks k s within

pub tried_is : (w : World) (ds : List Decision) (c : Cell) (s : CellShape) (least : Bool) (size used r : ℕ) → s ≡ shape_of c → least ≡ w.way.least_numbers → size ≡ w.size → used ≡ above_used w.fixed ds
    → r ≡ tried_to least size s.kind (max used s.above) → r ≡ greatest_tried w ds c
tried_is w ds c s least size used r shape flag many so_far is = is ∙ (λ i. tried_to (flag i) (many i) (shape i).kind (max (so_far i) (shape i).above))
