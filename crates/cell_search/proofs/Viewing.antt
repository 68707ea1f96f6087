-- Each cell has its number, and the partial table of a search has the values of its steps.
use Rattle.std.proofs.Common.{◌≡◌, ℕ, ◌+◌, ◌*◌, ◌<◌, ◌==◌, Bool, true, false, not, if◌then◌else◌, List, [], ◌∷◌, length, map, Option, None, Some, inl, inr, refl, sym, ap, ◌∙◌, arith}
use Rattle.std.specs.Prelude.{◌⊎◌}
use Rattle.std.specs.List.{range_with_len}
use Rattle.std.proofs.lemmas.Bool.{eq-eqb, eqb-true}
use Rattle.std.proofs.lemmas.Option.{none-some}
use Rattle.fol_core.specs.Bound.{IsOnce}
use Rattle.mace_cells.specs.Trails.{Partial, partial, HasTwoLeft, value_in, is_struck_off}
use Rattle.mace_cells.specs.World.{World, cell_of, many_cells}
use Rattle.mace_cells.specs.declared.trail.TrailEntry.{TrailEntry}
use Rattle.mace_ground.specs.Cells.{Cell, digits}
use Rattle.model_tables.specs.Size.{bound_of}
use Rattle.plain_search.proofs.Reaching.{cell_itself}
use Rattle.plain_search.proofs.Solved.{among_range, digits_below, digits_many}
use Rattle.plain_search.proofs.Sounding.{among_filter, same_cell}
use Rattle.plain_search.specs.Lefts.{IsAmong, is_same_cell, only_value, with_left}
use Rattle.cell_search.proofs.Filling.{number_there}
use Rattle.cell_search.proofs.Sounding.{cell_named}
use Rattle.cell_search.proofs.Tabling.{located, cells_differ}
use Rattle.cell_search.specs.Searchable.{HasCells, HasAllCells}
use Rattle.cell_search.specs.Viewing.{number_of, uncrossed, left_at, left_by, left_in, ViewHasValues}

-- a cell of a number has this number
pub number_at : (w : World) → 0 < w.size → IsOnce (map (λ b. b.symbol) w.blocks) → (k : ℕ) → k < many_cells w → number_of w (cell_of w k) ≡ Some k
number_at w some once k few =
    let l = located w.size 0 w.blocks k once few in
    let xs : List ℕ = digits w.size l.block.arity l.place in
    let cells : HasCells w l.block.kind l.block.symbol (length xs) = (l.first, (l.block, (l.found_is, refl, sym (digits_many w.size l.block.arity l.place)))) in
    let there = number_there w l.block.kind l.block.symbol xs cells (digits_below w.size l.block.arity l.place some l.within) in
    let named = cell_named w l.block.kind l.block.symbol xs there.0 there.1 in
    let same : there.0 ≡ k = cells_differ w once some there.0 k named.0 few (named.1 ∙ sym l.names) in
    ap (number_of w) l.names ∙ there.1 ∙ ap Some same

-- a list with two numbers has more than one
two_among : (v u : ℕ) (xs : List ℕ) → v < u → IsAmong v xs → IsAmong u xs → only_value xs ≡ None
two_among v u [] less i j = absurd i
two_among v u (x ∷ []) less (inl e) (inl f) = absurd (omega (arith, less, e, f))
two_among v u (x ∷ []) less (inl e) (inr j) = absurd j
two_among v u (x ∷ []) less (inr i) j = absurd i
two_among v u (x ∷ y ∷ xs) less i j = refl

pub is_uncrossed : (t : Partial) (k end v : ℕ) → v < end → is_struck_off (k * t.stride + v) t.crossings ≡ false → IsAmong v (uncrossed t k end)
is_uncrossed t k end v within left =
    among_filter (λ x. not (is_struck_off (k * t.stride + x) t.crossings)) v (range_with_len 0 end) (ap not left) (among_range v 0 end (omega arith) (omega (arith, within)))

two_uncrossed : (t : Partial) (k end : ℕ) → HasTwoLeft t k end → only_value (uncrossed t k end) ≡ None
two_uncrossed t k end two =
    let less = two.2.0 in
    let within = two.2.1 in
    two_among two.0 two.1 (uncrossed t k end) less (is_uncrossed t k end two.0 (omega (arith, less, within)) two.2.2) (is_uncrossed t k end two.1 within two.2.3)

-- what the cell of a number has left
pub left_there : (w : World) (t : Partial) → 0 < w.size → IsOnce (map (λ b. b.symbol) w.blocks) → (k : ℕ) → k < many_cells w
    → left_in w t (cell_of w k) ≡ left_at t k (bound_of w.size (cell_of w k).kind) (value_in t.entries k)
left_there w t some once k few = ap (left_by t (bound_of w.size (cell_of w k).kind)) (number_at w some once k few)

pub view_has_values : ViewHasValues
view_has_values w t cells well k few =
    ap only_value (left_there w t cells.some cells.once k few) ∙ by (value_in t.entries k) refl (well k few)
  where
    by : (o : Option ℕ) → value_in t.entries k ≡ o → ((v : ℕ) × (value_in t.entries k ≡ Some v)) ⊎ HasTwoLeft t k (bound_of w.size (cell_of w k).kind)
        → only_value (left_at t k (bound_of w.size (cell_of w k).kind) o) ≡ o
    by (Some v) e h = refl
    by None e (inl v) = absurd (none-some _ (sym e ∙ v.1))
    by None e (inr two) = two_uncrossed t k (bound_of w.size (cell_of w k).kind) two

-- a step gives its cell its value, and changes nothing else
module _ (w : World) (t : Partial) (e : TrailEntry) (cells : HasAllCells w) (few : e.cell < many_cells w) where
  at_others : (k end : ℕ) (o : Option ℕ) → left_at (partial t.many t.stride t.ranking (e ∷ t.entries) t.crossings) k end o ≡ left_at t k end o
  at_others k end None = refl
  at_others k end (Some v) = refl

  given_there : (end : ℕ) → left_at (partial t.many t.stride t.ranking (e ∷ t.entries) t.crossings) e.cell end (value_in (e ∷ t.entries) e.cell) ≡ e.value ∷ []
  given_there end =
      ap (λ (b : Bool). left_at (partial t.many t.stride t.ranking (e ∷ t.entries) t.crossings) e.cell end (if b then Some e.value else value_in t.entries e.cell)) (eq-eqb e.cell e.cell refl)

  elsewhere : (d : Cell) → is_same_cell (cell_of w e.cell) d ≡ false → (end : ℕ) (o : Option ℕ) → number_of w d ≡ o
      → left_by (partial t.many t.stride t.ranking (e ∷ t.entries) t.crossings) end o ≡ left_by t end o
  elsewhere d other end None n = refl
  elsewhere d other end (Some k) n = by (k == e.cell) refl
    where
      named : cell_of w k ≡ d
      named = (cell_named w d.kind d.symbol d.arguments k n).1

      by : (b : Bool) → (k == e.cell) ≡ b → left_at (partial t.many t.stride t.ranking (e ∷ t.entries) t.crossings) k end (if b then Some e.value else value_in t.entries k) ≡ left_at t k end (value_in t.entries k)
      by true s =
          let same : cell_of w e.cell ≡ d = ap (cell_of w) (sym (eqb-true k e.cell s)) ∙ named in
          absurd (let no : true ≡ false = sym (cell_itself (cell_of w e.cell)) ∙ ap (is_same_cell (cell_of w e.cell)) same ∙ other in cc)
      by false s = at_others k end (value_in t.entries k)

  pub assigned_view : left_in w (partial t.many t.stride t.ranking (e ∷ t.entries) t.crossings) ≡ with_left (left_in w t) (cell_of w e.cell) (e.value ∷ [])
  assigned_view = λ i d. (at d (is_same_cell (cell_of w e.cell) d) refl) i
    where
      at : (d : Cell) (b : Bool) → is_same_cell (cell_of w e.cell) d ≡ b
          → left_by (partial t.many t.stride t.ranking (e ∷ t.entries) t.crossings) (bound_of w.size d.kind) (number_of w d) ≡ (if b then e.value ∷ [] else left_by t (bound_of w.size d.kind) (number_of w d))
      at d true s =
          let number : number_of w d ≡ Some e.cell = ap (number_of w) (sym (same_cell (cell_of w e.cell) d s)) ∙ number_at w cells.some cells.once e.cell few in
          ap (left_by (partial t.many t.stride t.ranking (e ∷ t.entries) t.crossings) (bound_of w.size d.kind)) number ∙ given_there (bound_of w.size d.kind)
      at d false s = elsewhere d s (bound_of w.size d.kind) (number_of w d) refl
