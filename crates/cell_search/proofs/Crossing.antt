-- A value that is crossed off a cell is left there no more, and nothing else changes.
use Rattle.std.proofs.Common.{◌≡◌, ℕ, zero, suc, ◌+◌, ◌*◌, ◌/◌, ◌<◌, ◌≤◌, ◌==◌, ◌&&◌, ◌||◌, max, Bool, true, false, not, if◌then◌else◌, List, [], ◌∷◌, Option, None, Some, inl, inr, refl, sym, ap, ◌∙◌, subst, arith}
use Rattle.std.specs.List.{filter, range_with_len}
use Rattle.std.proofs.lemmas.Bool.{eq-eqb, eqb-true}
use Rattle.std.proofs.lemmas.Nat.{div-mul-add}
use Rattle.mace_cells.specs.Trails.{Partial, partial, value_in, is_struck_off}
use Rattle.mace_cells.specs.World.{World, cell_of, many_cells}
use Rattle.mace_ground.specs.Cells.{Cell}
use Rattle.model_tables.specs.Size.{bound_of}
use Rattle.plain_search.proofs.Reaching.{cell_itself}
use Rattle.plain_search.proofs.Sounding.{same_cell}
use Rattle.plain_search.specs.Closing.{kept}
use Rattle.plain_search.specs.Lefts.{IsAmong, is_same_cell, with_left}
use Rattle.cell_search.proofs.Bounding.{bound_fits}
use Rattle.cell_search.proofs.Sounding.{cell_named}
use Rattle.cell_search.proofs.Viewing.{number_at}
use Rattle.cell_search.specs.Searchable.{HasAllCells}
use Rattle.cell_search.specs.Viewing.{number_of, uncrossed, left_at, left_by, left_in}

-- tests that agree on a list pass the same
pub same_filter : (f g : ℕ → Bool) (xs : List ℕ) → ((x : ℕ) → IsAmong x xs → f x ≡ g x) → filter f xs ≡ filter g xs
same_filter f g [] same = refl
same_filter f g (x ∷ xs) same =
    ap (λ (b : Bool). if b then x ∷ filter f xs else filter f xs) (same x (inl refl))
    ∙ ap (λ (ys : List ℕ). if g x then x ∷ ys else ys) (same_filter f g xs (λ y i. same y (inr i)))

-- what passes one test after another passes both
pub both_filter : (f g h : ℕ → Bool) → ((x : ℕ) → h x ≡ (f x && g x)) → (xs : List ℕ) → filter h xs ≡ filter f (filter g xs)
both_filter f g h same [] = refl
both_filter f g h same (x ∷ xs) = by (f x) (g x) refl (same x) (both_filter f g h same xs)
  where
    by : (a b : Bool) → f x ≡ a → h x ≡ (a && b) → filter h xs ≡ filter f (filter g xs)
        → (if h x then x ∷ filter h xs else filter h xs) ≡ filter f (if b then x ∷ filter g xs else filter g xs)
    by true true e i rest = rw (i, e) (ap (λ (ys : List ℕ). x ∷ ys) rest)
    by true false e i rest = rw i rest
    by false true e i rest = rw (i, e) rest
    by false false e i rest = rw i rest

bool_of : (a b : Bool) → (a ≡ true → b ≡ true) → (b ≡ true → a ≡ true) → a ≡ b
bool_of true b f g = sym (f refl)
bool_of false true f g = g refl
bool_of false false f g = refl

pub same_place : (a x v : ℕ) → (a + x == a + v) ≡ (x == v)
same_place a x v =
    bool_of (a + x == a + v) (x == v) (λ e. let s = eqb-true (a + x) (a + v) e in eq-eqb x v (omega (arith, s))) (λ e. let s = eqb-true x v e in eq-eqb (a + x) (a + v) (omega (arith, s)))

-- places of different cells differ
pub other_place : (s k j x v : ℕ) → x < s → v < s → (k ≡ j → ⊥) → (j * s + x == k * s + v) ≡ false
other_place s k j x v inside within other = by (j * s + x == k * s + v) refl
  where
    by : (b : Bool) → (j * s + x == k * s + v) ≡ b → b ≡ false
    by true e =
        absurd (other (sym (div-mul-add k s v within) ∙ ap (λ (y : ℕ). y / s) (sym (eqb-true (j * s + x) (k * s + v) e)) ∙ div-mul-add j s x inside))
    by false e = refl

pub not_either : (a b : Bool) → not (a || b) ≡ (not a && not b)
not_either true b = refl
not_either false b = refl

pub range_below : (a n x : ℕ) → IsAmong x (range_with_len a n) → x < a + n
range_below a zero x i = absurd i
range_below a (suc n) x (inl e) = omega (arith, e)
range_below a (suc n) x (inr i) = let less = range_below (a + 1) n x i in omega (arith, less)

module _ (w : World) (t : Partial) (k v : ℕ) (cells : HasAllCells w) (few : k < many_cells w) (stride : t.stride ≡ max w.size 2) (within : v < t.stride) (blank : value_in t.entries k ≡ None) where
  abbrev crossed : Partial
  crossed = partial t.many t.stride t.ranking t.entries ((k * t.stride + v) ∷ t.crossings)

  struck_there : (x : ℕ) → not (is_struck_off (k * t.stride + x) ((k * t.stride + v) ∷ t.crossings)) ≡ (not (x == v) && not (is_struck_off (k * t.stride + x) t.crossings))
  struck_there x =
      ap (λ (b : Bool). not (b || is_struck_off (k * t.stride + x) t.crossings)) (same_place (k * t.stride) x v)
      ∙ not_either (x == v) (is_struck_off (k * t.stride + x) t.crossings)

  pub crossed_there : (end : ℕ) → uncrossed crossed k end ≡ kept false v (uncrossed t k end)
  crossed_there end =
      both_filter (λ x. not (x == v)) (λ x. not (is_struck_off (k * t.stride + x) t.crossings)) (λ x. not (is_struck_off (k * t.stride + x) ((k * t.stride + v) ∷ t.crossings)))
      struck_there (range_with_len 0 end)

  crossed_elsewhere : (j end : ℕ) → (k ≡ j → ⊥) → end ≤ t.stride → uncrossed crossed j end ≡ uncrossed t j end
  crossed_elsewhere j end other fits =
      same_filter (λ x. not (is_struck_off (j * t.stride + x) ((k * t.stride + v) ∷ t.crossings))) (λ x. not (is_struck_off (j * t.stride + x) t.crossings)) (range_with_len 0 end)
      (λ x i. let less = range_below 0 end x i in
      ap (λ (b : Bool). not (b || is_struck_off (j * t.stride + x) t.crossings)) (other_place t.stride k j x v (omega (arith, less, fits)) within other))

  at_others : (j end : ℕ) → (k ≡ j → ⊥) → end ≤ t.stride → (o : Option ℕ) → left_at crossed j end o ≡ left_at t j end o
  at_others j end other fits None = crossed_elsewhere j end other fits
  at_others j end other fits (Some u) = refl

  others : (d : Cell) → is_same_cell (cell_of w k) d ≡ false → (o : Option ℕ) → number_of w d ≡ o → left_by crossed (bound_of w.size d.kind) o ≡ left_by t (bound_of w.size d.kind) o
  others d apart None n = refl
  others d apart (Some j) n =
      at_others j (bound_of w.size d.kind)
      (λ same. let there : cell_of w k ≡ d = ap (cell_of w) same ∙ (cell_named w d.kind d.symbol d.arguments j n).1 in
      absurd (let no : true ≡ false = sym (cell_itself (cell_of w k)) ∙ ap (is_same_cell (cell_of w k)) there ∙ apart in cc))
      (let fits = bound_fits w.size d.kind in omega (arith, fits, stride)) (value_in t.entries j)

  pub crossed_view : left_in w crossed ≡ with_left (left_in w t) (cell_of w k) (kept false v (left_in w t (cell_of w k)))
  crossed_view = λ i d. (at d (is_same_cell (cell_of w k) d) refl) i
    where
      number : number_of w (cell_of w k) ≡ Some k
      number = number_at w cells.some cells.once k few

      left_is : (end : ℕ) (p : Partial) → value_in p.entries k ≡ None → left_at p k end (value_in p.entries k) ≡ uncrossed p k end
      left_is end p none = ap (left_at p k end) none

      here : left_by crossed (bound_of w.size (cell_of w k).kind) (number_of w (cell_of w k)) ≡ kept false v (left_in w t (cell_of w k))
      here =
          let end = bound_of w.size (cell_of w k).kind in
          ap (left_by crossed end) number ∙ left_is end crossed blank ∙ crossed_there end ∙ ap (kept false v) (sym (ap (left_by t end) number ∙ left_is end t blank))

      at : (d : Cell) (b : Bool) → is_same_cell (cell_of w k) d ≡ b
          → left_by crossed (bound_of w.size d.kind) (number_of w d) ≡ (if b then kept false v (left_in w t (cell_of w k)) else left_by t (bound_of w.size d.kind) (number_of w d))
      at d true s = subst (λ (x : Cell). left_by crossed (bound_of w.size x.kind) (number_of w x) ≡ kept false v (left_in w t (cell_of w k))) (same_cell (cell_of w k) d s) here
      at d false s = others d s (number_of w d) refl
