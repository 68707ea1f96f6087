-- Tables by values alone, and that what more values tell suffices for what fewer told.
use Rattle.std.proofs.Common.{◌≡◌, ℕ, zero, suc, ◌+◌, ◌*◌, ◌<◌, ◌≤◌, ◌==◌, max, Bool, true, false, not, if◌then◌else◌, List, [], ◌∷◌, length, Option, None, Some, inl, inr, refl, sym, ap, ◌∙◌, subst, arith}
use Rattle.std.specs.List.{range_with_len}
use Rattle.std.proofs.lemmas.Option.{none-some, same_Some}
use Rattle.fol_core.specs.Literals.{ClauseTree}
use Rattle.fol_core.specs.Truth.{Assignment}
use Rattle.mace_cells.specs.Trails.{Partial, value_in, is_struck_off}
use Rattle.mace_cells.specs.World.{World, many_cells}
use Rattle.mace_cells.specs.declared.trail.TrailEntry.{TrailEntry}
use Rattle.model_tables.specs.Size.{bound_of}
use Rattle.plain_search.proofs.Rising.{passed}
use Rattle.plain_search.proofs.Solved.{among_range}
use Rattle.plain_search.proofs.Waking.{look_suffices}
use Rattle.plain_search.specs.Fitting as plain
use Rattle.plain_search.specs.Lefts.{ValuesLeft, IsAmong, only_value}
use Rattle.plain_search.specs.Orders.{IsRisingFrom, IsTable, IsNarrower, Obeys}
use Rattle.cell_search.proofs.Bounding.{bound_fits}
use Rattle.cell_search.proofs.Crossing.{range_below}
use Rattle.cell_search.proofs.Sounding.{cell_named}
use Rattle.cell_search.proofs.Telling.{told_as_seen}
use Rattle.cell_search.proofs.Viewing.{number_at}
use Rattle.cell_search.specs.Searchable.{HasAllCells}
use Rattle.cell_search.specs.Telling.{HasValues, told_seen}
use Rattle.cell_search.specs.Viewing.{number_of, left_at, left_by, left_in}

-- what a cell has left by its value alone: those below a number, where it has none
abbrev left_of : ℕ → Option ℕ → List ℕ
left_of big None = range_with_len 0 big
left_of big (Some v) = v ∷ []

abbrev value_of : List TrailEntry → Option ℕ → Option ℕ
value_of es None = None
value_of es (Some k) = value_in es k

abbrev pub values_of : World → ℕ → List TrailEntry → ValuesLeft
values_of w big es = λ c. left_of big (value_of es (number_of w c))

-- a number above all values
abbrev pub above_values : List TrailEntry → ℕ
above_values [] = 0
above_values (e ∷ es) = max (suc e.value) (above_values es)

pub value_small : (es : List TrailEntry) (k v : ℕ) → value_in es k ≡ Some v → v < above_values es
value_small [] k v h = absurd (none-some v h)
value_small (e ∷ es) k v h = by (k == e.cell) h (value_small es k v)
  where
    by : (b : Bool) → (if b then Some e.value else value_in es k) ≡ Some v → (value_in es k ≡ Some v → v < above_values es) → v < max (suc e.value) (above_values es)
    by true g rest = let same = same_Some e.value v g in omega (arith, same)
    by false g rest = let less = rest g in omega (arith, less)

pub rising_range : (a n : ℕ) → IsRisingFrom a (range_with_len a n)
rising_range a zero = tt
rising_range a (suc n) = (omega arith, subst (λ (b : ℕ). IsRisingFrom b (range_with_len (a + 1) n)) (next a) (rising_range (a + 1) n))
  where
    next : (b : ℕ) → b + 1 ≡ suc b
    next b = omega arith

some_range : (a n : ℕ) → 0 < n → 0 < length (range_with_len a n)
some_range a zero some = absurd (omega (arith, some))
some_range a (suc n) some = omega arith

module _ (w : World) (big : ℕ) (two : 2 ≤ big) where
  values_table : (es : List TrailEntry) → IsTable (values_of w big es)
  values_table es c = by (value_of es (number_of w c))
    where
      by : (o : Option ℕ) → IsRisingFrom 0 (left_of big o) × (0 < length (left_of big o))
      by None = (rising_range 0 big, some_range 0 big (omega (arith, two)))
      by (Some v) = ((omega arith, tt), omega arith)

  no_only : (n : ℕ) → 2 ≤ n → only_value (range_with_len 0 n) ≡ None
  no_only zero h = absurd (omega (arith, h))
  no_only (suc zero) h = absurd (omega (arith, h))
  no_only (suc (suc n)) h = refl

  have_values : (es : List TrailEntry) → HasAllCells w → HasValues w es (values_of w big es)
  have_values es cells k few =
      ap (λ (o : Option ℕ). only_value (left_of big (value_of es o))) (number_at w cells.some cells.once k few) ∙ by (value_in es k)
    where
      by : (o : Option ℕ) → only_value (left_of big o) ≡ o
      by None = no_only big two
      by (Some v) = refl

  -- more values make a narrower table
  pub fewer_values : (es es' : List TrailEntry) → ((k v : ℕ) → k < many_cells w → value_in es k ≡ Some v → value_in es' k ≡ Some v) → above_values es' ≤ big → IsNarrower (values_of w big es') (values_of w big es)
  fewer_values es es' keeps small c v i = by (number_of w c) refl i
    where
      inner : (k : ℕ) → k < many_cells w → (o p : Option ℕ) → value_in es k ≡ o → value_in es' k ≡ p → IsAmong v (left_of big p) → IsAmong v (left_of big o)
      inner k few None None a b j = j
      inner k few None (Some u) a b (inl same) =
          let less = value_small es' k u b in
          among_range v 0 big (omega arith) (omega (arith, same, less, small))
      inner k few None (Some u) a b (inr j) = absurd j
      inner k few (Some u) p a b j = subst (λ (q : Option ℕ). IsAmong v (left_of big q)) (sym b ∙ keeps k u few a) j

      by : (o : Option ℕ) → number_of w c ≡ o → IsAmong v (left_of big (value_of es' o)) → IsAmong v (left_of big (value_of es o))
      by None n j = j
      by (Some k) n j = inner k (cell_named w c.kind c.symbol c.arguments k n).0 (value_in es k) (value_in es' k) refl refl j

  -- and the table of a search is narrower than that of its values
  pub left_narrower : (t : Partial) → max w.size 2 ≤ big → IsNarrower (left_in w t) (values_of w big t.entries)
  left_narrower t wide c v i = by (number_of w c) i
    where
      small : v < bound_of w.size c.kind → IsAmong v (range_with_len 0 big)
      small less = let fits = bound_fits w.size c.kind in among_range v 0 big (omega arith) (omega (arith, less, fits, wide))

      inner : (k : ℕ) (o : Option ℕ) → IsAmong v (left_at t k (bound_of w.size c.kind) o) → IsAmong v (left_of big o)
      inner k None j =
          small (let less = range_below 0 (bound_of w.size c.kind) v (passed (λ x. not (is_struck_off (k * t.stride + x) t.crossings)) v (range_with_len 0 (bound_of w.size c.kind)) j).0 in omega (arith, less))
      inner k (Some u) j = j

      by : (o : Option ℕ) → IsAmong v (left_by t (bound_of w.size c.kind) o) → IsAmong v (left_of big (value_of t.entries o))
      by None j = small (let less = range_below 0 (bound_of w.size c.kind) v j in omega (arith, less))
      by (Some k) j = inner k (value_in t.entries k) j

  pub told_wider : (es es' : List TrailEntry) (r : ValuesLeft) (f : Assignment) (c : ClauseTree) → HasAllCells w → plain.IsClauseOfCells w c → ((k v : ℕ) → k < many_cells w → value_in es k ≡ Some v → value_in es' k ≡ Some v) → above_values es' ≤ big
      → IsNarrower r (values_of w big es') → Obeys r (told_seen w es' f c) → Obeys r (told_seen w es f c)
  told_wider es es' r f c cells fits keeps small within obeys =
      subst (Obeys r) (told_as_seen w es (values_of w big es) f c (have_values es cells) fits)
      (look_suffices w.size (values_of w big es) (values_of w big es') r f c (values_table es') (fewer_values es es' keeps small) within
      (subst (Obeys r) (sym (told_as_seen w es' (values_of w big es') f c (have_values es' cells) fits)) obeys))
