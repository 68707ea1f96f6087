-- What was told is done, and stays so.
use Rattle.std.proofs.Common.{◌≡◌, ℕ, zero, suc, ◌+◌, ◌*◌, ◌<◌, Bool, true, false, not, if◌then◌else◌, MatchBool, List, [], ◌∷◌, length, map, get_or, Option, None, Some, inl, inr, refl, sym, ap, ◌∙◌, subst, arith}
use Rattle.std.specs.List.{range_with_len}
use Rattle.std.proofs.lemmas.Option.{none-some, same_Some}
use Rattle.fol_core.specs.Literals.{ClauseTree}
use Rattle.mace_cells.specs.Trails.{Partial, value_in, is_struck_off}
use Rattle.mace_cells.specs.World.{World, cell_of}
use Rattle.mace_ground.specs.Cells.{Cell}
use Rattle.mace_ground.specs.Instances.{assigned_by}
use Rattle.model_tables.specs.Size.{bound_of}
use Rattle.plain_search.proofs.Reaching.{cell_itself}
use Rattle.plain_search.proofs.Rising.{all_left_table, kept_among, pass_below, rising_filter}
use Rattle.plain_search.proofs.Waking.{look_suffices}
use Rattle.plain_search.specs.Closing.{Told, nothing, contradiction, asks, kept, narrowed, followed}
use Rattle.plain_search.specs.Lefts.{ValuesLeft, IsAmong, with_left}
use Rattle.plain_search.specs.Orders.{IsRisingFrom, IsTable, IsNarrower, Obeys}
use Rattle.cell_search.proofs.Sounding.{cell_named}
use Rattle.cell_search.proofs.Viewing.{is_uncrossed}
use Rattle.cell_search.specs.Asking.{IsWellLeft}
use Rattle.cell_search.specs.Covering.{IsDone}
use Rattle.cell_search.specs.Following.{AreWellLeft, GoesOver}
use Rattle.cell_search.specs.Searchable.{HasAllCells}
use Rattle.cell_search.specs.Viewing.{number_of, uncrossed, left_at, left_by, left_in}

-- doing what is told does it
as_asked : (q : ValuesLeft) (c : Cell) (v : ℕ) (positive : Bool) → ((x : ℕ) → IsAmong x (q c) → MatchBool positive (x ≡ v) (x ≡ v → ⊥)) → Obeys q (asks c v positive)
as_asked q c v true f = f
as_asked q c v false f = λ i. f v i refl

narrowed_obeyed : (p q : ValuesLeft) (c : Cell) (v : ℕ) (positive : Bool) (us : List ℕ) → kept positive v (p c) ≡ us → narrowed p c us ≡ Some q → Obeys q (asks c v positive)
narrowed_obeyed p q c v positive [] is did = absurd (none-some _ did)
narrowed_obeyed p q c v positive (u ∷ us) is did =
    let put : with_left p c (u ∷ us) c ≡ u ∷ us = ap (λ (b : Bool). if b then u ∷ us else p c) (cell_itself c) in
    let here : q c ≡ kept positive v (p c) = sym (ap (λ (f : ValuesLeft). f c) (same_Some _ _ did)) ∙ put ∙ sym is in
    as_asked q c v positive (λ x i. (kept_among positive v x (p c) (subst (IsAmong x) here i)).1)

pub followed_obeyed : (p q : ValuesLeft) (t : Told) → followed p t ≡ Some q → Obeys q t
followed_obeyed p q nothing did = tt
followed_obeyed p q contradiction did = absurd (none-some _ did)
followed_obeyed p q (asks c v positive) did = narrowed_obeyed p q c v positive (kept positive v (p c)) refl did

pub obeyed_still : (q r : ValuesLeft) (t : Told) → IsNarrower r q → Obeys q t → Obeys r t
obeyed_still q r nothing within obeys = tt
obeyed_still q r contradiction within obeys = obeys
obeyed_still q r (asks c v true) within obeys = λ u i. obeys u (within c u i)
obeyed_still q r (asks c v false) within obeys = λ i. obeys (within c v i)

-- a table in which each cell has a value or two left
nonempty : (x : ℕ) (xs : List ℕ) → IsAmong x xs → 0 < length xs
nonempty x [] i = absurd i
nonempty x (y ∷ ys) i = omega arith

module _ (w : World) (t : Partial) (cells : HasAllCells w) (well : AreWellLeft w t) where
  whole : (c : Cell) → IsRisingFrom 0 (range_with_len 0 (bound_of w.size c.kind)) × (0 < length (range_with_len 0 (bound_of w.size c.kind)))
  whole c = all_left_table w cells.some c

  left_table : (c : Cell) (k : ℕ) → IsWellLeft w t k → cell_of w k ≡ c → (o : Option ℕ) → value_in t.entries k ≡ o
      → IsRisingFrom 0 (left_at t k (bound_of w.size c.kind) o) × (0 < length (left_at t k (bound_of w.size c.kind) o))
  left_table c k here is (Some v) given = ((omega arith, tt), omega arith)
  left_table c k (inl g) is None given = absurd (none-some g.0 (sym given ∙ g.1))
  left_table c k (inr two) is None given =
      let less = two.2.0 in
      let small : two.1 < bound_of w.size c.kind = subst (λ (d : Cell). two.1 < bound_of w.size d.kind) is two.2.1 in (
        rising_filter (λ v. not (is_struck_off (k * t.stride + v) t.crossings)) 0 (range_with_len 0 (bound_of w.size c.kind)) (whole c).0,
        nonempty two.1 (uncrossed t k (bound_of w.size c.kind)) (is_uncrossed t k (bound_of w.size c.kind) two.1 small two.2.3),
      )

  pub table_of : IsTable (left_in w t)
  table_of c = by (number_of w c) refl
    where
      by : (o : Option ℕ) → number_of w c ≡ o → IsRisingFrom 0 (left_by t (bound_of w.size c.kind) o) × (0 < length (left_by t (bound_of w.size c.kind) o))
      by None n = whole c
      by (Some k) n = let named = cell_named w c.kind c.symbol c.arguments k n in left_table c k (well k named.0) named.1 (value_in t.entries k) refl

  pub narrower_than : (t' : Partial) → GoesOver w t true t' → IsNarrower (left_in w t') (left_in w t)
  narrower_than t' goes = let a = goes cells well in (pass_below w.size a.0.0 (left_in w t) (left_in w t') table_of a.0.1.1).1

  -- it goes from one table to a second and a third; what the second told and the third does, it does
  -- also as the first told it
  pub done_before : (c : ClauseTree) (xs : List ℕ) (u v : Partial) → GoesOver w t true u → IsTable (left_in w u) → IsNarrower (left_in w v) (left_in w u) → IsDone w c xs u v → IsDone w c xs t v
  done_before c xs u v goes table within done =
      look_suffices w.size (left_in w t) (left_in w u) (left_in w v) (assigned_by xs) c table (narrower_than u goes) within done

-- the clause of a row
pub clause_of_row : (rows : List (ℕ × ClauseTree)) (cs : List ClauseTree) (i : ℕ) (row : ℕ × ClauseTree) (c : ClauseTree) → map (λ r. r.1) rows ≡ cs → i < length rows → row ≡ get_or rows i row
    → c ≡ get_or cs i c → row.1 ≡ c
clause_of_row rows cs i row c same within is at = by rows i within is (at ∙ ap (λ (ds : List ClauseTree). get_or ds i c) (sym same))
  where
    by : (rows : List (ℕ × ClauseTree)) (i : ℕ) → i < length rows → row ≡ get_or rows i row → c ≡ get_or (map (λ r. r.1) rows) i c → row.1 ≡ c
    by [] i within is at = absurd (omega (arith, within))
    by (r ∷ rows) zero within is at = ap (λ (q : ℕ × ClauseTree). q.1) is ∙ sym at
    by (r ∷ rows) (suc i) within is at = by rows i (omega (arith, within)) is at
