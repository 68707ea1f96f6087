-- Steps of a partial table that lose nothing.
use Rattle.std.proofs.Common.{◌≡◌, ℕ, zero, suc, ◌+◌, ◌*◌, ◌-◌, ◌/◌, ◌%◌, ◌<◌, ◌≤◌, ◌==◌, ◌||◌, Bool, true, false, if◌then◌else◌, MatchBool, max, List, [], ◌∷◌, length, drop, Option, None, Some, refl, sym, ap, ◌∙◌, subst, arith}
use Rattle.std.proofs.lemmas.Bool.{eqb-true, eq-eqb, false≢true}
use Rattle.std.proofs.lemmas.Nat.{div-mul-add, mod-mul-add}
use Rattle.std.proofs.lemmas.Option.{none-some, same_Some}
use Rattle.std.proofs.lemmas.Bool.Decides.{nat_tests}
use Rattle.fol_core.specs.Meaning.{Meaning}
use Rattle.cell_choice.specs.Shapes.{ranking_of}
use Rattle.mace_cells.specs.Choices.{Decision, AgreesWith, IsUndecided, IsLatest}
use Rattle.mace_cells.specs.Stacked.{rest_of}
use Rattle.mace_cells.specs.Trails.{Partial, partial, value_in, is_struck_off, earliest, before_decision, latest_mark, cut_to, undone}
use Rattle.mace_cells.specs.World.{World, Solves, cell_of, many_cells}
use Rattle.mace_cells.specs.declared.trail.TrailEntry.{TrailEntry}
use Rattle.mace_ground.specs.Cells.{Cell, value_at}
use Rattle.model_tables.specs.Size.{bound_of}
use Rattle.cell_search.specs.Losses.{AreCrossedOnce, Extends, Spares, decision_of, decided_in, LosesNone, LostNone, AreFresh, IsBoard}

abbrev pub entry : ℕ → ℕ → Bool → ℕ → TrailEntry
entry cell value decided mark = record { cell = cell; value = value; decided = decided; mark = mark }

extends_more : (w : World) (m : Meaning) (e : TrailEntry) (es : List TrailEntry) → Extends w m es → value_at m (cell_of w e.cell) ≡ e.value → Extends w m (e ∷ es)
extends_more w m e es extends here = λ k u within given. by k u within (k == e.cell) refl given
  where
    by : (k u : ℕ) → k < many_cells w → (b : Bool) → (k == e.cell) ≡ b → (if b then Some e.value else value_in es k) ≡ Some u → value_at m (cell_of w k) ≡ u
    by k u within true t given = ap (λ (j : ℕ). value_at m (cell_of w j)) (eqb-true k e.cell t) ∙ here ∙ same_Some _ _ given
    by k u within false t given = extends k u within given

same_place : (s k u c v : ℕ) → u < s → v < s → k * s + u ≡ c * s + v → (k ≡ c) × (u ≡ v)
same_place s k u c v h g e = (sym (div-mul-add k s u h) ∙ ap (λ (n : ℕ). n / s) e ∙ div-mul-add c s v g, sym (mod-mul-add k s u h) ∙ ap (λ (n : ℕ). n % s) e ∙ mod-mul-add c s v g)

spares_more : (w : World) (m : Meaning) (stride cell v : ℕ) (ks : List ℕ) → v < stride → Spares w m stride ks → (value_at m (cell_of w cell) ≡ v → ⊥) → Spares w m stride ((cell * stride + v) ∷ ks)
spares_more w m stride cell v ks fits spares other = λ k u within small struck here. by k u within small (k * stride + u == cell * stride + v) refl struck here
  where
    by : (k u : ℕ) → k < many_cells w → u < stride → (b : Bool) → (k * stride + u == cell * stride + v) ≡ b → (b || is_struck_off (k * stride + u) ks) ≡ true → value_at m (cell_of w k) ≡ u → ⊥
    by k u within small true t struck here =
        let same = same_place stride k u cell v small fits (eqb-true _ _ t) in
        other (ap (λ (j : ℕ). value_at m (cell_of w j)) (sym same.0) ∙ here ∙ same.1)
    by k u within small false t struck here = spares k u within small struck here

pub earliest_more : (n k : ℕ) (ks : List ℕ) → n ≤ length ks → earliest n (k ∷ ks) ≡ earliest n ks
earliest_more n k ks h = let e : suc (length ks) - n ≡ suc (length ks - n) = omega (arith, h) in rw e refl

pub earliest_all : (ks : List ℕ) → earliest (length ks) ks ≡ ks
earliest_all ks = let e : length ks - length ks ≡ 0 = omega arith in rw e refl

lost_more : (w : World) (stride k : ℕ) (es : List TrailEntry) (ks : List ℕ) → LostNone w stride es ks → LostNone w stride es (k ∷ ks)
lost_more w stride k [] ks h = tt
lost_more w stride k (e ∷ es) ks h = by e.decided h (λ g. lost_more w stride k es ks g)
  where
    by : (b : Bool) → MatchBool b ((e.mark ≤ length ks) × LosesNone w stride es (earliest e.mark ks) × LostNone w stride es (earliest e.mark ks)) (LostNone w stride es ks) → (LostNone w stride es ks → LostNone w stride es (k ∷ ks))
        → MatchBool b ((e.mark ≤ suc (length ks)) × LosesNone w stride es (earliest e.mark (k ∷ ks)) × LostNone w stride es (earliest e.mark (k ∷ ks))) (LostNone w stride es (k ∷ ks))
    by true g rest =
        let same = earliest_more e.mark k ks g.0 in
        (omega (arith, g.0), subst (λ (js : List ℕ). LosesNone w stride es js) (sym same) g.1, subst (λ (js : List ℕ). LostNone w stride es js) (sym same) g.2)
    by false g rest = rest g

module _ (w : World) (t : Partial) (board : IsBoard w t) where
  -- a cell gets the one value that it can have
  pub assigned : (cell v mark : ℕ) → cell < many_cells w → value_in t.entries cell ≡ None → ((m : Meaning) → Solves w m → AgreesWith m (decided_in w t.entries) → value_at m (cell_of w cell) ≡ v)
      → IsBoard w (partial t.many t.stride t.ranking (entry cell v false mark ∷ t.entries) t.crossings)
  assigned cell v mark within blank only = record {
    some = board.some;
    many = board.many;
    stride = board.stride;
    ranking = board.ranking;
    fresh = (within, blank, board.fresh);
    present = λ m s agrees. let old = board.present m s agrees in (extends_more w m (entry cell v false mark) t.entries old.0 (only m s agrees), old.1);
    before = board.before;
    once = board.once;
  }

  -- a value that it can't have is crossed off
  pub crossed : (cell v : ℕ) → v < t.stride → is_struck_off (cell * t.stride + v) t.crossings ≡ false → v < bound_of w.size (cell_of w cell).kind → ((m : Meaning) → Solves w m → AgreesWith m (decided_in w t.entries) → value_at m (cell_of w cell) ≡ v → ⊥)
      → IsBoard w (partial t.many t.stride t.ranking t.entries ((cell * t.stride + v) ∷ t.crossings))
  crossed cell v fits spare small other = record {
    some = board.some;
    many = board.many;
    stride = board.stride;
    ranking = board.ranking;
    fresh = board.fresh;
    present = λ m s agrees. let old = board.present m s agrees in (old.0, spares_more w m t.stride cell v t.crossings fits old.1 (other m s agrees));
    before = lost_more w t.stride (cell * t.stride + v) t.entries t.crossings board.before;
    once = (spare, rw (mod-mul-add cell t.stride v fits, div-mul-add cell t.stride v fits) small, board.once);
  }

  -- a value is decided
  pub decided : (cell v : ℕ) → cell < many_cells w → value_in t.entries cell ≡ None → IsBoard w (partial t.many t.stride t.ranking (entry cell v true (length t.crossings) ∷ t.entries) t.crossings)
  decided cell v within blank =
      let same = earliest_all t.crossings in record {
        some = board.some;
        many = board.many;
        stride = board.stride;
        ranking = board.ranking;
        fresh = (within, blank, board.fresh);
        present = λ m s agrees. let old = board.present m s agrees.1 in (extends_more w m (entry cell v true (length t.crossings)) t.entries old.0 agrees.0, old.1);
        before = (omega arith, subst (λ (js : List ℕ). LosesNone w t.stride t.entries js) (sym same) board.present, subst (λ (js : List ℕ). LostNone w t.stride t.entries js) (sym same) board.before);
        once = board.once;
      }

pub struck_off : (w : World) (t t' : Partial) (end cell v : ℕ) → IsBoard w t → v < end → end ≤ max w.size 2 → is_struck_off (cell * t.stride + v) t.crossings ≡ false → end ≡ bound_of w.size (cell_of w cell).kind → ((m : Meaning) → Solves w m → AgreesWith m (decided_in w t.entries) → value_at m (cell_of w cell) ≡ v → ⊥)
    → t' ≡ partial t.many t.stride t.ranking t.entries ((cell * t.stride + v) ∷ t.crossings) → IsBoard w t'
struck_off w t t' end cell v board below fits spare bound other is = rw is (crossed w t board cell v (omega (arith, below, fits, board.stride)) spare (omega (arith, below, bound)) other)

-- what is left of crossings
once_drop : (w : World) (stride n : ℕ) (ks : List ℕ) → AreCrossedOnce w stride ks → AreCrossedOnce w stride (drop n ks)
once_drop w stride zero ks once = once
once_drop w stride (suc n) [] once = once
once_drop w stride (suc n) (k ∷ ks) once = once_drop w stride n ks once.2

once_cut : (w : World) (stride : ℕ) (o : Option ℕ) (ks : List ℕ) → AreCrossedOnce w stride ks → AreCrossedOnce w stride (cut_to o ks)
once_cut w stride None ks once = once
once_cut w stride (Some mark) ks once = once_drop w stride (length ks - mark) ks once

-- what is left when the latest decision is taken back
record IsTakenBack (w : World) (stride : ℕ) (es : List TrailEntry) (ks : List ℕ) : Type 0 where
  pub fresh : AreFresh w (before_decision es)
  pub present : LosesNone w stride (before_decision es) (cut_to (latest_mark es) ks)
  pub before : LostNone w stride (before_decision es) (cut_to (latest_mark es) ks)
  pub decided : decided_in w (before_decision es) ≡ rest_of (decided_in w es)
  pub reopened : (j : ℕ) × ((j < many_cells w) × (value_in (before_decision es) j ≡ None) × IsLatest (decided_in w es) (cell_of w j))

taken_back : (w : World) (stride : ℕ) (es : List TrailEntry) (ks : List ℕ) → AreFresh w es → LostNone w stride es ks → 0 < length (decided_in w es) → IsTakenBack w stride es ks
taken_back w stride [] ks fresh lost some = absurd (omega (arith, some))
taken_back w stride (e ∷ es) ks fresh lost some = by e.decided refl lost some (λ l s. taken_back w stride es ks fresh.2 l s)
  where
    by : (b : Bool) → e.decided ≡ b → MatchBool b ((e.mark ≤ length ks) × LosesNone w stride es (earliest e.mark ks) × LostNone w stride es (earliest e.mark ks)) (LostNone w stride es ks)
        → 0 < length (if b then decision_of w e ∷ decided_in w es else decided_in w es) → (LostNone w stride es ks → 0 < length (decided_in w es) → IsTakenBack w stride es ks) → IsTakenBack w stride (e ∷ es) ks
    by true t l s rest = rw t record { fresh = fresh.2; present = l.1; before = l.2; decided = refl; reopened = (e.cell, (fresh.0, fresh.1, refl)) }
    by false t l s rest = let r = rest l s in rw t record { fresh = r.fresh; present = r.present; before = r.before; decided = r.decided; reopened = r.reopened }

pub taken : (w : World) (t : Partial) → IsBoard w t → 0 < length (decided_in w t.entries) → IsBoard w (undone t) × (decided_in w (before_decision t.entries) ≡ rest_of (decided_in w t.entries))
taken w t board some =
    let b = taken_back w t.stride t.entries t.crossings board.fresh board.before some in
    (record { some = board.some; many = board.many; stride = board.stride; ranking = board.ranking; fresh = b.fresh; present = b.present; before = b.before; once = once_cut w t.stride (latest_mark t.entries) t.crossings board.once }, b.decided)

-- the cell of the latest decision has no value then
pub reopened : (w : World) (t : Partial) → IsBoard w t → ((j k : ℕ) → j < many_cells w → k < many_cells w → cell_of w j ≡ cell_of w k → j ≡ k) → 0 < length (decided_in w t.entries)
    → (k : ℕ) → k < many_cells w → IsLatest (decided_in w t.entries) (cell_of w k) → value_in (before_decision t.entries) k ≡ None
reopened w t board once some k within latest =
    let b = taken_back w t.stride t.entries t.crossings board.fresh board.before some in
    let same : b.reopened.0 ≡ k = once b.reopened.0 k b.reopened.1.0 within (one_latest (decided_in w t.entries) _ _ b.reopened.1.2 latest) in
    ap (value_in (before_decision t.entries)) (sym same) ∙ b.reopened.1.1
  where
    one_latest : (ds : List Decision) (c d : Cell) → IsLatest ds c → IsLatest ds d → c ≡ d
    one_latest [] c d h g = absurd h
    one_latest (e ∷ ds) c d h g = sym h ∙ g

-- what has the values of the table agrees with what was decided
pub agrees_all : (w : World) (m : Meaning) (es : List TrailEntry) → AreFresh w es → Extends w m es → AgreesWith m (decided_in w es)
agrees_all w m [] fresh extends = tt
agrees_all w m (e ∷ es) fresh extends = by e.decided (agrees_all w m es fresh.2 (λ k v within given. extends k v within (later k v given)))
  where
    later : (k v : ℕ) → value_in es k ≡ Some v → value_in (e ∷ es) k ≡ Some v
    later k v given = other (k == e.cell) refl
      where
        other : (b : Bool) → (k == e.cell) ≡ b → (if b then Some e.value else value_in es k) ≡ Some v
        other true t = absurd (none-some _ (sym fresh.1 ∙ ap (value_in es) (sym (eqb-true k e.cell t)) ∙ given))
        other false t = given

    here : value_at m (cell_of w e.cell) ≡ e.value
    here = extends e.cell e.value fresh.0 (let same : (e.cell == e.cell) ≡ true = grind (arith, nat_tests) in rw same refl)

    by : (b : Bool) → AgreesWith m (decided_in w es) → AgreesWith m (if b then decision_of w e ∷ decided_in w es else decided_in w es)
    by true rest = (here, rest)
    by false rest = rest

-- no decision is one of a cell that has no value
pub undecided_by : (w : World) → ((j k : ℕ) → j < many_cells w → k < many_cells w → cell_of w j ≡ cell_of w k → j ≡ k) → (es : List TrailEntry) (k : ℕ) → AreFresh w es → k < many_cells w → value_in es k ≡ None → IsUndecided (decided_in w es) (cell_of w k)
undecided_by w differ [] k fresh within none = tt
undecided_by w differ (e ∷ es) k fresh within none = by (k == e.cell) e.decided refl none (λ given. undecided_by w differ es k fresh.2 within given)
  where
    other : (k == e.cell) ≡ false → cell_of w e.cell ≡ cell_of w k → ⊥
    other t same = false≢true (sym t ∙ eq-eqb k e.cell (sym (differ e.cell k fresh.0 within same)))

    by : (b d : Bool) → (k == e.cell) ≡ b → (if b then Some e.value else value_in es k) ≡ None → (value_in es k ≡ None → IsUndecided (decided_in w es) (cell_of w k))
        → IsUndecided (if d then decision_of w e ∷ decided_in w es else decided_in w es) (cell_of w k)
    by true d t given rest = absurd (none-some _ (sym given))
    by false true t given rest = (other t, rest given)
    by false false t given rest = rest given

-- what gets a value leaves what others have
pub kept_by : (e : TrailEntry) (es : List TrailEntry) → value_in es e.cell ≡ None → (k u : ℕ) → value_in es k ≡ Some u → value_in (e ∷ es) k ≡ Some u
kept_by e es blank k u h = by (k == e.cell) refl
  where
    by : (b : Bool) → (k == e.cell) ≡ b → (if b then Some e.value else value_in es k) ≡ Some u
    by true t = absurd (none-some u (sym blank ∙ ap (λ (j : ℕ). value_in es j) (sym (eqb-true k e.cell t)) ∙ h))
    by false t = h
