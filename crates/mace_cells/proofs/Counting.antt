-- How many values are crossed off each cell.
use Rattle.std.proofs.Common.{◌≡◌, inl, inr, ℕ, zero, suc, ◌+◌, ◌*◌, ◌-◌, ◌/◌, ◌^◌, ◌<◌, ◌≤◌, ◌==◌, Bool, true, false, if◌then◌else◌, List, [], ◌∷◌, Option, None, Some, length, replicate, get_or, set, refl, sym, ap, ◌∙◌, subst, arith}
use Rattle.std.proofs.Math.Nat.{div-lt_iff_lt-mul}
use Rattle.std.proofs.lemmas.Bool.{eqb-true, eqb-false}
use Rattle.std.proofs.lemmas.List.{get_or-set_same, get_or-set_other, length-set}
use Rattle.std.proofs.lemmas.Nat.{div-mul-add}
use Rattle.std.proofs.lemmas.Bool.{cases_lt, false≢true}
use Rattle.std.proofs.lemmas.List.{length-replicate}
use Rattle.cell_ranks.proofs.Ranking.{past_flags}
use Rattle.cell_ranks.specs.Ranks.{Ranked}
use Rattle.mace_cells.specs.Trails.{crossings_of, AreCounted, partial, value_in, score, is_missing, counted_up, lowered, CanRaise, CanLower, IsRankedBy, AreFlagged, AreScored}
use Rattle.mace_cells.specs.declared.trail.TrailEntry.{TrailEntry}

pub few_crossings : (stride k : ℕ) (ks : List ℕ) → crossings_of stride k ks ≤ length ks
few_crossings stride k [] = omega arith
few_crossings stride k (j ∷ ks) = by (j / stride == k) (few_crossings stride k ks)
  where
    by : (b : Bool) → crossings_of stride k ks ≤ length ks → (if b then suc (crossings_of stride k ks) else crossings_of stride k ks) ≤ suc (length ks)
    by true h = omega (arith, h)
    by false h = omega (arith, h)

pub none_counted : (stride many : ℕ) → AreCounted stride [] (replicate many 0)
none_counted stride many k h = blank many k
  where
    blank : (n i : ℕ) → ◌≡◌ {A = ℕ} (get_or (replicate n 0) i 0) 0
    blank zero i = refl
    blank (suc n) zero = refl
    blank (suc n) (suc i) = blank n i

-- one more is crossed off
pub counted_more : (stride cell value x : ℕ) (ks counts : List ℕ) → value < stride → cell < length counts → AreCounted stride ks counts → x ≡ get_or counts cell 0 + 1
    → AreCounted stride ((cell * stride + value) ∷ ks) (set counts cell x)
counted_more stride cell value x ks counts fits within counted is k h =
    by ((cell * stride + value) / stride == k) refl
  where
    many : length (set counts cell x) ≡ length counts
    many = length-set counts cell x

    here : (cell * stride + value) / stride ≡ cell
    here = div-mul-add cell stride value fits

    by : (b : Bool) → ((cell * stride + value) / stride == k) ≡ b → get_or (set counts cell x) k 0 ≡ (if b then suc (crossings_of stride k ks) else crossings_of stride k ks)
    by true t =
        let same : cell ≡ k = sym here ∙ eqb-true _ k t in
        let old = counted cell within in
        subst (λ (j : ℕ). get_or (set counts cell x) j 0 ≡ suc (crossings_of stride j ks)) same (get_or-set_same counts cell x 0 within ∙ omega (arith, is, old))
    by false t = get_or-set_other counts cell k x 0 (λ e. eqb-false _ k t (here ∙ sym e)) ∙ counted k (omega (arith, h, many))

-- the latest is taken back
pub counted_less : (stride at x : ℕ) (ks counts : List ℕ) → at / stride < length counts → AreCounted stride (at ∷ ks) counts → x + 1 ≡ get_or counts (at / stride) 0
    → AreCounted stride ks (set counts (at / stride) x)
counted_less stride at x ks counts within counted is k h = by (at / stride == k) refl (counted k (omega (arith, h, many)))
  where
    many : length (set counts (at / stride) x) ≡ length counts
    many = length-set counts (at / stride) x

    by : (b : Bool) → (at / stride == k) ≡ b → get_or counts k 0 ≡ (if b then suc (crossings_of stride k ks) else crossings_of stride k ks) → get_or (set counts (at / stride) x) k 0 ≡ crossings_of stride k ks
    by true t old =
        let same : at / stride ≡ k = eqb-true _ k t in
        let there : get_or counts (at / stride) 0 ≡ suc (crossings_of stride k ks) = ap (λ (j : ℕ). get_or counts j 0) same ∙ old in
        subst (λ (j : ℕ). get_or (set counts (at / stride) x) j 0 ≡ crossings_of stride k ks) same (get_or-set_same counts (at / stride) x 0 within ∙ omega (arith, is, there))
    by false t old = get_or-set_other counts (at / stride) k x 0 (λ e. eqb-false _ k t (sym e)) ∙ old

-- its cell's count isn't 0
pub some_counted : (stride at : ℕ) (ks counts : List ℕ) → at / stride < length counts → AreCounted stride (at ∷ ks) counts → 0 < get_or counts (at / stride) 0
some_counted stride at ks counts within counted = by (at / stride == at / stride) refl (counted (at / stride) within)
  where
    by : (b : Bool) → (at / stride == at / stride) ≡ b → get_or counts (at / stride) 0 ≡ (if b then suc (crossings_of stride (at / stride) ks) else crossings_of stride (at / stride) ks) → 0 < get_or counts (at / stride) 0
    by true t old = omega (arith, old)
    by false t old = absurd (eqb-false _ _ t refl)

pub some_stride : (stride many at end : ℕ) → end ≡ many * stride → at < end → 0 < stride
some_stride zero many at end e h = absurd (let none : many * 0 ≡ 0 = grind arith in omega (arith, e, h, none))
some_stride (suc stride) many at end e h = omega arith

pub cell_within : (stride many at end : ℕ) → end ≡ many * stride → at < end → at / stride < many
cell_within stride many at end e h = (div-lt_iff_lt-mul {k = stride} {x = at} {y = many} (some_stride stride many at end e h)).1 (omega (arith, h, e))

-- where it counts, the scores are these counts
pub scored_more : (m : Bool) (r : Ranked) (stride cell value many : ℕ) (ks : List ℕ) → value < stride → cell < many → AreScored m stride ks many r.scores → AreScored m stride ((cell * stride + value) ∷ ks) many (counted_up m r cell).scores
scored_more false r stride cell value many ks fits within scored = scored
scored_more true r stride cell value many ks fits within scored = (
  length-set r.scores cell (get_or r.scores cell 0 + 1) ∙ scored.0,
  counted_more stride cell value (get_or r.scores cell 0 + 1) ks r.scores fits (omega (arith, within, scored.0)) scored.1 refl,
)

pub scored_less : (m : Bool) (r : Ranked) (stride at many : ℕ) (ks : List ℕ) → at / stride < many → AreScored m stride (at ∷ ks) many r.scores → AreScored m stride ks many (lowered m r (at / stride)).scores
scored_less false r stride at many ks within scored = scored
scored_less true r stride at many ks within scored =
    let here : at / stride < length r.scores = omega (arith, within, scored.0) in
    let some = some_counted stride at ks r.scores here scored.1 in (
      length-set r.scores (at / stride) (get_or r.scores (at / stride) 0 - 1) ∙ scored.0,
      counted_less stride at (get_or r.scores (at / stride) 0 - 1) ks r.scores here scored.1 (omega (arith, some)),
    )

pub can_raise : (m : Bool) (r : Ranked) (stride cell many : ℕ) (ks : List ℕ) → cell < many → length ks + 1 < 2 ^ 64 → AreScored m stride ks many r.scores → CanRaise m r cell
can_raise false r stride cell many ks within few scored = tt
can_raise true r stride cell many ks within few scored =
    let here : cell < length r.scores = omega (arith, within, scored.0) in
    (here, omega (arith, scored.1 cell here, few_crossings stride cell ks, few))

pub can_lower : (m : Bool) (r : Ranked) (stride at many : ℕ) (ks : List ℕ) → at / stride < many → AreScored m stride (at ∷ ks) many r.scores → CanLower m r (at / stride)
can_lower false r stride at many ks within scored = tt
can_lower true r stride at many ks within scored = let here : at / stride < length r.scores = omega (arith, within, scored.0) in (here, some_counted stride at ks r.scores here scored.1)

-- all else stays
pub kept_raised : (m : Bool) (r : Ranked) (k : ℕ) → ((counted_up m r k).indices ≡ r.indices) × ((counted_up m r k).free ≡ r.free)
kept_raised false r k = (refl, refl)
kept_raised true r k = (refl, refl)

pub kept_lowered : (m : Bool) (r : Ranked) (k : ℕ) → ((lowered m r k).indices ≡ r.indices) × ((lowered m r k).free ≡ r.free)
kept_lowered false r k = (refl, refl)
kept_lowered true r k = (refl, refl)

-- a cell gets a value, or loses it
pub flagged_set : (values : List (Option ℕ)) (free : List Bool) (k : ℕ) (o : Option ℕ) → k < length values → AreFlagged values free → AreFlagged (set values k o) (set free k (is_missing o))
flagged_set values free k o within flagged = record {
  many = length-set free k (is_missing o) ∙ flagged.many ∙ sym (length-set values k o);
  each = each;
}
  where
    each : (j : ℕ) → j < length (set values k o) → get_or (set free k (is_missing o)) j false ≡ is_missing (get_or (set values k o) j None)
    each j h = by (j == k) refl
      where
        by : (b : Bool) → (j == k) ≡ b → get_or (set free k (is_missing o)) j false ≡ is_missing (get_or (set values k o) j None)
        by true t =
            let same : k ≡ j = sym (eqb-true j k t) in
            subst (λ (i : ℕ). get_or (set free k (is_missing o)) i false ≡ is_missing (get_or (set values k o) i None)) same
            (get_or-set_same free k (is_missing o) false (omega (arith, within, flagged.many)) ∙ ap is_missing (sym (get_or-set_same values k o None within)))
        by false t =
            let differ = eqb-false j k t in
            get_or-set_other free k j (is_missing o) false differ ∙ flagged.each j (omega (arith, h, length-set values k o)) ∙ ap is_missing (sym (get_or-set_other values k j o None differ))

-- at first no cell has a value, and nothing is crossed off
pub flagged_at_first : (n : ℕ) → AreFlagged (replicate n None) (replicate n true)
flagged_at_first n = record { many = length-replicate n true ∙ sym (length-replicate n None); each = λ k h. both n k (omega (arith, h, length-replicate {A = Option ℕ} n None)) }
  where
    both : (m k : ℕ) → k < m → get_or (replicate m true) k false ≡ is_missing (get_or (replicate m None) k None)
    both zero k h = absurd (omega (arith, h))
    both (suc m) zero h = refl
    both (suc m) (suc k) h = both m k (omega (arith, h))

pub scored_at_first : (m : Bool) (stride n : ℕ) → AreScored m stride [] n (if m then replicate n 0 else [])
scored_at_first false stride n = refl
scored_at_first true stride n = (length-replicate n 0, none_counted stride n)

-- the cells are ranked as the steps say
pub ranked_by : (many stride : ℕ) (counts : Bool) (r : Ranked) (es : List TrailEntry) (ks : List ℕ) (values : List (Option ℕ)) → ((k : ℕ) → get_or r.indices k 0 < 256) → length values ≡ many → ((k : ℕ) → get_or values k None ≡ value_in es k) → AreFlagged values r.free → AreScored counts stride ks many r.scores
    → IsRankedBy (partial many stride (record { indices = r.indices; counts = counts }) es ks) r
ranked_by many stride counts r es ks values bytes is read flagged scored = record {
  indices = refl;
  bytes = bytes;
  blank = λ k free. let within = flag_within k free in (omega (arith, within, flagged.many, is), missing (value_in es k) (ap is_missing (sym (read k)) ∙ sym (flagged.each k (omega (arith, within, flagged.many))) ∙ free));
  free = λ k blank. flagged.each k (omega (arith, blank.0, is)) ∙ ap is_missing (read k ∙ blank.1);
  scores = score_is counts scored;
}
  where
    missing : (o : Option ℕ) → is_missing o ≡ true → o ≡ None
    missing None e = refl
    missing (Some v) e = absurd (false≢true e)

    flag_within : (k : ℕ) → get_or r.free k false ≡ true → k < length r.free
    flag_within k free = elim (cases_lt k (length r.free)) [ inl less ↦ less | inr past ↦ absurd (false≢true (sym (past_flags r.free k past) ∙ free)) ]

    score_is : (m : Bool) → AreScored m stride ks many r.scores → (k : ℕ) → k < many → get_or r.scores k 0 ≡ score (partial many stride (record { indices = r.indices; counts = counts }) es ks) m k
    score_is false h k within = ap (λ (ss : List ℕ). get_or ss k 0) h
    score_is true h k within = h.1 k (omega (arith, within, h.0))
