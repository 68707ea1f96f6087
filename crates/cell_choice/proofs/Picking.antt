-- The cell that is chosen.
use Rattle.std.proofs.Common.{◌≡◌, inl, inr, ℕ, ◌<◌, ◌≤◌, ◌&&◌, ◌==◌, nat_lt, nat_le, min, max, is_none, suc, Bool, true, false, get_or, List, Option, None, Some, refl, sym, ap, ◌∙◌, arith}
use Rattle.std.specs.Prelude.{◌⊎◌}
use Rattle.std.proofs.lemmas.Bool.{or_cases, and_parts, cases_lt, eqb-true, false≢true, le-leb, leb-true, lt-ltb, ltb-true}
use Rattle.std.proofs.lemmas.Bool.Decides.{nat_tests}
use Rattle.cell_choice.specs.Choosing.{IsOfLeastIndex, IsCandidate, IsPreferred, IsPicked, IsLimit, IsHighest, index_up_to, limit_by, index_by, is_higher, is_up_to}
use Rattle.cell_ranks.specs.Ranks.{Ranked, IsFree, rank_index, IsEligible, IsForemost}
use Rattle.cell_ranks.specs.Tournaments.{is_before}
use Rattle.mace_cells.specs.declared.way.Candidates.{Candidates}
use Rattle.mace_cells.specs.declared.way.Candidates.TheVariants.{All, LeastIndex, InUse}
use Rattle.mace_cells.specs.Trails.{Partial, IsBlank, score, value_in, IsRankedBy}

-- the first in rank is the one that is preferred
module _ (t : Partial) (r : Ranked) (ranked : IsRankedBy t r) where
  same_index : (k : ℕ) → rank_index r k ≡ index_by t k
  same_index k = ap (λ (xs : List ℕ). get_or xs k 0) ranked.indices

  least_of_blank : (k : ℕ) → ((j : ℕ) → IsFree r j → rank_index r k ≤ rank_index r j) → IsOfLeastIndex (index_by t) t k
  least_of_blank k least j blank = let le = least j (ranked.free j blank) in omega (arith, le, same_index k, same_index j)

  least_of_free : (k : ℕ) → IsOfLeastIndex (index_by t) t k → (j : ℕ) → IsFree r j → rank_index r k ≤ rank_index r j
  least_of_free k least j free = let le = least j (ranked.blank j free) in omega (arith, le, same_index k, same_index j)

  pub candidate : (c : Candidates) (used k : ℕ) → IsEligible r (index_up_to c used) k → IsCandidate (index_by t) t c used k
  candidate All used k h = ranked.blank k h.0
  candidate LeastIndex used k h = (ranked.blank k h.0, elim h.1 [ inl none ↦ (λ j blank. omega (arith, none, same_index k)) | inr least ↦ least_of_blank k least ])
  candidate InUse used k h = (ranked.blank k h.0, elim h.1 [ inl low ↦ inl (omega (arith, low, same_index k)) | inr least ↦ inr (least_of_blank k least) ])

  eligible : (c : Candidates) (used k : ℕ) → IsCandidate (index_by t) t c used k → IsEligible r (index_up_to c used) k
  eligible All used k h = (ranked.free k h, inl (omega (arith, ranked.bytes k)))
  eligible LeastIndex used k h = (ranked.free k h.0, inr (least_of_free k h.1))
  eligible InUse used k h = (ranked.free k h.0, elim h.1 [ inl low ↦ inl (omega (arith, low, same_index k, ranked.bytes k)) | inr least ↦ inr (least_of_free k least) ])

  abbrev rank_score : ℕ → ℕ
  rank_score k = score t t.ranking.counts k

  preferred : (k j : ℕ) → k < t.many → j < t.many → is_before r.scores k j ≡ true → IsPreferred rank_score k j
  preferred k j h g before =
      let first : get_or r.scores k 0 ≡ score t t.ranking.counts k = ranked.scores k h in
      let second : get_or r.scores j 0 ≡ score t t.ranking.counts j = ranked.scores j g in
      elim (or_cases (nat_lt (get_or r.scores j 0) (get_or r.scores k 0)) (get_or r.scores j 0 == get_or r.scores k 0 && nat_le k j) before) [
        | inl less ↦ (let below : get_or r.scores j 0 < get_or r.scores k 0 = grind (arith, nat_tests, less) in inl (omega (arith, below, first, second)))
        | inr both ↦ (
            let parts = and_parts (get_or r.scores j 0 == get_or r.scores k 0) (nat_le k j) both in
            let alike : get_or r.scores j 0 ≡ get_or r.scores k 0 = eqb-true _ _ parts.0 in
            let order : k ≤ j = grind (arith, nat_tests, parts.1) in
            inr (omega (arith, alike, first, second), order))
      ]

  pub foremost_picked : (c : Candidates) (used k : ℕ) → IsForemost r (index_up_to c used) k → IsPicked (index_by t) t rank_score c used k
  foremost_picked c used k h = (
    candidate c used k h.0,
    λ j d. (let other = eligible c used j d in preferred k j (ranked.blank k h.0.0).0 (ranked.blank j other.0).0 (h.1 j other)),
  )

-- where indices are the same, so are the candidates and what is chosen
module _ (f g : ℕ → ℕ) (t : Partial) (same : (k : ℕ) → k < t.many → f k ≡ g k) where
  least_alike : (k : ℕ) → IsBlank t k → IsOfLeastIndex f t k → IsOfLeastIndex g t k
  least_alike k blank h j other = let less = h j other in omega (arith, less, same k blank.0, same j other.0)

  candidate_alike : (c : Candidates) (used k : ℕ) → IsCandidate f t c used k → IsCandidate g t c used k
  candidate_alike All used k h = h
  candidate_alike LeastIndex used k h = (h.0, least_alike k h.0 h.1)
  candidate_alike InUse used k h = (h.0, elim h.1 [ inl e ↦ inl (omega (arith, e, same k h.0.0)) | inr e ↦ inr (least_alike k h.0 e) ])

pub picked_alike : (f g : ℕ → ℕ) (t : Partial) (h : ℕ → ℕ) (c : Candidates) (used k : ℕ) → ((k : ℕ) → k < t.many → f k ≡ g k) → IsPicked f t h c used k → IsPicked g t h c used k
picked_alike f g t h c used k same picked = (candidate_alike f g t same c used k picked.0, λ j d. picked.1 j (candidate_alike g f t (λ i below. sym (same i below)) c used j d))

-- what is chosen is a cell without a value
pub candidate_blank : (index : ℕ → ℕ) (t : Partial) (c : Candidates) (used k : ℕ) → IsCandidate index t c used k → IsBlank t k
candidate_blank index t All used k h = h
candidate_blank index t LeastIndex used k h = h.0
candidate_blank index t InUse used k h = h.0

pub picked_blank : (index : ℕ → ℕ) (t : Partial) (f : ℕ → ℕ) (c : Candidates) (used k : ℕ) → IsPicked index t f c used k → IsBlank t k
picked_blank index t f c used k h = candidate_blank index t c used k h.0

-- a blank cell of the least index tells up to which index the candidates are
pub limit_is : (t : Partial) (c : Candidates) (used first : ℕ) → IsBlank t first → IsOfLeastIndex (index_by t) t first → ((k : ℕ) → index_by t k < 256) → IsLimit (index_by t) t c used (limit_by c used (index_by t first))
limit_is t All used first here least bytes = record { some = (first, here); none_beyond = λ k h. omega (arith, bytes k); each = λ k h low. h }
limit_is t LeastIndex used first here least bytes = record {
  some = (first, (here, least));
  none_beyond = λ k h. (let e = h.1 first here in omega (arith, e));
  each = λ k h low. (h, λ j other. (let more = least j other in omega (arith, low, more)));
}
limit_is t InUse used first here least bytes = record {
  some = (first, (here, inr least));
  none_beyond = λ k h. elim h.1 [ inl low ↦ omega (arith, low, bytes k) | inr lowest ↦ (let e = lowest first here in omega (arith, e)) ];
  each = λ k h low. (h, by k low (cases_lt (min used 255) (index_by t k)));
}
  where
    by : (k : ℕ) → index_by t k ≤ max (min used 255) (index_by t first) → (min used 255 < index_by t k) ⊎ (index_by t k ≤ min used 255) → (index_by t k ≤ used) ⊎ IsOfLeastIndex (index_by t) t k
    by k low (inl above) = inr (λ j other. (let more = least j other in omega (arith, low, above, more)))
    by k low (inr below) = inl (omega (arith, below))

-- a test tells the blank cells up to a limit
pub up_to_is : (t : Partial) (limit k : ℕ) → IsBlank t k → index_by t k ≤ limit → is_up_to t limit k ≡ true
up_to_is t limit k blank low = ap (λ (o : Option ℕ). is_none o && nat_le (index_by t k) limit) blank.1 ∙ le-leb (index_by t k) limit low

pub is_up_to_limit : (t : Partial) (limit k : ℕ) → k < t.many → is_up_to t limit k ≡ true → IsBlank t k × (index_by t k ≤ limit)
is_up_to_limit t limit k few h =
    let parts = and_parts (is_none (value_in t.entries k)) (nat_le (index_by t k) limit) h in
    ((few, none_of (value_in t.entries k) parts.0), leb-true (index_by t k) limit parts.1)
  where
    none_of : (o : Option ℕ) → is_none o ≡ true → o ≡ None
    none_of None h = refl
    none_of (Some v) h = absurd (false≢true h)

-- the first of the greatest score up to the limit is picked, and there is one
pub highest_picked : (t : Partial) (f : ℕ → ℕ) (c : Candidates) (used limit k : ℕ) → IsLimit (index_by t) t c used limit → IsHighest (is_up_to t limit) f t.many (Some k) → IsPicked (index_by t) t f c used k
highest_picked t f c used limit k bound (few, is, most) =
    let here = is_up_to_limit t limit k few is in (
      bound.each k here.0 here.1,
      λ j chosen. (let blank = candidate_blank (index_by t) t c used j chosen in most j blank.0 (up_to_is t limit j blank (bound.none_beyond j chosen))),
    )

pub highest_is_some : (t : Partial) (f : ℕ → ℕ) (c : Candidates) (used limit : ℕ) → IsLimit (index_by t) t c used limit → IsHighest (is_up_to t limit) f t.many None → ⊥
highest_is_some t f c used limit bound none =
    let k = bound.some.0 in
    let blank = candidate_blank (index_by t) t c used k bound.some.1 in
    false≢true (sym (none k blank.0) ∙ up_to_is t limit k blank (bound.none_beyond k bound.some.1))

-- where scores of candidates are the same, so is what is picked
pub picked_as : (index : ℕ → ℕ) (t : Partial) (f g : ℕ → ℕ) (c : Candidates) (used k : ℕ) → ((j : ℕ) → IsCandidate index t c used j → f j ≡ g j) → IsPicked index t f c used k → IsPicked index t g c used k
picked_as index t f g c used k same h = (h.0, λ j chosen. by j chosen (h.1 j chosen))
  where
    by : (j : ℕ) → IsCandidate index t c used j → IsPreferred f k j → IsPreferred g k j
    by j chosen (inl less) = let a = same j chosen in let b = same k h.0 in inl (omega (arith, less, a, b))
    by j chosen (inr even) = inr (sym (same j chosen) ∙ even.0 ∙ same k h.0, even.1)

-- one more cell is passed over
pub highest_more : (test : ℕ → Bool) (f : ℕ → ℕ) (many : ℕ) (o : Option ℕ) → IsHighest test f many o → (test many && is_higher f many o) ≡ true → IsHighest test f (suc many) (Some many)
highest_more test f many None none h =
    let parts = and_parts (test many) true h in
    (omega arith, parts.0, λ j few is. by j few is (cases_lt j many))
  where
    by : (j : ℕ) → j < suc many → test j ≡ true → (j < many) ⊎ (many ≤ j) → IsPreferred f many j
    by j few is (inl less) = absurd (false≢true (sym (none j less) ∙ is))
    by j few is (inr most) = let same : j ≡ many = omega (arith, few, most) in inr (ap f same, omega (arith, most))
highest_more test f many (Some k) (below, passes, most) h =
    let parts = and_parts (test many) (nat_lt (f k) (f many)) h in
    let more : f k < f many = ltb-true (f k) (f many) parts.1 in
    (omega arith, parts.0, λ j few is. by more j few is (cases_lt j many))
  where
    above : (j : ℕ) → f k < f many → IsPreferred f k j → IsPreferred f many j
    above j more (inl less) = inl (omega (arith, less, more))
    above j more (inr even) = let e = even.0 in inl (omega (arith, e, more))

    by : f k < f many → (j : ℕ) → j < suc many → test j ≡ true → (j < many) ⊎ (many ≤ j) → IsPreferred f many j
    by more j few is (inl less) = above j more (most j less is)
    by more j few is (inr last) = let same : j ≡ many = omega (arith, few, last) in inr (ap f same, omega (arith, last))

pub highest_still : (test : ℕ → Bool) (f : ℕ → ℕ) (many : ℕ) (o : Option ℕ) → IsHighest test f many o → (test many && is_higher f many o) ≡ false → IsHighest test f (suc many) o
highest_still test f many None none h = λ j few. by j few (cases_lt j many)
  where
    by : (j : ℕ) → j < suc many → (j < many) ⊎ (many ≤ j) → test j ≡ false
    by j few (inl less) = none j less
    by j few (inr last) = let same : j ≡ many = omega (arith, few, last) in ap test same ∙ off (test many) h
      where
        off : (b : Bool) → (b && true) ≡ false → b ≡ false
        off true e = e
        off false e = refl
highest_still test f many (Some k) (below, passes, most) h = (omega (arith, below), passes, λ j few is. by j few is (cases_lt j many))
  where
    by : (j : ℕ) → j < suc many → test j ≡ true → (j < many) ⊎ (many ≤ j) → IsPreferred f k j
    by j few is (inl less) = most j less is
    by j few is (inr last) =
        let same : j ≡ many = omega (arith, few, last) in
        let not_more : nat_lt (f k) (f many) ≡ false = sym (ap (λ (b : Bool). b && nat_lt (f k) (f many)) (sym (ap test same) ∙ is)) ∙ h in
        low same (cases_lt (f k) (f many)) not_more
      where
        low : j ≡ many → (f k < f many) ⊎ (f many ≤ f k) → nat_lt (f k) (f many) ≡ false → IsPreferred f k j
        low same (inl less) off = absurd (false≢true (sym off ∙ lt-ltb (f k) (f many) less))
        low same (inr more) off = at (cases_lt (f j) (f k))
          where
            at : (f j < f k) ⊎ (f k ≤ f j) → IsPreferred f k j
            at (inl less) = inl less
            at (inr even) = let e = ap f same in inr (omega (arith, more, even, e), omega (arith, below, last))
