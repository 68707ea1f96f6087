-- The places of free cells, and the first of them.
use Rattle.std.proofs.Common.{◌≡◌, inl, inr, ◌⊎◌, ℕ, zero, suc, ◌+◌, ◌*◌, ◌-◌, ◌<◌, ◌≤◌, ◌||◌, ◌&&◌, ◌==◌, nat_lt, nat_le, Bool, true, false, if◌then◌else◌, List, [], ◌∷◌, length, replicate, get_or, set, Option, None, Some, refl, sym, ap, ap₂, subst, ◌∙◌, arith}
use Rattle.std.proofs.lemmas.Bool.{cases_lt, false≢true}
use Rattle.std.proofs.lemmas.List.{get_or-set_same, get_or-set_other}
use Rattle.std.proofs.lemmas.Option.{none-some, same_Some}
use Rattle.cell_ranks.proofs.Placing.{place_before, index_by_place, places_differ}
use Rattle.cell_ranks.proofs.Winning.{before_itself, before_along, before_total}
use Rattle.cell_ranks.specs.Layouts.{many_below, place_among}
use Rattle.cell_ranks.specs.Ranks.{Ranked, ranked, IsFree, rank_index, IsEligible, IsForemost, AreAtPlaces}
use Rattle.cell_ranks.specs.Tournaments.{is_before, winner, node_at, winner_from, IsTournament, IsInserted}

-- one cell is put at its place, or taken from it
module _ (xs : List ℕ) (free : List Bool) (ns ns' : List (Option ℕ)) (k : ℕ) (v : Bool) (w : Option ℕ) (many : length free ≡ length xs) (within : k < length xs) (is : w ≡ (if v then Some k else None)) where
  pub put_leaf : AreAtPlaces xs free ns → IsInserted ns ns' (length xs) (place_among xs k) w → AreAtPlaces xs (set free k v) ns'
  put_leaf leaves put = record { each = each; only = only }
    where
      each : (j : ℕ) → j < length xs → node_at ns' (length xs + place_among xs j) ≡ (if get_or (set free k v) j false then Some j else None)
      each j h = elim (cases_lt j k) [
        | inl before ↦ other (λ e. omega (arith, e, before))
        | inr after ↦ elim (cases_lt k j) [
          | inl behind ↦ other (λ e. omega (arith, e, behind))
          | inr back ↦
              let same : k ≡ j = omega (arith, after, back) in
              subst (λ (i : ℕ). node_at ns' (length xs + place_among xs i) ≡ (if get_or (set free k v) i false then Some i else None)) same
              (put.0 ∙ is ∙ ap (λ (b : Bool). if b then Some k else None) (sym (get_or-set_same free k v false (omega (arith, within, many)))))
        ]
      ]
        where
          other : (j ≡ k → ⊥) → node_at ns' (length xs + place_among xs j) ≡ (if get_or (set free k v) j false then Some j else None)
          other differ =
              put.1 (length xs + place_among xs j) (omega arith) (λ e. differ (places_differ xs j k h within (omega (arith, e)))) ∙ leaves.each j h
              ∙ ap (λ (b : Bool). if b then Some j else None) (sym (get_or-set_other free k j v false differ))

      here : (b : Bool) (j : ℕ) → (if b then Some k else None) ≡ Some j → k ≡ j
      here true j e = same_Some k j e
      here false j e = absurd (none-some j e)

      only : (p j : ℕ) → p < length xs → node_at ns' (length xs + p) ≡ Some j → (j < length xs) × (place_among xs j ≡ p)
      only p j h e = elim (cases_lt p (place_among xs k)) [
        | inl before ↦ leaves.only p j h (sym (put.1 (length xs + p) (omega arith) (λ f. omega (arith, f, before))) ∙ e)
        | inr after ↦ elim (cases_lt (place_among xs k) p) [
          | inl behind ↦ leaves.only p j h (sym (put.1 (length xs + p) (omega arith) (λ f. omega (arith, f, behind))) ∙ e)
          | inr back ↦
              let there : place_among xs k ≡ p = omega (arith, after, back) in
              let at : node_at ns' (length xs + p) ≡ w = ap (λ (i : ℕ). node_at ns' (length xs + i)) (sym there) ∙ put.0 in
              let same : k ≡ j = here v j (sym is ∙ sym at ∙ e) in
              subst (λ (i : ℕ). (i < length xs) × (place_among xs i ≡ p)) same (within, there)
        ]
      ]

-- the winner is one of those that play
one_wins : (ss : List ℕ) (a b : Option ℕ) (k : ℕ) → winner ss a b ≡ Some k → (a ≡ Some k) ⊎ (b ≡ Some k)
one_wins ss None b k e = inr e
one_wins ss (Some j) None k e = inl e
one_wins ss (Some j) (Some i) k e = by (is_before ss j i) e
  where
    by : (b : Bool) → (if b then Some j else Some i) ≡ Some k → (Some j ≡ Some k) ⊎ (Some i ≡ Some k)
    by true e = inl e
    by false e = inr e

-- what stands at a node stands at a place
stands_below : (ss : List ℕ) (ns : List (Option ℕ)) (n : ℕ) → IsTournament ss ns n → (fuel i k : ℕ) → 2 * n ≤ i + fuel → 1 ≤ i → i < 2 * n → node_at ns i ≡ Some k → (p : ℕ) × ((p < n) × (node_at ns (n + p) ≡ Some k))
stands_below ss ns n won zero i k few some less e = absurd (omega (arith, few, less))
stands_below ss ns n won (suc fuel) i k few some less e = elim (cases_lt i n) [
  | inr leaf ↦ let p : ℕ = i - n in let there : i ≡ n + p = omega (arith, leaf) in (p, (omega (arith, leaf, less), ap (node_at ns) (sym there) ∙ e))
  | inl inner ↦ elim (one_wins ss (node_at ns (2 * i)) (node_at ns (2 * i + 1)) k (sym (won i some inner) ∙ e)) [
    | inl first ↦ stands_below ss ns n won fuel (2 * i) k (omega (arith, few, some)) (omega (arith, some)) (omega (arith, inner)) first
    | inr second ↦ stands_below ss ns n won fuel (2 * i + 1) k (omega (arith, few, some)) (omega arith) (omega (arith, inner)) second
  ]
]

-- scores of others decide as before
other_score : (ss : List ℕ) (c v : ℕ) (a b : Option ℕ) → (a ≡ Some c → ⊥) → (b ≡ Some c → ⊥) → winner (set ss c v) a b ≡ winner ss a b
other_score ss c v None b h g = refl
other_score ss c v (Some j) None h g = refl
other_score ss c v (Some j) (Some i) h g =
    let first = get_or-set_other ss c j v 0 (λ e. h (ap (λ (x : ℕ). Some x) e)) in
    let second = get_or-set_other ss c i v 0 (λ e. g (ap (λ (x : ℕ). Some x) e)) in
    ap₂ (λ (x y : ℕ). if (nat_lt y x || (y == x && nat_le j i)) then Some j else Some i) first second

pub score_changes : (xs : List ℕ) (free : List Bool) (ss : List ℕ) (ns : List (Option ℕ)) (c v : ℕ) → length ns ≡ 2 * length xs → AreAtPlaces xs free ns → (get_or free c false ≡ true → ⊥) → IsTournament ss ns (length xs) → IsTournament (set ss c v) ns (length xs)
score_changes xs free ss ns c v many leaves closed won i some less =
    won i some less ∙ sym (other_score ss c v (node_at ns (2 * i)) (node_at ns (2 * i + 1)) (nowhere (2 * i) (omega (arith, some)) (omega (arith, less))) (nowhere (2 * i + 1) (omega arith) (omega (arith, less))))
  where
    free_there : (b : Bool) → (if b then Some c else None) ≡ Some c → b ≡ true
    free_there true e = refl
    free_there false e = absurd (none-some c e)

    nowhere : (j : ℕ) → 1 ≤ j → j < 2 * length xs → node_at ns j ≡ Some c → ⊥
    nowhere j some less e =
        let leaf = stands_below ss ns (length xs) won (2 * length xs) j c (omega arith) some less e in
        let is = leaves.only leaf.0 c leaf.1.0 leaf.1.1 in
        let here : node_at ns (length xs + place_among xs c) ≡ Some c = ap (λ (p : ℕ). node_at ns (length xs + p)) is.1 ∙ leaf.1.1 in
        closed (free_there (get_or free c false) (sym (leaves.each c is.0) ∙ here))

-- where no winner is there is nothing at the nodes
none_of_two : (ss : List ℕ) (a b : Option ℕ) → winner ss a b ≡ None → (a ≡ None) × (b ≡ None)
none_of_two ss None b e = (refl, e)
none_of_two ss (Some k) None e = absurd (none-some k (sym e))
none_of_two ss (Some k) (Some j) e = by (is_before ss k j) e
  where
    by : (b : Bool) → (if b then Some k else Some j) ≡ None → (Some k ≡ None) × (Some j ≡ None)
    by true e = absurd (none-some k (sym e))
    by false e = absurd (none-some j (sym e))

missing : (ss : List ℕ) (ns : List (Option ℕ)) (i n : ℕ) → winner_from ss ns i n ≡ None → (p : ℕ) → p < n → node_at ns (i + p) ≡ None
missing ss ns i zero e p h = absurd (omega (arith, h))
missing ss ns i (suc n) e zero h = let at : i + 0 ≡ i = omega arith in ap (node_at ns) at ∙ (none_of_two ss (node_at ns i) (winner_from ss ns (suc i) n) e).0
missing ss ns i (suc n) e (suc p) h = let at : i + suc p ≡ suc i + p = omega arith in ap (node_at ns) at ∙ missing ss ns (suc i) n (none_of_two ss (node_at ns i) (winner_from ss ns (suc i) n) e).1 p (omega (arith, h))

-- what the winner of some nodes says of each
abbrev WinsOver : List ℕ → List (Option ℕ) → ℕ → ℕ → ℕ → Type 0
WinsOver ss ns i n k = ((p : ℕ) × ((p < n) × (node_at ns (i + p) ≡ Some k))) × ((p j : ℕ) → p < n → node_at ns (i + p) ≡ Some j → is_before ss k j ≡ true)

-- by the first of them, and by the winner of the others
module _ (ss : List ℕ) (ns : List (Option ℕ)) (i n k : ℕ) where
  at_start : i + 0 ≡ i
  at_start = omega arith

  further : (p : ℕ) → suc i + p ≡ i + suc p
  further p = omega arith

  all_over : ((x : ℕ) → node_at ns i ≡ Some x → is_before ss k x ≡ true) → ((p j : ℕ) → p < n → node_at ns (suc i + p) ≡ Some j → is_before ss k j ≡ true) → (p j : ℕ) → p < suc n → node_at ns (i + p) ≡ Some j → is_before ss k j ≡ true
  all_over first others zero j h f = first j (ap (node_at ns) (sym at_start) ∙ f)
  all_over first others (suc p) j h f = others p j (omega (arith, h)) (ap (node_at ns) (further p) ∙ f)

  -- the first wins
  first_over : (y : ℕ) → node_at ns i ≡ Some y → y ≡ k → ((p j : ℕ) → p < n → node_at ns (suc i + p) ≡ Some j → is_before ss k j ≡ true) → WinsOver ss ns i (suc n) k
  first_over y is same others = (
    (0, (omega arith, ap (node_at ns) at_start ∙ is ∙ ap (λ (x : ℕ). Some x) same)),
    all_over (λ x f. let here : k ≡ x = sym same ∙ same_Some y x (sym is ∙ f) in subst (λ (v : ℕ). is_before ss k v ≡ true) here (before_itself ss k)) others,
  )

  -- or one of the others
  other_over : ((x : ℕ) → node_at ns i ≡ Some x → is_before ss k x ≡ true) → WinsOver ss ns (suc i) n k → WinsOver ss ns i (suc n) k
  other_over first rest = ((suc rest.0.0, (omega (arith, rest.0.1.0), ap (node_at ns) (sym (further rest.0.0)) ∙ rest.0.1.1)), all_over first rest.1)

pub wins_over : (ss : List ℕ) (ns : List (Option ℕ)) (i n k : ℕ) → winner_from ss ns i n ≡ Some k → WinsOver ss ns i n k
wins_over ss ns i zero k e = absurd (none-some k e)
wins_over ss ns i (suc n) k e = by (node_at ns i) (winner_from ss ns (suc i) n) refl refl (λ z f. wins_over ss ns (suc i) n z f)
  where
    by : (a b : Option ℕ) → node_at ns i ≡ a → winner_from ss ns (suc i) n ≡ b → ((z : ℕ) → winner_from ss ns (suc i) n ≡ Some z → WinsOver ss ns (suc i) n z) → WinsOver ss ns i (suc n) k
    by None b is rest wins =
        let won : winner_from ss ns (suc i) n ≡ Some k = ap (λ o. winner ss o (winner_from ss ns (suc i) n)) (sym is) ∙ e in
        other_over ss ns i n k (λ x f. absurd (none-some x (sym is ∙ f))) (wins k won)
    by (Some y) None is rest wins =
        let same : y ≡ k = same_Some y k (ap₂ (winner ss) (sym is) (sym rest) ∙ e) in
        first_over ss ns i n k y is same (λ p j h f. absurd (none-some j (sym (missing ss ns (suc i) n rest p h) ∙ f)))
    by (Some y) (Some z) is rest wins = both (is_before ss y z) refl
      where
        won : (if is_before ss y z then Some y else Some z) ≡ Some k
        won = ap₂ (winner ss) (sym is) (sym rest) ∙ e

        both : (b : Bool) → is_before ss y z ≡ b → WinsOver ss ns i (suc n) k
        both true t =
            let same : y ≡ k = same_Some y k (ap (λ (b : Bool). if b then Some y else Some z) (sym t) ∙ won) in
            let before : is_before ss k z ≡ true = subst (λ (v : ℕ). is_before ss v z ≡ true) same t in
            first_over ss ns i n k y is same (λ p j h f. before_along ss k z j before ((wins z rest).1 p j h f))
        both false t =
            let same : z ≡ k = same_Some z k (ap (λ (b : Bool). if b then Some y else Some z) (sym t) ∙ won) in
            let before : is_before ss k y ≡ true = subst (λ (v : ℕ). is_before ss v y ≡ true) same (before_total ss y z t) in
            other_over ss ns i n k (λ x f. let here : y ≡ x = same_Some y x (sym is ∙ f) in subst (λ (v : ℕ). is_before ss k v ≡ true) here before) (subst (WinsOver ss ns (suc i) n) same (wins z rest))

pub past_flags : (bs : List Bool) (j : ℕ) → length bs ≤ j → get_or bs j false ≡ false
past_flags [] j h = refl
past_flags (b ∷ bs) zero h = absurd (omega (arith, h))
past_flags (b ∷ bs) (suc j) h = past_flags bs j (omega (arith, h))

-- the first of the free cells, as far as some index
module _ (xs : List ℕ) (free : List Bool) (ss : List ℕ) (ns : List (Option ℕ)) (many : length free ≡ length xs) (leaves : AreAtPlaces xs free ns) where
  abbrev r : Ranked
  r = ranked xs free ss

  within : (j : ℕ) → IsFree r j → j < length xs
  within j h = elim (cases_lt j (length free)) [ inl less ↦ omega (arith, less, many) | inr past ↦ absurd (false≢true (sym (past_flags free j past) ∙ h)) ]

  stands_there : (j : ℕ) → IsFree r j → node_at ns (length xs + place_among xs j) ≡ Some j
  stands_there j h = leaves.each j (within j h) ∙ ap (λ (b : Bool). if b then Some j else None) h

  -- none of them has an index up to this
  pub none_yet : (i end : ℕ) → end ≡ many_below (i + 1) xs → winner_from ss ns (length xs) end ≡ None → (j : ℕ) → IsFree r j → i + 1 ≤ rank_index r j
  none_yet i end is none j h = elim (cases_lt i (rank_index r j)) [
    | inl more ↦ omega (arith, more)
    | inr le ↦ absurd (none-some j (sym (missing ss ns (length xs) end none (place_among xs j) (omega (arith, is, place_before xs j i (within j h) le))) ∙ stands_there j h))
  ]

  pub foremost : (to i end k : ℕ) → to ≤ i → end ≡ many_below (i + 1) xs → ((j : ℕ) → to < i → IsFree r j → i ≤ rank_index r j) → winner_from ss ns (length xs) end ≡ Some k → end ≤ length xs → IsForemost r to k
  foremost to i end k order is none e few =
      let wins = wins_over ss ns (length xs) end k e in
      let is_at = leaves.only wins.0.0 k (omega (arith, wins.0.1.0, few)) wins.0.1.1 in
      let low : rank_index r k ≤ i = index_by_place xs k i (omega (arith, is_at.1, wins.0.1.0, is)) in
      let there : node_at ns (length xs + place_among xs k) ≡ Some k = ap (λ (p : ℕ). node_at ns (length xs + p)) is_at.1 ∙ wins.0.1.1 in
      let is_free : IsFree r k = flag (get_or free k false) k (sym (leaves.each k is_at.0) ∙ there) in (
        (is_free, eligible k low),
        λ j h. wins.1 (place_among xs j) j (omega (arith, is, place_before xs j i (within j h.0) (low_too k j is_free low h))) (stands_there j h.0),
      )
    where
      flag : (b : Bool) (x : ℕ) → (if b then Some x else None) ≡ Some x → b ≡ true
      flag true x f = refl
      flag false x f = absurd (none-some x f)

      eligible : (k : ℕ) → rank_index r k ≤ i → (rank_index r k ≤ to) ⊎ ((j : ℕ) → IsFree r j → rank_index r k ≤ rank_index r j)
      eligible k low = elim (cases_lt to i) [
        | inl later ↦ inr (λ j h. (let from = none j later h in omega (arith, from, low)))
        | inr at_once ↦ inl (omega (arith, low, at_once))
      ]

      low_too : (k j : ℕ) → IsFree r k → rank_index r k ≤ i → IsEligible r to j → rank_index r j ≤ i
      low_too k j is_free low h = elim h.1 [ inl le ↦ omega (arith, le, order) | inr least ↦ (let le = least k is_free in omega (arith, le, low)) ]

-- a flag is put down and up again
pub raised_again : (bs : List Bool) (k : ℕ) → get_or bs k false ≡ true → set (set bs k false) k true ≡ bs
raised_again [] k h = absurd (false≢true h)
raised_again (b ∷ bs) zero h = ap (λ (c : Bool). c ∷ bs) (sym h)
raised_again (b ∷ bs) (suc k) h = ap (λ (cs : List Bool). b ∷ cs) (raised_again bs k h)

pub put_down : (bs : List Bool) (k : ℕ) → get_or (set bs k false) k false ≡ true → ⊥
put_down [] k h = false≢true h
put_down (b ∷ bs) zero h = false≢true h
put_down (b ∷ bs) (suc k) h = put_down bs k h

-- one flag more is raised
pub raised_more : (bs : List Bool) (n : ℕ) → n < length bs → ((k : ℕ) → k < n → get_or bs k false ≡ true) → (k : ℕ) → k < n + 1 → get_or (set bs n true) k false ≡ true
raised_more bs n within so_far k h = elim (cases_lt k n) [
  | inl before ↦ get_or-set_other bs n k true false (λ e. omega (arith, e, before)) ∙ so_far k before
  | inr last ↦ let same : n ≡ k = omega (arith, last, h) in subst (λ (j : ℕ). get_or (set bs n true) j false ≡ true) same (get_or-set_same bs n true false within)
]

pub all_raised : (bs : List Bool) (n : ℕ) → length bs ≡ n → ((k : ℕ) → k < n → get_or bs k false ≡ true) → bs ≡ replicate n true
all_raised [] n e h = ap (λ (m : ℕ). replicate m true) e
all_raised (b ∷ bs) zero e h = absurd (omega (arith, e))
all_raised (b ∷ bs) (suc n) e h = ap₂ (λ (c : Bool) (cs : List Bool). c ∷ cs) (h 0 (omega arith)) (all_raised bs n (omega (arith, e)) (λ k g. h (suc k) (omega (arith, g))))

-- at first nothing stands anywhere
blank_at : (m i : ℕ) → node_at (replicate m None) i ≡ None
blank_at zero i = refl
blank_at (suc m) zero = refl
blank_at (suc m) (suc i) = blank_at m i

flag_down : (m i : ℕ) → get_or (replicate m false) i false ≡ false
flag_down zero i = refl
flag_down (suc m) zero = refl
flag_down (suc m) (suc i) = flag_down m i

pub won_at_first : (ss : List ℕ) (m n : ℕ) → IsTournament ss (replicate m None) n
won_at_first ss m n i some less = blank_at m i ∙ sym (ap₂ (winner ss) (blank_at m (2 * i)) (blank_at m (2 * i + 1)))

pub places_at_first : (xs : List ℕ) (n m : ℕ) → AreAtPlaces xs (replicate n false) (replicate m None)
places_at_first xs n m = record {
  each = λ k h. blank_at m (length xs + place_among xs k) ∙ ap (λ (b : Bool). if b then Some k else None) (sym (flag_down n k));
  only = λ p k h e. absurd (none-some k (sym (blank_at m (length xs + p)) ∙ e));
}
