-- Tournaments, and their winners.
use Rattle.std.proofs.Common.{◌≡◌, inl, inr, ℕ, zero, suc, ◌+◌, ◌*◌, ◌-◌, ◌/◌, ◌%◌, ◌<◌, ◌≤◌, Bool, true, false, if◌then◌else◌, List, length, set, Option, None, Some, refl, sym, ap, ap₂, subst, ◌∙◌, arith}
use Rattle.std.proofs.lemmas.Bool.{cases_lt}
use Rattle.std.proofs.lemmas.Bool.Decides.{nat_tests}
use Rattle.std.proofs.lemmas.List.{get_or-set_same, get_or-set_other}
use Rattle.cell_ranks.specs.Tournaments.{is_before, winner, node_at, winner_from, IsWon, IsTournament, IsInserted}

pub other_node : (ns : List (Option ℕ)) (i j : ℕ) (v : Option ℕ) → (j ≡ i → ⊥) → node_at (set ns i v) j ≡ node_at ns j
other_node ns i j v h = get_or-set_other ns i j v None h

pub this_node : (ns : List (Option ℕ)) (i : ℕ) (v : Option ℕ) → i < length ns → node_at (set ns i v) i ≡ v
this_node ns i v h = get_or-set_same ns i v None h

-- a node is won as before where neither it nor one of its pair is the one that changed
won_still : (ss : List ℕ) (ns : List (Option ℕ)) (i j : ℕ) (v : Option ℕ) → 1 ≤ j → (j ≡ i → ⊥) → (j ≡ i / 2 → ⊥) → IsWon ss ns j → IsWon ss (set ns i v) j
won_still ss ns i j v some this pair h =
    let first : 2 * j ≡ i → ⊥ = λ e. pair (omega (arith, e)) in
    let second : 2 * j + 1 ≡ i → ⊥ = λ e. pair (omega (arith, e)) in
    other_node ns i j v this ∙ h ∙ ap₂ (winner ss) (sym (other_node ns i (2 * j) v first)) (sym (other_node ns i (2 * j + 1) v second))

module _ (ss : List ℕ) (ns : List (Option ℕ)) (n : ℕ) (many : length ns ≡ 2 * n) where
  -- a cell is put at a place
  pub won_but : (place at : ℕ) (v : Option ℕ) → place < n → at ≡ n + place → IsTournament ss ns n → (i : ℕ) → 1 ≤ i → i < n → (i ≡ at / 2 → ⊥) → IsWon ss (set ns at v) i
  won_but place at v within is won i some less other = won_still ss ns at i v some (λ e. omega (arith, e, is, less)) other (won i some less)

  pub put_at : (place at : ℕ) (v : Option ℕ) → place < n → at ≡ n + place → IsInserted ns (set ns at v) n place v
  put_at place at v within is = (
    ap (node_at (set ns at v)) (sym is) ∙ this_node ns at v (omega (arith, within, is, many)),
    λ i from other. other_node ns at i v (λ e. other (e ∙ is)),
  )

  module _ (at : ℕ) (from : 1 < at) (to : at < 2 * n) (won : (i : ℕ) → 1 ≤ i → i < n → (i ≡ at / 2 → ⊥) → IsWon ss ns i) (w : Option ℕ) (is : w ≡ winner ss (node_at ns (2 * (at / 2))) (node_at ns (2 * (at / 2) + 1))) where
    abbrev up : ℕ
    up = at / 2

    -- the node above has its winner already
    pub all_won : node_at ns up ≡ w → IsTournament ss ns n
    all_won same i some less = elim (cases_lt i up) [
      | inl before ↦ won i some less (λ e. omega (arith, e, before))
      | inr after ↦ elim (cases_lt up i) [
        | inl behind ↦ won i some less (λ e. omega (arith, e, behind))
        | inr back ↦ let here : up ≡ i = omega (arith, after, back) in subst (IsWon ss ns) here (same ∙ is)
      ]
    ]

    -- or is given it
    pub won_up : (i : ℕ) → 1 ≤ i → i < n → (i ≡ up / 2 → ⊥) → IsWon ss (set ns up w) i
    won_up i some less other = elim (cases_lt i up) [
      | inl before ↦ won_still ss ns up i w some (λ e. omega (arith, e, before)) other (won i some less (λ e. omega (arith, e, before)))
      | inr after ↦ elim (cases_lt up i) [
        | inl behind ↦ won_still ss ns up i w some (λ e. omega (arith, e, behind)) other (won i some less (λ e. omega (arith, e, behind)))
        | inr back ↦ let here : up ≡ i = omega (arith, after, back) in subst (IsWon ss (set ns up w)) here won_here
      ]
    ]
      where
        won_here : IsWon ss (set ns up w) up
        won_here =
            let first : 2 * up ≡ up → ⊥ = λ e. omega (arith, e, from) in
            let second : 2 * up + 1 ≡ up → ⊥ = λ e. omega (arith, e, from) in
            this_node ns up w (omega (arith, to, many)) ∙ is ∙ ap₂ (winner ss) (sym (other_node ns up (2 * up) w first)) (sym (other_node ns up (2 * up + 1) w second))

    -- no place changes by it
    pub put_still : (old : List (Option ℕ)) (place : ℕ) (v : Option ℕ) → IsInserted old ns n place v → IsInserted old (set ns up w) n place v
    put_still old place v h = (other_node ns up (n + place) w (λ e. omega (arith, e, to)) ∙ h.0, λ i past other. other_node ns up i w (λ e. omega (arith, e, to, past)) ∙ h.1 i past other)

-- the order of ranks
pub before_total : (ss : List ℕ) (k j : ℕ) → is_before ss k j ≡ false → is_before ss j k ≡ true
before_total ss k j h = grind (arith, nat_tests, h)

pub before_along : (ss : List ℕ) (k j i : ℕ) → is_before ss k j ≡ true → is_before ss j i ≡ true → is_before ss k i ≡ true
before_along ss k j i h g = grind (arith, nat_tests, h, g)

before_both : (ss : List ℕ) (k j : ℕ) → is_before ss k j ≡ true → is_before ss j k ≡ true → k ≡ j
before_both ss k j h g = grind (arith, nat_tests, h, g)

pub before_itself : (ss : List ℕ) (k : ℕ) → is_before ss k k ≡ true
before_itself ss k = grind (arith, nat_tests)

-- the winner of three, and of two in either order
three : (ss : List ℕ) (k j i : ℕ) → winner ss (winner ss (Some k) (Some j)) (Some i) ≡ winner ss (Some k) (winner ss (Some j) (Some i))
three ss k j i = by (is_before ss k j) (is_before ss j i) (is_before ss k i) refl refl refl
  where
    by : (a b c : Bool) → is_before ss k j ≡ a → is_before ss j i ≡ b → is_before ss k i ≡ c → winner ss (winner ss (Some k) (Some j)) (Some i) ≡ winner ss (Some k) (winner ss (Some j) (Some i))
    by true true true h g f = rw (h, g) rw (h, f) refl
    by true true false h g f = absurd (let e : true ≡ false = sym (before_along ss k j i h g) ∙ f in cc)
    by true false c h g f = rw (h, g) refl
    by false true c h g f = rw (h, g) rw h refl
    by false false false h g f = rw (h, g) rw f refl
    by false false true h g f = absurd (let back = before_along ss i j k (before_total ss j i g) (before_total ss k j h) in let same = before_both ss k i f back in let e : true ≡ false = sym (before_total ss k j h) ∙ ap (is_before ss j) same ∙ g in cc)

pub winner_three : (ss : List ℕ) (a b c : Option ℕ) → winner ss (winner ss a b) c ≡ winner ss a (winner ss b c)
winner_three ss None b c = refl
winner_three ss (Some k) None c = refl
winner_three ss (Some k) (Some j) None = by (is_before ss k j)
  where
    by : (b : Bool) → winner ss (if b then Some k else Some j) None ≡ (if b then Some k else Some j)
    by true = refl
    by false = refl
winner_three ss (Some k) (Some j) (Some i) = three ss k j i

pub winner_other : (ss : List ℕ) (a b : Option ℕ) → winner ss a b ≡ winner ss b a
winner_other ss None None = refl
winner_other ss None (Some j) = refl
winner_other ss (Some k) None = refl
winner_other ss (Some k) (Some j) = by (is_before ss k j) (is_before ss j k) refl refl
  where
    by : (a b : Bool) → is_before ss k j ≡ a → is_before ss j k ≡ b → (if a then Some k else Some j) ≡ (if b then Some j else Some k)
    by true true h g = ap (λ (x : ℕ). Some x) (before_both ss k j h g)
    by true false h g = refl
    by false true h g = refl
    by false false h g = absurd (let e : true ≡ false = sym (before_total ss k j h) ∙ g in cc)

pub winner_none : (ss : List ℕ) (a : Option ℕ) → winner ss a None ≡ a
winner_none ss None = refl
winner_none ss (Some k) = refl

last_from : (ss : List ℕ) (ns : List (Option ℕ)) (i n : ℕ) → winner_from ss ns i (suc n) ≡ winner ss (winner_from ss ns i n) (node_at ns (i + n))
last_from ss ns i zero = let e : i + 0 ≡ i = omega arith in winner_none ss (node_at ns i) ∙ ap (node_at ns) (sym e)
last_from ss ns i (suc n) =
    let e : suc i + n ≡ i + suc n = omega arith in
    ap (winner ss (node_at ns i)) (last_from ss ns (suc i) n ∙ ap (λ (k : ℕ). winner ss (winner_from ss ns (suc i) n) (node_at ns k)) e)
    ∙ sym (winner_three ss (node_at ns i) (winner_from ss ns (suc i) n) (node_at ns (i + suc n)))

-- pairs are won by the nodes above them
pairs_from : (ss : List ℕ) (ns : List (Option ℕ)) (i n : ℕ) → ((j : ℕ) → i ≤ j → j < i + n → IsWon ss ns j) → winner_from ss ns (2 * i) (2 * n) ≡ winner_from ss ns i n
pairs_from ss ns i zero won = refl
pairs_from ss ns i (suc n) won =
    let twice : 2 * suc n ≡ suc (suc (2 * n)) = omega arith in
    let next : suc (suc (2 * i)) ≡ 2 * suc i = omega arith in
    let second : suc (2 * i) ≡ 2 * i + 1 = omega arith in
    let here : node_at ns i ≡ winner ss (node_at ns (2 * i)) (node_at ns (suc (2 * i))) = won i (omega arith) (omega arith) ∙ ap (λ (k : ℕ). winner ss (node_at ns (2 * i)) (node_at ns k)) (sym second) in
    let rest : winner_from ss ns (suc (suc (2 * i))) (2 * n) ≡ winner_from ss ns (suc i) n = ap (λ (k : ℕ). winner_from ss ns k (2 * n)) next ∙ pairs_from ss ns (suc i) n (λ j from to. won j (omega (arith, from)) (omega (arith, to))) in
    ap (winner_from ss ns (2 * i)) twice
    ∙ sym (winner_three ss (node_at ns (2 * i)) (node_at ns (suc (2 * i))) (winner_from ss ns (suc (suc (2 * i))) (2 * n)))
    ∙ ap₂ (winner ss) (sym here) rest

module _ (ss : List ℕ) (ns : List (Option ℕ)) (best : Option ℕ) (from to : ℕ) where
  pub first_taken : from < to → winner ss best (winner_from ss ns from (to - from)) ≡ winner ss (winner ss best (node_at ns from)) (winner_from ss ns (from + 1) (to - (from + 1)))
  first_taken some =
      let many : to - from ≡ suc (to - (from + 1)) = omega (arith, some) in
      let next : suc from ≡ from + 1 = omega arith in
      ap (λ (n : ℕ). winner ss best (winner_from ss ns from n)) many ∙ sym (winner_three ss best (node_at ns from) (winner_from ss ns (suc from) (to - (from + 1)))) ∙ ap (λ (k : ℕ). winner ss (winner ss best (node_at ns from)) (winner_from ss ns k (to - (from + 1)))) next

  pub last_taken : from < to → winner ss best (winner_from ss ns from (to - from)) ≡ winner ss (winner ss best (node_at ns (to - 1))) (winner_from ss ns from (to - 1 - from))
  last_taken some =
      let many : to - from ≡ suc (to - 1 - from) = omega (arith, some) in
      let there : from + (to - 1 - from) ≡ to - 1 = omega (arith, some) in
      let rest = winner_from ss ns from (to - 1 - from) in
      ap (λ (n : ℕ). winner ss best (winner_from ss ns from n)) many ∙ ap (winner ss best) (last_from ss ns from (to - 1 - from) ∙ ap (λ (k : ℕ). winner ss rest (node_at ns k)) there ∙ winner_other ss rest (node_at ns (to - 1)))
      ∙ sym (winner_three ss best (node_at ns (to - 1)) rest)

  pub halved : (n : ℕ) → IsTournament ss ns n → from < to → 1 ≤ from → to ≤ 2 * n → ((from % 2 ≡ 1) → ⊥) → ((to % 2 ≡ 1) → ⊥)
      → winner ss best (winner_from ss ns from (to - from)) ≡ winner ss best (winner_from ss ns (from / 2) (to / 2 - from / 2))
  halved n won less some few even other =
      let first : from ≡ 2 * (from / 2) = omega (arith, even) in
      let many : to - from ≡ 2 * (to / 2 - from / 2) = omega (arith, even, other, less) in
      ap₂ (λ (i k : ℕ). winner ss best (winner_from ss ns i k)) first many
      ∙ ap (winner ss best) (pairs_from ss ns (from / 2) (to / 2 - from / 2) (λ j after before. won j (omega (arith, after, first, some)) (omega (arith, before, few, less, even, other))))
