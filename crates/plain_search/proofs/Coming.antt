-- Each step of a search by choices takes the events that it stands for from what is to come.
use Rattle.std.proofs.Common.{◌≡◌, ℕ, zero, suc, ◌<◌, ◌≤◌, ◌&&◌, nat_le, Bool, true, false, List, [], ◌∷◌, ◌++◌, length, Option, None, Some, inl, inr, refl, sym, ap, ◌∙◌, subst, arith, append_assoc, append-nil}
use Rattle.std.specs.Prelude.{◌⊎◌}
use Rattle.std.specs.List.{filter, flat_map}
use Rattle.std.specs.Option.{option_and_then}
use Rattle.std.proofs.lemmas.Bool.{cases_lt, le-leb, leb-true}
use Rattle.std.proofs.lemmas.List.FromFn.{length-map-range_with_len}
use Rattle.mace_cells.specs.Choices.{Decision, Choice, decisions}
use Rattle.mace_cells.specs.Numbers.{greatest_tried}
use Rattle.mace_cells.specs.World.{World, cell_of, many_cells}
use Rattle.mace_ground.specs.Cells.{Cell}
use Rattle.plain_search.proofs.Narrowing.{closure_opens_none}
use Rattle.plain_search.proofs.Reaching.{many_open, fewer, one_less, opens_none_there, closed_there, chosen_in, filter_short}
use Rattle.plain_search.proofs.Rising.{same_rising, rising_filter, passed}
use Rattle.plain_search.proofs.Sounding.{among_filter}
use Rattle.plain_search.specs.Closing.{closure}
use Rattle.plain_search.specs.Coming.{Event, choice, leaf, done_below, done_behind, events_within, leaves_among, LeavesAreFound, closed_behind, events_at, within, events_with, events_from, ahead, to_come, IsFirst, Stands, tries, StepsOfSearch, SearchGoesOn, AllIsToCome}
use Rattle.plain_search.specs.Lefts.{ValuesLeft, IsAmong, all_left, with_left}
use Rattle.plain_search.specs.Orders.{IsRisingFrom}
use Rattle.plain_search.specs.Trying.{is_open, all_cells, chosen, decide, tried, below, behind_closing, leaves_within}

-- which values are within two numbers
both_hold : (a b : Bool) → (a && b) ≡ true → (a ≡ true) × (b ≡ true)
both_hold true b h = (refl, h)
both_hold false b h = absurd (let e : false ≡ true = h in cc)

is_within : (from most x : ℕ) (vs : List ℕ) → IsAmong x (within from most vs) → IsAmong x vs × (from ≤ x) × (x ≤ most)
is_within from most x vs i =
    let h = passed (λ v. nat_le from v && nat_le v most) x vs i in
    let both = both_hold (nat_le from x) (nat_le x most) h.1 in
    (h.0, leb-true from x both.0, leb-true x most both.1)

put_within : (from most x : ℕ) (vs : List ℕ) → IsAmong x vs → from ≤ x → x ≤ most → IsAmong x (within from most vs)
put_within from most x vs i low high =
    let test : (nat_le from x && nat_le x most) ≡ true = ap (λ (b : Bool). b && nat_le x most) (le-leb from x low) ∙ le-leb x most high in
    among_filter (λ v. nat_le from v && nat_le v most) x vs test i

rising_within : (from most a : ℕ) (vs : List ℕ) → IsRisingFrom a vs → IsRisingFrom a (within from most vs)
rising_within from most a vs rising = rising_filter (λ v. nat_le from v && nat_le v most) a vs rising

-- a rising list rises from any number that is below all of it
rising_above : (a b : ℕ) (us : List ℕ) → IsRisingFrom a us → ((x : ℕ) → IsAmong x us → b ≤ x) → IsRisingFrom b us
rising_above a b [] rising above = tt
rising_above a b (u ∷ us) rising above = (above u (inl refl), rising.1)

none_within : (from most : ℕ) (vs : List ℕ) → IsRisingFrom 0 vs → IsFirst vs from most None → within from most vs ≡ []
none_within from most vs rising first =
    same_rising 0 0 (within from most vs) [] (rising_within from most 0 vs rising) tt
    (λ x i. let h = is_within from most x vs i in first x h.0 h.1 h.2) (λ x i. absurd i)

first_within : (from most u : ℕ) (vs : List ℕ) → IsRisingFrom 0 vs → IsFirst vs from most (Some u) → within from most vs ≡ u ∷ within (suc u) most vs
first_within from most u vs rising first =
    same_rising 0 0 (within from most vs) (u ∷ within (suc u) most vs) (rising_within from most 0 vs rising)
    (omega arith, rising_above 0 (suc u) (within (suc u) most vs) (rising_within (suc u) most 0 vs rising) (λ x i. (is_within (suc u) most x vs i).1)) there back
  where
    there : (x : ℕ) → IsAmong x (within from most vs) → (x ≡ u) ⊎ IsAmong x (within (suc u) most vs)
    there x i = let h = is_within from most x vs i in elim (cases_lt u x) [
      | inl more ↦ inr (put_within (suc u) most x vs h.0 (omega (arith, more)) h.2)
      | inr least ↦ elim (cases_lt x u) [ inl less ↦ absurd (first.3 x h.0 h.1 less) | inr above ↦ inl (omega (arith, least, above)) ]
    ]

    back : (x : ℕ) → (x ≡ u) ⊎ IsAmong x (within (suc u) most vs) → IsAmong x (within from most vs)
    back x (inl e) = subst (λ (y : ℕ). IsAmong y (within from most vs)) (sym e) (put_within from most u vs first.0 first.1 first.2)
    back x (inr i) =
        let h = is_within (suc u) most x vs i in
        let low = first.1 in
        let above = h.1 in
        put_within from most x vs h.0 (omega (arith, low, above)) h.2

-- the values that are tried are those from 0 on
tried_within : (most : ℕ) (vs : List ℕ) → IsRisingFrom 0 vs → filter (λ v. nat_le v most) vs ≡ within 0 most vs
tried_within most vs rising =
    same_rising 0 0 (filter (λ v. nat_le v most) vs) (within 0 most vs) (rising_filter (λ v. nat_le v most) 0 vs rising) (rising_within 0 most 0 vs rising)
    (λ x i. let h = passed (λ v. nat_le v most) x vs i in put_within 0 most x vs h.0 (omega arith) (leb-true x most h.1))
    (λ x i. let h = is_within 0 most x vs i in among_filter (λ v. nat_le v most) x vs (le-leb x most h.2) h.0)

-- functions that agree give the same lists
flat_same : {X : Type 0} → (f g : ℕ → List X) → ((v : ℕ) → f v ≡ g v) → (vs : List ℕ) → flat_map f vs ≡ flat_map g vs
flat_same {X = X} f g same vs = let whole : f ≡ g = λ i v. same v i in ap (λ (h : ℕ → List X). flat_map h vs) whole

module _ (w : World) where
  -- a search that has room for its decisions is the same with more
  abbrev HasRoom : ℕ → Type 0
  HasRoom k = (ds : List Decision) (p : ValuesLeft) → many_open w p < k → events_within k w ds p ≡ events_within (suc k) w ds p

  one_decided : (p : ValuesLeft) (ds : List Decision) (c : Cell) (v : ℕ) → chosen w ds p ≡ Some c → many_open w (with_left p c (v ∷ [])) < many_open w p
  unfolding many_open
  one_decided p ds c v e =
      let there = chosen_in w ds p c e in
      one_less (λ d. is_open (with_left p c (v ∷ []) d)) (λ d. is_open (p d)) c (all_cells w) (opens_none_there p c v) (closed_there p c v) there.1 there.0

  closed_no_more : (p q : ValuesLeft) → closure w p ≡ Some q → many_open w q ≤ many_open w p
  unfolding many_open
  closed_no_more p q e = fewer (λ d. is_open (q d)) (λ d. is_open (p d)) (all_cells w) (closure_opens_none w p q e)

  no_more_than_all : (p : ValuesLeft) → many_open w p ≤ many_cells w
  unfolding many_open
  no_more_than_all p =
      let all : length (all_cells w) ≡ many_cells w = length-map-range_with_len (cell_of w) 0 (many_cells w) in
      let some = filter_short (λ c. is_open (p c)) (all_cells w) in
      omega (arith, all, some)

  room_below : (k : ℕ) → HasRoom k → (ds : List Decision) (q : ValuesLeft) → many_open w q < suc k → (o : Option Cell) → chosen w ds q ≡ o
      → done_below (events_within k w) w ds q o ≡ done_below (events_within (suc k) w) w ds q o
  room_below k room ds q few None e = refl
  room_below k room ds q few (Some c) e =
      ap (λ (es : List Event). choice ∷ es)
      (flat_same (λ v. events_within k w (decide c v ∷ ds) (with_left q c (v ∷ []))) (λ v. events_within (suc k) w (decide c v ∷ ds) (with_left q c (v ∷ [])))
      (λ v. room (decide c v ∷ ds) (with_left q c (v ∷ [])) (let less = one_decided q ds c v e in omega (arith, less, few))) (tried w ds q c))

  room_behind : (k : ℕ) → HasRoom k → (ds : List Decision) (p : ValuesLeft) → many_open w p < suc k → (o : Option ValuesLeft) → closure w p ≡ o
      → done_behind (events_within k w) w ds o ≡ done_behind (events_within (suc k) w) w ds o
  room_behind k room ds p few None e = refl
  room_behind k room ds p few (Some q) e = room_below k room ds q (let less = closed_no_more p q e in omega (arith, less, few)) (chosen w ds q) refl

  has_room : (k : ℕ) → HasRoom k
  has_room zero ds p few = absurd (omega (arith, few))
  has_room (suc k) ds p few = room_behind k (has_room k) ds p few (closure w p) refl

  -- the events with a value of the chosen cell are those behind its decision
  value_events : (ds : List Decision) (p : ValuesLeft) (c : Cell) → closed_behind w ds ≡ Some p → chosen w ds p ≡ Some c → (v : ℕ)
      → events_within (many_cells w) w (decide c v ∷ ds) (with_left p c (v ∷ [])) ≡ events_at w (decide c v ∷ ds)
  value_events ds p c is e v =
      has_room (many_cells w) (decide c v ∷ ds) (with_left p c (v ∷ [])) (let less = one_decided p ds c v e in let most = no_more_than_all p in omega (arith, less, most))
      ∙ ap (λ (o : Option ValuesLeft). done_behind (events_within (many_cells w) w) w (decide c v ∷ ds) (option_and_then (λ q. closure w (with_left q c (v ∷ []))) o)) (sym is)

  chosen_events : (ds : List Decision) (p : ValuesLeft) (c : Cell) → closed_behind w ds ≡ Some p → IsRisingFrom 0 (p c) → chosen w ds p ≡ Some c
      → events_at w ds ≡ choice ∷ events_with w ds c (within 0 (greatest_tried w ds c) (p c))
  chosen_events ds p c is rising e =
      ap (done_behind (events_within (many_cells w) w) w ds) is ∙ ap (done_below (events_within (many_cells w) w) w ds p) e
      ∙ ap (λ (es : List Event). choice ∷ es)
      (flat_same (λ v. events_within (many_cells w) w (decide c v ∷ ds) (with_left p c (v ∷ []))) (λ v. events_at w (decide c v ∷ ds)) (value_events ds p c is e) (tried w ds p c))
      ∙ ap (λ (vs : List ℕ). choice ∷ events_with w ds c vs) (tried_within (greatest_tried w ds c) (p c) rising)

  module _ (cs : List Choice) where
    -- what is ahead where the latest choice has tried all up to a value
    ahead_is : (p : ValuesLeft) (c : Cell) (v most : ℕ) → closed_behind w (decisions cs) ≡ Some p
        → ahead w (tries c v most ∷ cs) ≡ events_with w (decisions cs) c (within (suc v) most (p c)) ++ ahead w cs
    ahead_is p c v most is = ap (λ (o : Option ValuesLeft). events_from w (decisions cs) c (suc v) most o ++ ahead w cs) is

    with_first : (p : ValuesLeft) (c : Cell) (from most u : ℕ) → Stands w cs p → IsFirst (p c) from most (Some u)
        → events_with w (decisions cs) c (within from most (p c)) ++ ahead w cs ≡ to_come w true (tries c u most ∷ cs)
    with_first p c from most u stands first =
        ap (λ (vs : List ℕ). events_with w (decisions cs) c vs ++ ahead w cs) (first_within from most u (p c) (stands.1 c).0 first)
        ∙ append_assoc (events_at w (decide c u ∷ decisions cs)) (events_with w (decisions cs) c (within (suc u) most (p c))) (ahead w cs)
        ∙ ap (λ (es : List Event). events_at w (decide c u ∷ decisions cs) ++ es) (sym (ahead_is p c u most stands.0))

    with_none : (p : ValuesLeft) (c : Cell) (from most : ℕ) → Stands w cs p → IsFirst (p c) from most None
        → events_with w (decisions cs) c (within from most (p c)) ++ ahead w cs ≡ ahead w cs
    with_none p c from most stands first =
        ap (λ (vs : List ℕ). events_with w (decisions cs) c vs ++ ahead w cs) (none_within from most (p c) (stands.1 c).0 first)

    abbrev behind : Option ValuesLeft → List Event
    behind o = done_behind (events_within (many_cells w) w) w (decisions cs) o ++ ahead w cs

    chosen_first : (p : ValuesLeft) (c : Cell) → Stands w cs p → chosen w (decisions cs) p ≡ Some c
        → to_come w true cs ≡ choice ∷ (events_with w (decisions cs) c (within 0 (greatest_tried w (decisions cs) c) (p c)) ++ ahead w cs)
    chosen_first p c stands e = ap (λ (es : List Event). es ++ ahead w cs) (chosen_events (decisions cs) p c stands.0 (stands.1 c).0 e)

    steps : StepsOfSearch w cs
    steps = record {
      refuted = λ is. ap behind is;
      found = λ p stands e.
          ap behind stands.0
          ∙ ap (λ (o : Option Cell). done_below (events_within (many_cells w) w) w (decisions cs) p o ++ ahead w cs) e;
      chose = λ p c v stands e first.
          chosen_first p c stands e ∙ ap (λ (es : List Event). choice ∷ es) (with_first p c 0 (greatest_tried w (decisions cs) c) v stands first);
      chose_none = λ p c stands e first.
          chosen_first p c stands e ∙ ap (λ (es : List Event). choice ∷ es) (with_none p c 0 (greatest_tried w (decisions cs) c) stands first);
      tried_next = λ p c v u most stands first. ahead_is p c v most stands.0 ∙ with_first p c (suc v) most u stands first;
      took_back = λ p c v most stands first. ahead_is p c v most stands.0 ∙ with_none p c (suc v) most stands first;
    }

pub search_goes_on : SearchGoesOn
search_goes_on w cs = steps w cs

pub all_is_to_come : AllIsToCome
all_is_to_come w = append-nil (events_at w [])

-- the leaves among events, part by part
leaves_append : (es fs : List Event) → leaves_among (es ++ fs) ≡ leaves_among es ++ leaves_among fs
leaves_append [] fs = refl
leaves_append (choice ∷ es) fs = leaves_append es fs
leaves_append (leaf p ∷ es) fs = ap (λ (ps : List ValuesLeft). p ∷ ps) (leaves_append es fs)

leaves_flat : (go : ℕ → List Event) (vs : List ℕ) → leaves_among (flat_map go vs) ≡ flat_map (λ v. leaves_among (go v)) vs
leaves_flat go [] = refl
leaves_flat go (v ∷ vs) = leaves_append (go v) (flat_map go vs) ∙ ap (λ (ps : List ValuesLeft). leaves_among (go v) ++ ps) (leaves_flat go vs)

module _ (w : World) where
  abbrev AreLeaves : ℕ → Type 0
  AreLeaves k = (ds : List Decision) (p : ValuesLeft) → leaves_among (events_within k w ds p) ≡ leaves_within k w ds p

  leaves_below : (k : ℕ) → AreLeaves k → (ds : List Decision) (q : ValuesLeft) (o : Option Cell) → leaves_among (done_below (events_within k w) w ds q o) ≡ below (leaves_within k w) w ds q o
  leaves_below k are ds q None = refl
  leaves_below k are ds q (Some c) =
      leaves_flat (λ v. events_within k w (decide c v ∷ ds) (with_left q c (v ∷ []))) (tried w ds q c)
      ∙ flat_same (λ v. leaves_among (events_within k w (decide c v ∷ ds) (with_left q c (v ∷ [])))) (λ v. leaves_within k w (decide c v ∷ ds) (with_left q c (v ∷ [])))
      (λ v. are (decide c v ∷ ds) (with_left q c (v ∷ []))) (tried w ds q c)

  leaves_behind : (k : ℕ) → AreLeaves k → (ds : List Decision) (o : Option ValuesLeft) → leaves_among (done_behind (events_within k w) w ds o) ≡ behind_closing (leaves_within k w) w ds o
  leaves_behind k are ds None = refl
  leaves_behind k are ds (Some q) = leaves_below k are ds q (chosen w ds q)

  are_leaves : (k : ℕ) → AreLeaves k
  are_leaves zero ds p = refl
  are_leaves (suc k) ds p = leaves_behind k (are_leaves k) ds (closure w p)

pub leaves_are_found : LeavesAreFound
leaves_are_found w = are_leaves w (suc (many_cells w)) [] (all_left w)
