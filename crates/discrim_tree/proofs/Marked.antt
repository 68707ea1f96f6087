-- Walks through lists of marks, as they go on.
use Rattle.std.proofs.Common.{◌≡◌, ℕ, zero, suc, ◌+◌, ◌<◌, ◌≤◌, ◌⊎◌, Bool, true, false, cond, inl, inr, refl, sym, ap, subst, ◌∙◌, List, [], ◌∷◌, ◌++◌, map, Some, None, length, drop, take, get_or, arith}
use Rattle.std.specs.List.{Contains}
use Rattle.std.specs.List.Sorted.{IsStrictlyIncreasing}
use Rattle.std.specs.Ordering.{is_eq}
use Rattle.std.proofs.lemmas.Bool.{cases_lt}
use Rattle.std.proofs.lemmas.List.{drop_all}
use Rattle.std.proofs.lemmas.List.Elements.{Contains-append_left, Contains-push, Contains-push_cases}
use Rattle.std.proofs.lemmas.List.Kept.{AllPairs-from_increasing}
use Rattle.slab.specs.Slab.{get}
use Rattle.discrim_tree.specs.Contents.{target}
use Rattle.discrim_tree.specs.Marking.{EntersOver, EntersWithin, IsOver, IsToCome, IsToMeet, IsWithin, MeetsBehind, Yields}
use Rattle.discrim_tree.specs.Marks.{AreAmong, mark_step}
use Rattle.discrim_tree.specs.Nodes.{Store, edge_cmp, child, Grows, Reaches}
use Rattle.discrim_tree.specs.declared.edge.Edge.{Edge}
use Rattle.discrim_tree.specs.declared.edge.Edge.TheVariants.{Symbol}
use Rattle.discrim_tree.specs.declared.marking.Meeting.{Meeting}
use Rattle.discrim_tree.specs.declared.nodes.Node.{Node}
use Rattle.discrim_tree.proofs.Finding.{drop_next, take_next}
use Rattle.discrim_tree.proofs.NodeSteps.{child_by, held_by, is_same, none_some, some_same}
use Rattle.discrim_tree.proofs.Ordered.{contains_in}
use Rattle.discrim_tree.proofs.WalkSteps.{nowhere}

-- ---- what is in lists

pub contains_nothing : {X : Type 0} (x : X) → Contains [] x → ⊥
contains_nothing x h = omega (arith, h.1)

pub contains_first : {X : Type 0} (x : X) (xs : List X) → Contains (x ∷ xs) x
contains_first x xs = (0, omega arith, refl)

pub contains_later : {X : Type 0} (x y : X) (xs : List X) → Contains xs y → Contains (x ∷ xs) y
contains_later x y xs h = (suc h.0, omega (arith, h.1), h.2)

contains_by : {X : Type 0} (x y : X) (xs : List X) (k : ℕ) → k < length (x ∷ xs) → get_or (x ∷ xs) k y ≡ y → (x ≡ y) ⊎ Contains xs y
contains_by x y xs zero lt e = inl e
contains_by x y xs (suc k) lt e = inr (k, omega (arith, lt), e)

pub contains_either : {X : Type 0} (x y : X) (xs : List X) → Contains (x ∷ xs) y → (x ≡ y) ⊎ Contains xs y
contains_either x y xs h = contains_by x y xs h.0 h.1 h.2

-- what is in the first of a list, and one more
pub contains_next : {X : Type 0} (xs : List X) (i : ℕ) (d x : X) → i < length xs → Contains (take (i + 1) xs) x → Contains (take i xs) x ⊎ (get_or xs i d ≡ x)
contains_next xs i d x lt h = Contains-push_cases (take i xs) (get_or xs i d) x (subst (λ ys. Contains ys x) (take_next xs i d lt) h)

pub kept_itself : {X : Type 0} (xs : List X) → AreAmong xs xs
kept_itself xs x h = h

pub kept_on : {X : Type 0} (a b c : List X) → AreAmong a b → AreAmong b c → AreAmong a c
kept_on a b c f g x h = g x (f x h)

pub kept_pushed : {X : Type 0} (now new : List X) (k : X) → new ≡ now ++ k ∷ [] → AreAmong now new
kept_pushed now new k is x h = subst (λ xs. Contains xs x) (sym is) (Contains-append_left now (k ∷ []) x h)

pub there_pushed : {X : Type 0} (now new : List X) (k : X) → new ≡ now ++ k ∷ [] → Contains new k
there_pushed now new k is = subst (λ xs. Contains xs k) (sym is) (Contains-push now k)

-- ---- those that wait

module _ {X : Type 0} (IsAhead : X → ℕ → Type 0) where
  -- what lay ahead is found, or still lies ahead
  abbrev pub ComesOn : List X → List ℕ → List X → Type 0
  ComesOn first numbers waiting = (n : ℕ) → IsToCome IsAhead first n → Contains numbers n ⊎ IsToCome IsAhead waiting n

  pub comes_first : (first : List X) (numbers : List ℕ) → ComesOn first numbers first
  comes_first first numbers n h = inr h

  pub comes_next : (first waiting left after : List X) (x : X) (now new : List ℕ) → waiting ≡ left ++ x ∷ [] → AreAmong now new → AreAmong left after → ComesOn first now waiting → Yields IsAhead x new after → ComesOn first new after
  comes_next first waiting left after x now new is kept others so one n h = elim (so n h) [
    | inl found ↦ inl (kept n found)
    | inr w ↦ elim (Contains-push_cases left x w.0 (subst (λ xs. Contains xs w.0) is w.1)) [
      | inl before ↦ inr (w.0, others w.0 before, w.2)
      | inr last ↦ one n (subst (λ y. IsAhead y n) (sym last) w.2)
    ]
  ]

  pub comes_all : (first waiting : List X) (numbers : List ℕ) → waiting ≡ [] → ComesOn first numbers waiting → (n : ℕ) → IsToCome IsAhead first n → Contains numbers n
  comes_all first waiting numbers ended so n h = elim (so n h) [
    | inl found ↦ found
    | inr w ↦ absurd (contains_nothing w.0 (subst (λ xs. Contains xs w.0) ended w.1))
  ]

-- ---- branches that are gone through

-- the branches of marks that are left, and what holds of those that came
abbrev pub AreLeft : (ℕ → ℕ → Type 0) → List (Edge × ℕ) → List (Edge × ℕ) → Type 0
AreLeft HasCome branches left = (m k : ℕ) → target branches (mark_step m) ≡ Some k → (target left (mark_step m) ≡ Some k) ⊎ HasCome m k

pub all_left : (HasCome : ℕ → ℕ → Type 0) (branches : List (Edge × ℕ)) → AreLeft HasCome branches branches
all_left HasCome branches m k h = inl h

pub branch_done : (Came HasCome : ℕ → ℕ → Type 0) (branches left rest : List (Edge × ℕ)) (edge : Edge) (b : ℕ) → AreLeft Came branches left → left ≡ (edge, b) ∷ rest → ((m k : ℕ) → Came m k → HasCome m k)
    → ((m : ℕ) → edge ≡ mark_step m → HasCome m b) → AreLeft HasCome branches rest
branch_done Came HasCome branches left rest edge b so is on done m k h = elim (so m k h) [
  | inl f ↦ by (is_eq (edge_cmp (mark_step m) edge)) refl (ap (λ bs. target bs (mark_step m)) (sym is) ∙ f)
  | inr f ↦ inr (on m k f)
]
  where
    by : (c : Bool) → is_eq (edge_cmp (mark_step m) edge) ≡ c → target ((edge, b) ∷ rest) (mark_step m) ≡ Some k → (target rest (mark_step m) ≡ Some k) ⊎ HasCome m k
    by true s t =
        let same : b ≡ k = some_same b k (sym (ap (λ c. cond c (Some b) (target rest (mark_step m))) s) ∙ t) in
        inr (subst (λ i. HasCome m i) same (done m (sym (is_same (mark_step m) edge s))))
    by false s t = inl (sym (ap (λ c. cond c (Some b) (target rest (mark_step m))) s) ∙ t)

pub none_left : (HasCome : ℕ → ℕ → Type 0) (branches left : List (Edge × ℕ)) → left ≡ [] → AreLeft HasCome branches left → (m k : ℕ) → target branches (mark_step m) ≡ Some k → HasCome m k
none_left HasCome branches left ended so m k h = elim (so m k h) [
  | inl f ↦ absurd (none_some k (sym (ap (λ bs. target bs (mark_step m)) ended) ∙ f))
  | inr f ↦ f
]

-- ---- lists that rise

above_head : (m : ℕ) (ms : List ℕ) (y : ℕ) → IsStrictlyIncreasing (m ∷ ms) → Contains ms y → m < y
above_head m ms y rise h = subst (λ k. m < k) h.2 (AllPairs-from_increasing (m ∷ ms) rise 0 (suc h.0) y (omega arith) (omega (arith, h.1)))

pub rising_tail : (m : ℕ) (ms : List ℕ) → IsStrictlyIncreasing (m ∷ ms) → IsStrictlyIncreasing ms
rising_tail m ms rise k within =
    let e : suc k + 1 ≡ suc (k + 1) = omega arith in
    subst (λ n. get_or ms k 0 < get_or (m ∷ ms) n 0) e (rise (suc k) (omega arith))

rising_rest : (xs : List ℕ) (i : ℕ) → IsStrictlyIncreasing xs → IsStrictlyIncreasing (drop i xs)
rising_rest xs zero rise = rise
rising_rest [] (suc i) rise = rise
rising_rest (x ∷ xs) (suc i) rise = rising_rest xs i (rising_tail x xs rise)

module _ (x : ℕ) (rest : List ℕ) (rise : IsStrictlyIncreasing (x ∷ rest)) (m : ℕ) (ms : List ℕ) (rises : IsStrictlyIncreasing (m ∷ ms)) (among : AreAmong (x ∷ rest) (m ∷ ms)) where
  in_rest : (y : ℕ) → m < y → Contains (x ∷ rest) y → Contains ms y
  in_rest y lt h = elim (contains_either m y ms (among y h)) [
    | inl e ↦ absurd (omega (arith, lt, e))
    | inr there ↦ there
  ]

  -- all are met later
  none_met : m < x → AreAmong (x ∷ rest) ms
  none_met lt y h = elim (contains_either x y rest h) [
    | inl e ↦ in_rest y (omega (arith, lt, e)) h
    | inr there ↦ in_rest y (omega (arith, lt, above_head x rest y rise there)) h
  ]

  -- the first is met, and the others are later
  one_met : m ≡ x → AreAmong rest ms
  one_met e y h = in_rest y (omega (arith, e, above_head x rest y rise h)) (contains_later x y rest h)

  -- the first isn't met any more
  not_met : x < m → ⊥
  not_met lt = elim (contains_either m x ms (among x (contains_first x rest))) [
    | inl e ↦ omega (arith, lt, e)
    | inr there ↦ omega (arith, lt, above_head m ms x rises there)
  ]

module _ (marks : List ℕ) (met m : ℕ) where
  pub met_already : length marks ≤ met → MeetsBehind marks met m (Some met)
  met_already le ms rises among y h = absurd (contains_nothing y (subst (λ xs. Contains xs y) (drop_all met marks le) h))

  module _ (rise : IsStrictlyIncreasing marks) (lt : met < length marks) where
    begun : drop met marks ≡ get_or marks met 0 ∷ drop (met + 1) marks
    begun = drop_next marks met 0 lt

    rising : IsStrictlyIncreasing (get_or marks met 0 ∷ drop (met + 1) marks)
    rising = subst IsStrictlyIncreasing begun (rising_rest marks met rise)

    pub met_later : m < get_or marks met 0 → MeetsBehind marks met m (Some met)
    met_later less ms rises among =
        subst (λ xs. AreAmong xs ms) (sym begun) (none_met (get_or marks met 0) (drop (met + 1) marks) rising m ms rises (subst (λ xs. AreAmong xs (m ∷ ms)) begun among) less)

    pub met_here : m ≡ get_or marks met 0 → MeetsBehind marks met m (Some (met + 1))
    met_here same ms rises among =
        one_met (get_or marks met 0) (drop (met + 1) marks) rising m ms rises (subst (λ xs. AreAmong xs (m ∷ ms)) begun among) same

    pub met_never : get_or marks met 0 < m → MeetsBehind marks met m None
    met_never more ms rises among =
        not_met (get_or marks met 0) (drop (met + 1) marks) rising m ms rises (subst (λ xs. AreAmong xs (m ∷ ms)) begun among) more

pub same_mark : (a m count : ℕ) → Symbol a count ≡ mark_step m → a ≡ m
same_mark a m count e = cc

-- ---- nodes that come to those that wait

-- a mark that is among marks leads to a node that waits
abbrev pub HasEntered : List ℕ → List ℕ → ℕ → ℕ → Type 0
HasEntered marks waiting m k = Contains marks m → Contains waiting k

pub entered_on : (marks now new : List ℕ) → AreAmong now new → (m k : ℕ) → HasEntered marks now m k → HasEntered marks new m k
entered_on marks now new kept m k so h = kept k (so h)

-- one more mark is looked for
pub mark_done : (branches : List (Edge × ℕ)) (marks : List ℕ) (i : ℕ) (now new : List ℕ) → i < length marks → EntersWithin branches (take i marks) now → AreAmong now new
    → ((k : ℕ) → target branches (mark_step (get_or marks i 0)) ≡ Some k → Contains new k) → EntersWithin branches (take (i + 1) marks) new
mark_done branches marks i now new lt so kept done m k h among = elim (contains_next marks i 0 m lt among) [
  | inl before ↦ kept k (so m k h before)
  | inr last ↦ done k (ap (λ j. target branches (mark_step j)) last ∙ h)
]

-- by a first mark a node waits
abbrev pub HasMet : List ℕ → ℕ → List Meeting → ℕ → ℕ → Type 0
HasMet marks met waiting m k = (ms : List ℕ) → IsStrictlyIncreasing (m ∷ ms) → AreAmong (drop met marks) (m ∷ ms) → IsToMeet marks waiting k ms

pub met_on : (marks : List ℕ) (met : ℕ) (now new : List Meeting) → AreAmong now new → (m k : ℕ) → HasMet marks met now m k → HasMet marks met new m k
met_on marks met now new kept m k so ms rise among = let old = so ms rise among in (old.0, kept old.0 old.1, old.2, old.3)

pub met_pushed : (marks : List ℕ) (met : ℕ) (now new : List Meeting) (m k next : ℕ) → new ≡ now ++ record { node = k; met = next } ∷ [] → MeetsBehind marks met m (Some next) → HasMet marks met new m k
met_pushed marks met now new m k next is so ms rise among = (record { node = k; met = next }, there_pushed now new (record { node = k; met = next }) is, refl, so ms rise among)

pub met_nowhere : (marks : List ℕ) (met : ℕ) (new : List Meeting) (m k : ℕ) → MeetsBehind marks met m None → HasMet marks met new m k
met_nowhere marks met new m k so ms rise among = absurd (so ms rise among)

-- ---- one node

module _ (nodes : Store) (marks : List ℕ) where
  pub within_nothing : (at : ℕ) (numbers waiting : List ℕ) → get nodes at ≡ None → Yields (IsWithin nodes marks) at numbers waiting
  within_nothing at numbers waiting is n h = absurd (nowhere nodes at (map mark_step h.0) n is h.2)

  pub within_there : (at : ℕ) (node : Node) (numbers waiting : List ℕ) → get nodes at ≡ Some node → AreAmong node.contents.numbers numbers → EntersWithin node.contents.branches marks waiting
      → Yields (IsWithin nodes marks) at numbers waiting
  within_there at node numbers waiting is here below n h = by h.0 h.1 h.2
    where
      by : (ms : List ℕ) → AreAmong ms marks → Reaches nodes at (map mark_step ms) n → Contains numbers n ⊎ IsToCome (IsWithin nodes marks) waiting n
      by [] among r = inl (here n (contains_in n node.contents.numbers (held_by nodes at n node is r)))
      by (m ∷ ms) among r =
          inr (r.0, below m r.0 (sym (child_by nodes at (mark_step m) node is) ∙ r.1) (among m (contains_first m ms)), (ms, (λ y h. among y (contains_later m y ms h)), r.2))

  pub over_nothing : (s : Meeting) (numbers : List ℕ) (waiting : List Meeting) → get nodes s.node ≡ None → Yields (IsOver nodes marks) s numbers waiting
  over_nothing s numbers waiting is n h = absurd (nowhere nodes s.node (map mark_step h.0) n is h.3)

  pub over_there : (s : Meeting) (node : Node) (numbers : List ℕ) (waiting : List Meeting) → get nodes s.node ≡ Some node → (length marks ≤ s.met → AreAmong node.contents.numbers numbers)
      → EntersOver node.contents.branches marks s.met waiting → Yields (IsOver nodes marks) s numbers waiting
  over_there s node numbers waiting is here below n h = by h.0 h.1 h.2 h.3
    where
      all_met : AreAmong (drop s.met marks) [] → length marks ≤ s.met
      all_met among = elim (cases_lt s.met (length marks)) [
        | inl lt ↦ absurd (contains_nothing (get_or marks s.met 0) (among (get_or marks s.met 0) (subst (λ xs. Contains xs (get_or marks s.met 0)) (sym (drop_next marks s.met 0 lt)) (contains_first (get_or marks s.met 0) (drop (s.met + 1) marks)))))
        | inr le ↦ le
      ]

      by : (ms : List ℕ) → IsStrictlyIncreasing ms → AreAmong (drop s.met marks) ms → Reaches nodes s.node (map mark_step ms) n → Contains numbers n ⊎ IsToCome (IsOver nodes marks) waiting n
      by [] rise among r = inl (here (all_met among) n (contains_in n node.contents.numbers (held_by nodes s.node n node is r)))
      by (m ∷ ms) rise among r =
          let next = below m r.0 (sym (child_by nodes s.node (mark_step m) node is) ∙ r.1) ms rise among in
          inr (next.0, next.1, (ms, rising_tail m ms rise, next.3, subst (λ k. Reaches nodes k (map mark_step ms) n) (sym next.2) r.2))

-- ---- the end of a path

-- a path that goes on leads through the node behind its next mark, also where some are taken away
pub mark_taken : (nodes fewer : Store) (marks : List ℕ) (i at k n : ℕ) → i < length marks → Grows fewer nodes → child nodes at (mark_step (get_or marks i 0)) ≡ Some k
    → Reaches fewer at (map mark_step (drop i marks)) n → Reaches fewer k (map mark_step (drop (i + 1) marks)) n
mark_taken nodes fewer marks i at k n lt g c r =
    let there = subst (λ ms. Reaches fewer at (map mark_step ms) n) (drop_next marks i 0 lt) r in
    let same : there.0 ≡ k = some_same there.0 k (sym (g.0 at (mark_step (get_or marks i 0)) there.0 there.1) ∙ c) in
    subst (λ j. Reaches fewer j (map mark_step (drop (i + 1) marks)) n) same there.2

-- and to nothing where there is none
pub mark_barred : (nodes fewer : Store) (marks : List ℕ) (i at n : ℕ) → i < length marks → Grows fewer nodes → child nodes at (mark_step (get_or marks i 0)) ≡ None
    → Reaches fewer at (map mark_step (drop i marks)) n → ⊥
mark_barred nodes fewer marks i at n lt g c r =
    let there = subst (λ ms. Reaches fewer at (map mark_step ms) n) (drop_next marks i 0 lt) r in
    none_some there.0 (sym c ∙ g.0 at (mark_step (get_or marks i 0)) there.0 there.1)

-- one more step of a path
pub step_more : (path new : List Edge) (marks : List ℕ) (i : ℕ) → i < length marks → path ≡ map mark_step (take i marks) → new ≡ path ++ mark_step (get_or marks i 0) ∷ [] → new ≡ map mark_step (take (i + 1) marks)
step_more path new marks i lt so is =
    is ∙ ap (λ p. p ++ mark_step (get_or marks i 0) ∷ []) so
    ∙ sym (map_append (take i marks) (get_or marks i 0 ∷ []))
    ∙ ap (map mark_step) (sym (take_next marks i 0 lt))
  where
    map_append : (xs ys : List ℕ) → map mark_step (xs ++ ys) ≡ map mark_step xs ++ map mark_step ys
    map_append [] ys = refl
    map_append (x ∷ xs) ys = ap (λ p. mark_step x ∷ p) (map_append xs ys)
