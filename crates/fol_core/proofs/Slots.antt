-- A table's symbols in their slots.
use Rattle.std.proofs.Common.{◌≡◌, zero, ◌+◌, ◌-◌, ◌%◌, ◌^◌, ◌<◌, ◌≤◌, take, set, replicate, get_or, inl, inr, subst, ℕ, suc, Bool, true, false, ◌==◌, List, [], ◌∷◌, ◌++◌, length, Option, Some, None, unwrap_or, if◌then◌else◌, slice_get, slice_index, refl, sym, ap, ap₂, ◌∙◌, arith}
use Rattle.std.specs.Hash.FoldHasher.{initial, write}
use Rattle.std.specs.Option.{option_map}
use Rattle.std.proofs.lemmas.Nat.{and_le_r}
use Rattle.std.proofs.Math.Seq.{take-append_seam, take-length}
use Rattle.std.proofs.lemmas.Bool.Decides.{Decides-eqb}
use Rattle.std.proofs.lemmas.Grind.{get_or-set_at}
use Rattle.std.proofs.lemmas.List.{length-take, length-set, length-append, get_or-set_other, get_or-take, get_or-replicate, take-append-le}
use Rattle.std.proofs.lemmas.Option.{slice_get_within}
use Rattle.fol_core.specs.SymbolTable.{Symbol, is_called, first_place, number_of, FindsEach}
use Rattle.fol_core.specs.SymbolSlots.{slot_of, belongs, with_one_in_front, last_in, AreHeads, AreLinks, IsTable}
use Rattle.fol_core.proofs.Places.{slice_get-push_cases}
use Rattle.fol_core.proofs.SymbolLemmas.{IsCalled, FindsEach-push}

-- what stands in a front stands in the whole, before the front's end
slice_get_front : {X : Type 0} (n : ℕ) (xs : List X) (k : ℕ) (x : X) → slice_get (take n xs) k ≡ Some x → (slice_get xs k ≡ Some x) × (k < n)
slice_get_front zero xs k x h = cc
slice_get_front (suc n) [] k x h = cc
slice_get_front (suc n) (y ∷ ys) zero x h = (h, omega arith)
slice_get_front (suc n) (y ∷ ys) (suc k) x h = let rest = slice_get_front n ys k x h in (rest.0, omega (arith, rest.1))

first_place_front : {X : Type 0} (test : X → Bool) (n : ℕ) (xs : List X) (k : ℕ) → first_place test xs ≡ Some k → k < n → first_place test (take n xs) ≡ Some k
first_place_front test zero xs k h below = absurd (omega (arith, below))
first_place_front test (suc n) [] k h below = h
first_place_front test (suc n) (x ∷ xs) k h below = by (test x) (first_place test xs) refl h (λ j e b. first_place_front test n xs j e b)
  where
    by : (b : Bool) (o : Option ℕ) → first_place test xs ≡ o → (if b then Some 0 else option_map suc o) ≡ Some k
        → ((j : ℕ) → first_place test xs ≡ Some j → j < n → first_place test (take n xs) ≡ Some j)
        → (if b then Some 0 else option_map suc (first_place test (take n xs))) ≡ Some k
    by true o e h rest = h
    by false None e h rest = cc
    by false (Some j) e h rest =
        let same : suc j ≡ k = ap (λ p. unwrap_or p 0) h in
        ap (option_map suc) (rest j e (omega (arith, same, below))) ∙ h

once_front : (n : ℕ) (table : List Symbol) → FindsEach table → FindsEach (take n table)
once_front n table once k s h =
    let there = slice_get_front n table k s h in
    first_place_front (is_called s.name s.arity) n table k (once k s there.0) there.1

-- a front of a front
take_within : {X : Type 0} (m n : ℕ) (xs : List X) → m ≤ n → take m (take n xs) ≡ take m xs
take_within zero n xs h = refl
take_within (suc m) zero xs h = absurd (omega (arith, h))
take_within (suc m) (suc n) [] h = refl
take_within (suc m) (suc n) (x ∷ xs) h = ap (λ t. x ∷ t) (take_within m n xs (omega (arith, h)))

-- a front with one more
pub take_one_more : {X : Type 0} (xs : List X) (n : ℕ) (x : X) → slice_get xs n ≡ Some x → take (suc n) xs ≡ take n xs ++ x ∷ []
take_one_more [] n x h = cc
take_one_more (y ∷ ys) zero x h = ap (λ o. unwrap_or o y ∷ []) h
take_one_more (y ∷ ys) (suc n) x h = ap (λ t. y ∷ t) (take_one_more ys n x h)

module _ (count slot : ℕ) where
  -- the last symbol of a slot stands within the table
  pub last_in_within : (table : List Symbol) → last_in count slot table ≤ length table
  last_in_within [] = omega arith
  last_in_within (s ∷ table) = by (belongs count slot s) (last_in count slot table) (last_in_within table)
    where
      by : (b : Bool) (m : ℕ) → m ≤ length table → with_one_in_front b m ≤ suc (length table)
      by true zero h = omega arith
      by false zero h = omega arith
      by true (suc m) h = omega (arith, h)
      by false (suc m) h = omega (arith, h)

  -- and belongs into it
  pub last_in-there : (table : List Symbol) (m : ℕ) → last_in count slot table ≡ suc m → (s : Symbol) × (slice_get table m ≡ Some s) × (belongs count slot s ≡ true)
  last_in-there [] m h = absurd (omega (arith, h))
  last_in-there (s ∷ table) m h = by (belongs count slot s) refl (last_in count slot table) (last_in-there table) h
    where
      by : (b : Bool) → belongs count slot s ≡ b → (k : ℕ) → ((j : ℕ) → k ≡ suc j → (t : Symbol) × (slice_get table j ≡ Some t) × (belongs count slot t ≡ true))
          → with_one_in_front b k ≡ suc m → (t : Symbol) × (slice_get (s ∷ table) m ≡ Some t) × (belongs count slot t ≡ true)
      by true e zero rest h = let here : m ≡ 0 = omega (arith, h) in (s, ap (slice_get (s ∷ table)) here, e)
      by false e zero rest h = absurd (omega (arith, h))
      by true e (suc k) rest h =
          let r = rest k refl in
          let here : m ≡ suc k = omega (arith, h) in
          (r.0, ap (slice_get (s ∷ table)) here ∙ r.1, r.2)
      by false e (suc k) rest h =
          let r = rest k refl in
          let here : m ≡ suc k = omega (arith, h) in
          (r.0, ap (slice_get (s ∷ table)) here ∙ r.1, r.2)

  -- where one more symbol comes
  pub last_in-push : (table : List Symbol) (s : Symbol) → last_in count slot (table ++ s ∷ []) ≡ (if belongs count slot s then suc (length table) else last_in count slot table)
  last_in-push [] s = by (belongs count slot s)
    where
      by : (b : Bool) → with_one_in_front b 0 ≡ (if b then 1 else 0)
      by true = refl
      by false = refl
  last_in-push (t ∷ table) s = ap (with_one_in_front (belongs count slot t)) (last_in-push table s) ∙ by (belongs count slot t) (belongs count slot s)
    where
      by : (a b : Bool) → with_one_in_front a (if b then suc (length table) else last_in count slot table) ≡ (if b then suc (suc (length table)) else with_one_in_front a (last_in count slot table))
      by true true = refl
      by false true = refl
      by true false = refl
      by false false = refl

module _ (count : ℕ) (name : List ℕ) (arity : ℕ) where
  abbrev own_slot : ℕ
  own_slot = slot_of count name arity

  -- a symbol belongs where its name and arity do
  called_belongs : (s : Symbol) → is_called name arity s ≡ true → belongs count own_slot s ≡ true
  called_belongs s e =
      let parts = (IsCalled name arity s).0 e in
      (Decides-eqb (slot_of count s.name s.arity) own_slot).1 (ap₂ (slot_of count) (sym parts.0) (sym parts.1))

  -- so none is called so behind the last of the slot
  before_last : (table : List Symbol) → number_of table name arity ≡ number_of (take (last_in count own_slot table) table) name arity
  before_last [] = refl
  before_last (s ∷ table) = by (belongs count own_slot s) refl (last_in count own_slot table) (before_last table)
    where
      other : (c : Bool) → is_called name arity s ≡ c → belongs count own_slot s ≡ false → number_of table name arity ≡ None
          → (if c then Some 0 else option_map suc (number_of table name arity)) ≡ None
      other true h e none = let clash : true ≡ false = sym (called_belongs s h) ∙ e in cc
      other false h e none = ap (option_map suc) none

      by : (b : Bool) → belongs count own_slot s ≡ b → (m : ℕ) → number_of table name arity ≡ number_of (take m table) name arity
          → number_of (s ∷ table) name arity ≡ number_of (take (with_one_in_front b m) (s ∷ table)) name arity
      by true e zero same = ap (λ o. if is_called name arity s then Some 0 else option_map suc o) same
      by false e zero same = other (is_called name arity s) refl e same
      by true e (suc m) same = ap (λ o. if is_called name arity s then Some 0 else option_map suc o) same
      by false e (suc m) same = ap (λ o. if is_called name arity s then Some 0 else option_map suc o) same

  -- a symbol of another name at the end
  number_of-other : (table : List Symbol) (s : Symbol) → is_called name arity s ≡ false → number_of (table ++ s ∷ []) name arity ≡ number_of table name arity
  number_of-other [] s h = ap (λ b. if b then Some 0 else option_map suc None) h
  number_of-other (t ∷ table) s h = ap (λ o. if is_called name arity t then Some 0 else option_map suc o) (number_of-other table s h)

  -- a name and arity can only stand before here, and what is just before here belongs into their slot
  pub record IsOnWay (table : List Symbol) (at : ℕ) : Type 0 where
    pub within : at ≤ length table
    pub same : number_of table name arity ≡ number_of (take at table) name arity
    pub here : (n : ℕ) (s : Symbol) → at ≡ suc n → slice_get table n ≡ Some s → belongs count own_slot s ≡ true

  on_way : (table : List Symbol) (n at : ℕ) → n ≤ length table → number_of table name arity ≡ number_of (take n table) name arity
      → at ≡ last_in count own_slot (take n table) → IsOnWay table at × (at ≤ n)
  on_way table n at within same is = (
    record {
      within = omega (arith, within, below);
      same = same ∙ before_last (take n table) ∙ ap (λ m. number_of (take m (take n table)) name arity) (sym is) ∙ ap (λ t. number_of t name arity) (take_within at n table below);
      here = λ k s e stands.
          let there = last_in-there count own_slot (take n table) k (sym is ∙ e) in
          let whole = (slice_get_front n table k there.0 there.1).0 in
          let one : there.0 ≡ s = ap (λ o. unwrap_or o s) (sym whole ∙ stands) in
          subst (λ t. belongs count own_slot t ≡ true) one there.2;
    },
    below,
  )
    where
      below : at ≤ n
      below = omega (arith, is, last_in_within count own_slot (take n table), length-take n table)

  -- the way begins at the head
  pub way_start : (heads : List ℕ) (table : List Symbol) → length heads ≡ count → AreHeads heads table → own_slot < count → IsOnWay table (slice_index heads own_slot)
  way_start heads table len are within =
      (on_way table (length table) (slice_index heads own_slot) (omega arith) (ap (λ t. number_of t name arity) (sym (take-length table)))
      (are own_slot (subst (λ c. own_slot < c) (sym len) within) ∙ ap (λ c. last_in c own_slot table) len ∙ ap (last_in count own_slot) (sym (take-length table)))).0

  -- and goes on by the links
  pub way_on : (links : List ℕ) (table : List Symbol) (n : ℕ) (s : Symbol) → AreLinks count links table → IsOnWay table (suc n) → slice_get table n ≡ Some s
      → is_called name arity s ≡ false → IsOnWay table (slice_index links n) × (slice_index links n ≤ n)
  way_on links table n s are way stands differs =
      on_way table n (slice_index links n) (omega (arith, way.within))
      (way.same ∙ ap (λ t. number_of t name arity) (take_one_more table n s stands) ∙ number_of-other (take n table) s differs)
      (are n s stands ∙ ap (λ j. last_in count j (take n table)) ((Decides-eqb (slot_of count s.name s.arity) own_slot).0 (way.here n s refl stands)))

  -- what is found is the number
  pub way_found : (table : List Symbol) (n : ℕ) (s : Symbol) → FindsEach table → slice_get table n ≡ Some s → is_called name arity s ≡ true → number_of table name arity ≡ Some n
  way_found table n s once stands e =
      let parts = (IsCalled name arity s).0 e in
      ap₂ (number_of table) parts.0 parts.1 ∙ once n s stands

-- one more symbol in its slot
module _ (heads links : List ℕ) (front : List Symbol) (s : Symbol) (number : ℕ) (is : number ≡ length front) (within : slot_of (length heads) s.name s.arity < length heads) (first : AreHeads heads front) where
  abbrev its : ℕ
  its = slot_of (length heads) s.name s.arity

  heads_on : (j : ℕ) → j < length heads → slice_index (set heads its (number + 1)) j ≡ last_in (length heads) j (front ++ s ∷ [])
  heads_on j h = by (its == j) refl ∙ sym (last_in-push (length heads) j front s)
    where
      by : (b : Bool) → (its == j) ≡ b → slice_index (set heads its (number + 1)) j ≡ (if b then suc (length front) else last_in (length heads) j front)
      by true e =
          let same : its ≡ j = (Decides-eqb its j).0 e in
          let next : number + 1 ≡ suc (length front) = omega (arith, is) in
          get_or-set_at heads its j (number + 1) 0 (sym same) within ∙ next
      by false e =
          get_or-set_other heads its j (number + 1) 0 (λ same. let clash : true ≡ false = sym ((Decides-eqb its j).1 (sym same)) ∙ e in cc) ∙ first j h

  pub heads_pushed : AreHeads (set heads its (number + 1)) (front ++ s ∷ [])
  heads_pushed j h =
      let len = length-set heads its (number + 1) in
      heads_on j (subst (λ c. j < c) len h) ∙ ap (λ c. last_in c j (front ++ s ∷ [])) (sym len)

  links_on : number < length links → AreLinks (length heads) links front → AreLinks (length heads) (set links number (slice_index heads its)) (front ++ s ∷ [])
  links_on room are n t h =
      elim (slice_get-push_cases front s t n h) [
        | inl e ↦
            let below = slice_get_within front n t e in
            get_or-set_other links number n (slice_index heads its) 0 (λ same. omega (arith, same, is, below)) ∙ are n t e
            ∙ ap (last_in (length heads) (slot_of (length heads) t.name t.arity)) (sym (take-append-le n front (s ∷ []) (omega (arith, below))))
        | inr e ↦
            let at : n ≡ number = sym e.0 ∙ sym is in
            let whole : front ≡ take n (front ++ s ∷ []) = sym (take-append_seam front (s ∷ [])) ∙ ap (λ k. take k (front ++ s ∷ [])) e.0 in
            get_or-set_at links number n (slice_index heads its) 0 at room ∙ first its within
            ∙ ap₂ (λ u f. last_in (length heads) (slot_of (length heads) u.name u.arity) f) e.1 whole
      ]

  pub links_pushed : number < length links → AreLinks (length heads) links front → AreLinks (length (set heads its (number + 1))) (set links number (slice_index heads its)) (front ++ s ∷ [])
  links_pushed room are = subst (λ c. AreLinks c (set links number (slice_index heads its)) (front ++ s ∷ [])) (sym (length-set heads its (number + 1))) (links_on room are)

-- no symbol in its slot yet
pub heads_none : (heads : List ℕ) → heads ≡ replicate (length heads) 0 → AreHeads heads []
heads_none heads is j h = ap (λ l. get_or l j 0) is ∙ get_or-replicate (length heads) j 0 0 h

-- links are those of each front
links_front : (count n : ℕ) (links : List ℕ) (table : List Symbol) → AreLinks count links table → AreLinks count (take n links) (take n table)
links_front count n links table are k t h =
    let there = slice_get_front n table k t h in
    get_or-take n links k 0 there.1 ∙ are k t there.0 ∙ ap (last_in count (slot_of count t.name t.arity)) (sym (take_within k n table (omega (arith, there.1))))

-- with room for more, the links at the end count for nothing
pub links_wide : (count : ℕ) (links more : List ℕ) (table : List Symbol) → length links ≡ length table → AreLinks count links table → AreLinks count (links ++ more) table
links_wide count links more table len are k t h =
    grown k (slice_get_within table k t h) ∙ are k t h
  where
    grown : (k : ℕ) → k < length table → slice_index (links ++ more) k ≡ slice_index links k
    grown k below =
        sym (get_or-take (length links) (links ++ more) k 0 (omega (arith, below, len))) ∙ ap (λ l. get_or l k 0) (take-append_seam links more)

-- the table with one more symbol, for a name and arity that aren't there
pub table_pushed : (heads links : List ℕ) (table : List Symbol) (s : Symbol) → IsTable heads links table → number_of table s.name s.arity ≡ None → length table < length heads
    → length table + 1 < 2 ^ 32 → slot_of (length heads) s.name s.arity < length heads
    → IsTable (set heads (slot_of (length heads) s.name s.arity) (length table + 1)) (set (links ++ 0 ∷ []) (length table) (slice_index heads (slot_of (length heads) s.name s.arity))) (table ++ s ∷ [])
table_pushed heads links table s is none room few within =
    let its = slot_of (length heads) s.name s.arity in
    let wide = length-append links (0 ∷ []) in
    let put = length-set (links ++ 0 ∷ []) (length table) (slice_index heads its) in
    let kept = length-set heads its (length table + 1) in
    let more = length-append table (s ∷ []) in
    record {
      slots = heads_pushed heads (links ++ 0 ∷ []) table s (length table) refl within is.slots;
      chains = links_pushed heads (links ++ 0 ∷ []) table s (length table) refl within is.slots (omega (arith, wide, is.linked)) (links_wide (length heads) links (0 ∷ []) table is.linked is.chains);
      linked = omega (arith, put, wide, more, is.linked);
      room = omega (arith, kept, more, room);
      few = omega (arith, more, few);
      once = FindsEach-push table s.name s.arity s.kind is.once none;
    }

-- the table without its last symbol
pub table_popped : (heads links : List ℕ) (table : List Symbol) (last : ℕ) (s : Symbol) → IsTable heads links table → length table ≡ suc last → slice_get table last ≡ Some s
    → slot_of (length heads) s.name s.arity < length heads
    → IsTable (set heads (slot_of (length heads) s.name s.arity) (slice_index links last)) (take last links) (take last table)
table_popped heads links table last s is len stands within = record {
  slots = λ j h. lead j (subst (λ c. j < c) kept h) ∙ ap (λ c. last_in c j (take last table)) (sym kept);
  chains = subst (λ c. AreLinks c (take last links) (take last table)) (sym kept) (links_front (length heads) last links table is.chains);
  linked = omega (arith, length-take last links, length-take last table, is.linked);
  room = omega (arith, kept, length-take last table, is.room);
  few = omega (arith, length-take last table, is.few);
  once = once_front last table is.once;
}
  where
    its : ℕ
    its = slot_of (length heads) s.name s.arity

    kept : length (set heads its (slice_index links last)) ≡ length heads
    kept = length-set heads its (slice_index links last)

    whole : table ≡ take last table ++ s ∷ []
    whole = sym (take-length table) ∙ ap (λ n. take n table) len ∙ take_one_more table last s stands

    lead : (j : ℕ) → j < length heads → slice_index (set heads its (slice_index links last)) j ≡ last_in (length heads) j (take last table)
    lead j h = by (its == j) refl (is.slots j h ∙ ap (last_in (length heads) j) whole ∙ last_in-push (length heads) j (take last table) s)
      where
        by : (b : Bool) → (its == j) ≡ b → slice_index heads j ≡ (if b then suc (length (take last table)) else last_in (length heads) j (take last table))
            → slice_index (set heads its (slice_index links last)) j ≡ last_in (length heads) j (take last table)
        by true e was =
            let same : its ≡ j = (Decides-eqb its j).0 e in
            get_or-set_at heads its j (slice_index links last) 0 (sym same) within ∙ is.chains last s stands ∙ ap (λ i. last_in (length heads) i (take last table)) same
        by false e was =
            get_or-set_other heads its j (slice_index links last) 0 (λ same. let clash : true ≡ false = sym ((Decides-eqb its j).1 (sym same)) ∙ e in cc) ∙ was

-- one more symbol is linked
pub linked_next : (heads links more_heads more_links : List ℕ) (table : List Symbol) (n : ℕ) (s : Symbol) → slice_get table n ≡ Some s → length table ≡ length links → length table ≤ length heads
    → slot_of (length heads) s.name s.arity < length heads → AreHeads heads (take n table) → AreLinks (length heads) links (take n table)
    → more_heads ≡ set heads (slot_of (length heads) s.name s.arity) (n + 1) → more_links ≡ set links n (slice_index heads (slot_of (length heads) s.name s.arity))
    → AreHeads more_heads (take (n + 1) table) × AreLinks (length more_heads) more_links (take (n + 1) table)
linked_next heads links more_heads more_links table n s stands linked room within first are hs ls = (
  subst (λ t. AreHeads more_heads t) grown (subst (λ l. AreHeads l (take n table ++ s ∷ [])) (sym hs) (heads_pushed heads links (take n table) s n long within first)),
  subst (λ t. AreLinks (length more_heads) more_links t) grown
      (subst (λ l. AreLinks (length more_heads) l (take n table ++ s ∷ [])) (sym ls)
      (subst (λ l. AreLinks (length l) (set links n (slice_index heads (slot_of (length heads) s.name s.arity))) (take n table ++ s ∷ [])) (sym hs) (links_pushed heads links (take n table) s n long within first (omega (arith, below, linked)) are))),
)
  where
    below : n < length table
    below = slice_get_within table n s stands

    long : n ≡ length (take n table)
    long = omega (arith, below, length-take n table)

    next : suc n ≡ n + 1
    next = omega arith

    grown : take n table ++ s ∷ [] ≡ take (n + 1) table
    grown = sym (take_one_more table n s stands) ∙ ap (λ k. take k table) next

-- a slot is among the slots
pub slot_within : (count : ℕ) (name : List ℕ) (arity : ℕ) → 0 < count → slot_of count name arity < count
slot_within count name arity some = omega (arith, some, and_le_r (((write initial name).state + arity) % 2 ^ 64) (count - 1))
