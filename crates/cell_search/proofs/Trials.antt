-- What a trial comes to.
use Rattle.std.proofs.Common.{◌≡◌, ℕ, zero, suc, ◌+◌, ◌-◌, ◌*◌, ◌<◌, ◌≤◌, ◌==◌, ◌&&◌, Bool, true, false, not, is_none, cond, if◌then◌else◌, List, [], ◌∷◌, ◌++◌, length, drop, map, Option, None, Some, inl, inr, refl, sym, ap, ap₂, ◌∙◌, subst, arith}
use Rattle.std.specs.Prelude.{◌⊎◌, count_by, sum_by}
use Rattle.std.specs.List.{AllByRecursion, filter, range_with_len}
use Rattle.std.specs.Option.{option_map}
use Rattle.std.proofs.lemmas.Bool.{cases_lt, eq-eqb, eqb-true, eqb-false}
use Rattle.std.proofs.lemmas.List.{append-nil, length-append}
use Rattle.std.proofs.lemmas.List.Elements.{filter-append}
use Rattle.std.proofs.lemmas.List.Sums.{sum_by-cons, sum_by_push}
use Rattle.std.proofs.lemmas.Option.{none-some, same_Some}
use Rattle.mace_cells.specs.Trails.{Partial, partial, value_in, before_decision, earliest, is_struck_off, latest_mark, undone}
use Rattle.mace_cells.specs.World.{World, cell_of, many_cells}
use Rattle.mace_cells.specs.declared.trail.TrailEntry.{TrailEntry}
use Rattle.mace_ground.specs.Cells.{Cell}
use Rattle.model_tables.specs.Size.{bound_of}
use Rattle.plain_search.proofs.Reaching.{cell_itself}
use Rattle.plain_search.proofs.Sounding.{same_cell}
use Rattle.plain_search.specs.Closing.{closure}
use Rattle.plain_search.specs.Lefts.{ValuesLeft, IsAmong, is_same_cell, only_value}
use Rattle.plain_search.specs.Trying.{all_cells, assigned, is_open, tried_table}
use Rattle.cell_search.proofs.Boarding.{decided, earliest_all, earliest_more, entry}
use Rattle.cell_search.proofs.Following.{left_blank}
use Rattle.cell_search.proofs.Obeying.{table_of}
use Rattle.cell_search.proofs.Phasing.{waits_behind}
use Rattle.cell_search.proofs.Tabling.{cells_differ}
use Rattle.cell_search.proofs.Viewing.{assigned_view, is_uncrossed, view_has_values}
use Rattle.cell_search.proofs.Ways.{range_more}
use Rattle.cell_search.specs.Covering.{IsGoneOver}
use Rattle.cell_search.specs.Following.{AreWellLeft, Grows, IsPass, left_after}
use Rattle.cell_search.specs.Losses.{AreFresh, IsBoard}
use Rattle.cell_search.specs.Phases.{IsClosedTable, IsWaiting}
use Rattle.cell_search.specs.Searchable.{HasAllCells}
use Rattle.cell_search.specs.Trials.{come_of}
use Rattle.cell_search.specs.Viewing.{left_in}

-- what came after a decision is taken back with it
before_later : (later es : List TrailEntry) (e : TrailEntry) → AllByRecursion (λ x. x.decided ≡ false) later → e.decided ≡ true → before_decision (later ++ e ∷ es) ≡ es
before_later [] es e none is = ap (λ (b : Bool). if b then es else before_decision es) is
before_later (x ∷ later) es e none is = ap (λ (b : Bool). if b then later ++ e ∷ es else before_decision (later ++ e ∷ es)) none.0 ∙ before_later later es e none.1 is

mark_later : (later es : List TrailEntry) (e : TrailEntry) → AllByRecursion (λ x. x.decided ≡ false) later → e.decided ≡ true → latest_mark (later ++ e ∷ es) ≡ Some e.mark
mark_later [] es e none is = ap (λ (b : Bool). if b then Some e.mark else latest_mark es) is
mark_later (x ∷ later) es e none is = ap (λ (b : Bool). if b then Some x.mark else latest_mark (later ++ e ∷ es)) none.0 ∙ mark_later later es e none.1 is

many_more : (more ks : List ℕ) → length ks ≤ length (more ++ ks)
many_more [] ks = omega arith
many_more (k ∷ more) ks = let less = many_more more ks in omega (arith, less)

earliest_behind : (more ks : List ℕ) → earliest (length ks) (more ++ ks) ≡ ks
earliest_behind [] ks = earliest_all ks
earliest_behind (k ∷ more) ks = earliest_more (length ks) k (more ++ ks) (many_more more ks) ∙ earliest_behind more ks

-- the table with a decision
abbrev pub with_step : Partial → TrailEntry → Partial
with_step t e = partial t.many t.stride t.ranking (e ∷ t.entries) t.crossings

pub undone_is : (t u : Partial) (e : TrailEntry) → e.decided ≡ true → e.mark ≡ length t.crossings → u.many ≡ t.many → u.stride ≡ t.stride → u.ranking ≡ t.ranking → Grows (with_step t e) u → undone u ≡ t
undone_is t u e is mark many stride ranking grows =
    let steps : before_decision u.entries ≡ t.entries = ap before_decision grows.entries ∙ before_later grows.later t.entries e grows.undecided is in
    let marked : latest_mark u.entries ≡ Some (length t.crossings) = ap latest_mark grows.entries ∙ mark_later grows.later t.entries e grows.undecided is ∙ ap Some mark in
    let crossed : earliest (length t.crossings) u.crossings ≡ t.crossings = ap (earliest (length t.crossings)) grows.crossings ∙ earliest_behind grows.more t.crossings in
    rw (marked, steps, many, stride, ranking, crossed) refl

-- one more item is counted, or not
pub count_cons : {X : Type 0} (f : X → Bool) (x : X) (xs : List X) → count_by f (x ∷ xs) ≡ cond (f x) 1 0 + count_by f xs
count_cons f x xs = sum_by-cons (λ y. cond (f y) 1 0) x xs

pub count_same : (f g : ℕ → Bool) (a n : ℕ) → ((k : ℕ) → a ≤ k → k < a + n → g k ≡ f k) → count_by g (range_with_len a n) ≡ count_by f (range_with_len a n)
count_same f g a zero same = refl
count_same f g a (suc n) same =
    count_cons g a (range_with_len (a + 1) n)
    ∙ ap₂ (λ (b : Bool) (m : ℕ). cond b 1 0 + m) (same a (omega arith) (omega arith)) (count_same f g (a + 1) n (λ k low high. same k (omega (arith, low)) (omega (arith, high))))
    ∙ sym (count_cons f a (range_with_len (a + 1) n))

-- a test that one more number passes
count_one : (f g : ℕ → Bool) (a n i : ℕ) → a ≤ i → i < a + n → f i ≡ false → g i ≡ true → ((k : ℕ) → (k ≡ i → ⊥) → g k ≡ f k) → count_by g (range_with_len a n) ≡ suc (count_by f (range_with_len a n))
count_one f g a zero i low high off on same = absurd (omega (arith, low, high))
count_one f g a (suc n) i low high off on same =
    let first = count_cons f a (range_with_len (a + 1) n) in
    let second = count_cons g a (range_with_len (a + 1) n) in
    by first second (λ less. count_one f g (a + 1) n i (omega (arith, less)) (omega (arith, high)) off on same) (cases_lt a i)
  where
    by : count_by f (range_with_len a (suc n)) ≡ cond (f a) 1 0 + count_by f (range_with_len (a + 1) n) → count_by g (range_with_len a (suc n)) ≡ cond (g a) 1 0 + count_by g (range_with_len (a + 1) n)
        → (a < i → count_by g (range_with_len (a + 1) n) ≡ suc (count_by f (range_with_len (a + 1) n))) → (a < i) ⊎ (i ≤ a) → count_by g (range_with_len a (suc n)) ≡ suc (count_by f (range_with_len a (suc n)))
    by first second behind (inl less) =
        let rest = behind less in
        let here : ◌≡◌ {A = ℕ} (cond (g a) 1 0) (cond (f a) 1 0) = ap (λ (b : Bool). cond b 1 0) (same a (λ e. omega (arith, e, less))) in
        omega (arith, first, second, rest, here)
    by first second behind (inr most) =
        let here : i ≡ a = omega (arith, low, most) in
        let g_on : ◌≡◌ {A = ℕ} (cond (g a) 1 0) 1 = ap (λ (b : Bool). cond b 1 0) (ap g (sym here) ∙ on) in
        let f_off : ◌≡◌ {A = ℕ} (cond (f a) 1 0) 0 = ap (λ (b : Bool). cond b 1 0) (ap f (sym here) ∙ off) in
        let rest = count_same f g (a + 1) n (λ k above below. same k (λ e. omega (arith, e, above, here))) in
        omega (arith, first, second, rest, g_on, f_off)

-- cells that got a value, but for one
abbrev got : List TrailEntry → List TrailEntry → ℕ → ℕ → Bool
got es fs cell k = is_none (value_in es k) && (not (is_none (value_in fs k)) && not (cell == k))

and_false : (b : Bool) → (b && false) ≡ false
and_false true = refl
and_false false = refl

module _ (w : World) (es : List TrailEntry) (e : TrailEntry) where
  none_got : (k : ℕ) → got es (e ∷ es) e.cell k ≡ false
  none_got k = by (k == e.cell) refl
    where
      by : (b : Bool) → (k == e.cell) ≡ b → (is_none (value_in es k) && (not (is_none (if b then Some e.value else value_in es k)) && not (e.cell == k))) ≡ false
      by true h =
          let same : (e.cell == k) ≡ true = eq-eqb e.cell k (sym (eqb-true k e.cell h)) in
          ap (λ (b : Bool). is_none (value_in es k) && (true && not b)) same ∙ and_false (is_none (value_in es k))
      by false h = at (value_in es k)
        where
          at : (o : Option ℕ) → (is_none o && (not (is_none o) && not (e.cell == k))) ≡ false
          at None = refl
          at (Some v) = refl

  -- a cell without a value had none before
  blank_before : (later : List TrailEntry) (k : ℕ) → value_in (later ++ e ∷ es) k ≡ None → (value_in es k ≡ None) × (k ≡ e.cell → ⊥)
  blank_before [] k blank = by (k == e.cell) refl blank
    where
      by : (b : Bool) → (k == e.cell) ≡ b → (if b then Some e.value else value_in es k) ≡ None → (value_in es k ≡ None) × (k ≡ e.cell → ⊥)
      by true h g = absurd (none-some e.value (sym g))
      by false h g = (g, eqb-false k e.cell h)
  blank_before (x ∷ later) k blank = by (k == x.cell) blank (λ g. blank_before later k g)
    where
      by : (b : Bool) → (if b then Some x.value else value_in (later ++ e ∷ es) k) ≡ None → (value_in (later ++ e ∷ es) k ≡ None → (value_in es k ≡ None) × (k ≡ e.cell → ⊥)) → (value_in es k ≡ None) × (k ≡ e.cell → ⊥)
      by true g rest = absurd (none-some x.value (sym g))
      by false g rest = rest g

  pub many_got : (later : List TrailEntry) → AreFresh w (later ++ e ∷ es) → count_by (got es (later ++ e ∷ es) e.cell) (range_with_len 0 (many_cells w)) ≡ length later
  many_got [] fresh = none 0 (many_cells w)
    where
      none : (a n : ℕ) → count_by (got es (e ∷ es) e.cell) (range_with_len a n) ≡ 0
      none a zero = refl
      none a (suc n) = count_cons (got es (e ∷ es) e.cell) a (range_with_len (a + 1) n) ∙ ap₂ (λ (b : Bool) (m : ℕ). cond b 1 0 + m) (none_got a) (none (a + 1) n)
  many_got (x ∷ later) fresh =
      let blank = blank_before later x.cell fresh.1 in
      count_one (got es (later ++ e ∷ es) e.cell) (got es (x ∷ later ++ e ∷ es) e.cell) 0 (many_cells w) x.cell (omega arith) (let few = fresh.0 in omega (arith, few)) (off blank.0) (on blank.0 blank.1) others
      ∙ ap suc (many_got later fresh.2)
    where
      off : value_in es x.cell ≡ None → got es (later ++ e ∷ es) e.cell x.cell ≡ false
      off before = ap₂ (λ (a b : Option ℕ). is_none a && (not (is_none b) && not (e.cell == x.cell))) before fresh.1

      on : value_in es x.cell ≡ None → (x.cell ≡ e.cell → ⊥) → got es (x ∷ later ++ e ∷ es) e.cell x.cell ≡ true
      on before other =
          let here : (x.cell == x.cell) ≡ true = eq-eqb x.cell x.cell refl in
          let apart : (e.cell == x.cell) ≡ false = differs (e.cell == x.cell) refl other in
          ap (λ (a : Option ℕ). is_none a && (not (is_none (if x.cell == x.cell then Some x.value else value_in (later ++ e ∷ es) x.cell)) && not (e.cell == x.cell))) before
          ∙ ap₂ (λ (a b : Bool). not (is_none (if a then Some x.value else value_in (later ++ e ∷ es) x.cell)) && not b) here apart
        where
          differs : (b : Bool) → (e.cell == x.cell) ≡ b → (x.cell ≡ e.cell → ⊥) → b ≡ false
          differs true h other = absurd (other (sym (eqb-true e.cell x.cell h)))
          differs false h other = refl

      others : (k : ℕ) → (k ≡ x.cell → ⊥) → got es (x ∷ later ++ e ∷ es) e.cell k ≡ got es (later ++ e ∷ es) e.cell k
      others k other = by (k == x.cell) refl
        where
          by : (b : Bool) → (k == x.cell) ≡ b → (is_none (value_in es k) && (not (is_none (if b then Some x.value else value_in (later ++ e ∷ es) k)) && not (e.cell == k))) ≡ got es (later ++ e ∷ es) e.cell k
          by true h = absurd (other (eqb-true k x.cell h))
          by false h = refl

-- a cell is open where it has no value
module _ (w : World) (t : Partial) (cells : HasAllCells w) (well : AreWellLeft w t) where
  open_by : (us : List ℕ) (o : Option ℕ) → 0 < length us → only_value us ≡ o → is_open us ≡ is_none o
  open_by [] o some is = absurd (omega (arith, some))
  open_by (u ∷ []) o some is = ap is_none is
  open_by (u ∷ v ∷ us) o some is = ap is_none is

  pub open_is_blank : (k : ℕ) → k < many_cells w → is_open (left_in w t (cell_of w k)) ≡ is_none (value_in t.entries k)
  open_is_blank k few = open_by (left_in w t (cell_of w k)) (value_in t.entries k) (table_of w t cells well (cell_of w k)).1 (view_has_values w t cells well k few)

pub same_number : (w : World) → ((j k : ℕ) → j < many_cells w → k < many_cells w → cell_of w j ≡ cell_of w k → j ≡ k) → (j k : ℕ) → j < many_cells w → k < many_cells w → is_same_cell (cell_of w j) (cell_of w k) ≡ (j == k)
same_number w differ j k less few = by (is_same_cell (cell_of w j) (cell_of w k)) refl (j == k) refl
  where
    by : (b : Bool) → is_same_cell (cell_of w j) (cell_of w k) ≡ b → (d : Bool) → (j == k) ≡ d → b ≡ d
    by true h true g = refl
    by false h false g = refl
    by true h false g = absurd (eqb-false j k g (differ j k less few (same_cell (cell_of w j) (cell_of w k) h)))
    by false h true g = absurd (let e : false ≡ true = sym h ∙ (ap (λ (i : ℕ). is_same_cell (cell_of w j) (cell_of w i)) (sym (eqb-true j k g)) ∙ cell_itself (cell_of w j)) in cc)

pub count_map : (f : Cell → Bool) (c : ℕ → Cell) (ks : List ℕ) → count_by f (map c ks) ≡ count_by (λ k. f (c k)) ks
count_map f c [] = refl
count_map f c (k ∷ ks) = count_cons f (c k) (map c ks) ∙ ap (λ (m : ℕ). cond (f (c k)) 1 0 + m) (count_map f c ks) ∙ sym (count_cons (λ k. f (c k)) k ks)

-- the steps behind a decision are the other cells that it assigns
pub assigned_is : (w : World) (t u : Partial) (e : TrailEntry) → HasAllCells w → ((j k : ℕ) → j < many_cells w → k < many_cells w → cell_of w j ≡ cell_of w k → j ≡ k) → AreWellLeft w t → AreWellLeft w u → AreFresh w u.entries → e.cell < many_cells w → (grows : Grows (with_step t e) u)
    → assigned w (left_in w t) (cell_of w e.cell) (Some (left_in w u)) ≡ length grows.later
assigned_is w t u e cells differ well still fresh few grows =
    count_map (λ d. is_open (left_in w t d) && (not (is_open (left_in w u d)) && not (is_same_cell (cell_of w e.cell) d))) (cell_of w) (range_with_len 0 (many_cells w))
    ∙ count_same (got t.entries (grows.later ++ e ∷ t.entries) e.cell) (λ k. is_open (left_in w t (cell_of w k)) && (not (is_open (left_in w u (cell_of w k))) && not (is_same_cell (cell_of w e.cell) (cell_of w k)))) 0 (many_cells w) each
    ∙ many_got w t.entries e grows.later (subst (AreFresh w) grows.entries fresh)
  where
    each : (k : ℕ) → 0 ≤ k → k < 0 + many_cells w → (is_open (left_in w t (cell_of w k)) && (not (is_open (left_in w u (cell_of w k))) && not (is_same_cell (cell_of w e.cell) (cell_of w k)))) ≡ got t.entries (grows.later ++ e ∷ t.entries) e.cell k
    each k low high =
        let inside : k < many_cells w = omega (arith, high) in
        let first = open_is_blank w t cells well k inside in
        let then_open = open_is_blank w u cells still k inside ∙ ap (λ (fs : List TrailEntry). is_none (value_in fs k)) grows.entries in
        let here = same_number w differ e.cell k few inside in
        ap (λ (b : Bool). b && (not (is_open (left_in w u (cell_of w k))) && not (is_same_cell (cell_of w e.cell) (cell_of w k)))) first
        ∙ ap₂ (λ (a b : Bool). is_none (value_in t.entries k) && (not a && not b)) then_open here

-- what a trial came to is the closure with the value
pub come_is : (w : World) (t u : Partial) (e : TrailEntry) (closed : Bool) → HasAllCells w → IsClosedTable w t → IsBoard w u → e.decided ≡ true → e.cell < many_cells w → (grows : Grows (with_step t e) u)
    → closure w (left_in w (with_step t e)) ≡ left_after w closed u → (closed ≡ true → AreWellLeft w u)
    → (if closed then Some (length grows.later) else None) ≡ come_of w (left_in w t) (cell_of w e.cell) e.value
come_is w t u e closed cells table board is few grows closes well =
    let view = assigned_view w t e cells few in
    let tried : tried_table w (left_in w t) (cell_of w e.cell) e.value ≡ left_after w closed u = sym (ap (closure w) view) ∙ closes in
    by closed refl tried
  where
    by : (b : Bool) → closed ≡ b → tried_table w (left_in w t) (cell_of w e.cell) e.value ≡ left_after w b u → (if b then Some (length grows.later) else None) ≡ come_of w (left_in w t) (cell_of w e.cell) e.value
    by true done tried =
        ap Some (sym (assigned_is w t u e cells (cells_differ w cells.once cells.some) table.well (well done) board.fresh few grows))
        ∙ sym (ap (option_map (λ q. assigned w (left_in w t) (cell_of w e.cell) (Some q))) tried)
    by false done tried = sym (ap (option_map (λ q. assigned w (left_in w t) (cell_of w e.cell) (Some q))) tried)

-- the values that are left below one more
pub left_more : (f : ℕ → Bool) (n : ℕ) → f n ≡ true → filter f (range_with_len 0 (n + 1)) ≡ filter f (range_with_len 0 n) ++ n ∷ []
left_more f n is = ap (filter f) (range_more n) ∙ filter-append f (range_with_len 0 n) (n ∷ []) ∙ ap (λ (b : Bool). filter f (range_with_len 0 n) ++ (if b then n ∷ [] else [])) is

pub left_same : (f : ℕ → Bool) (n : ℕ) → f n ≡ false → filter f (range_with_len 0 (n + 1)) ≡ filter f (range_with_len 0 n)
left_same f n is = ap (filter f) (range_more n) ∙ filter-append f (range_with_len 0 n) (n ∷ []) ∙ ap (λ (b : Bool). filter f (range_with_len 0 n) ++ (if b then n ∷ [] else [])) is ∙ append-nil (filter f (range_with_len 0 n))

-- the sums so far, by what a trial of one more value came to
pub assigned_more : (w : World) (p : ValuesLeft) (c : Cell) (vs : List ℕ) (v others : ℕ) → Some others ≡ come_of w p c v
    → sum_by (λ u. assigned w p c (tried_table w p c u)) (vs ++ v ∷ []) ≡ sum_by (λ u. assigned w p c (tried_table w p c u)) vs + others
assigned_more w p c vs v others is =
    sum_by_push (λ u. assigned w p c (tried_table w p c u)) vs v ∙ ap (λ (n : ℕ). sum_by (λ u. assigned w p c (tried_table w p c u)) vs + n) (by (tried_table w p c v) is)
  where
    by : (o : Option ValuesLeft) → Some others ≡ option_map (λ q. assigned w p c (Some q)) o → assigned w p c o ≡ others
    by None h = absurd (none-some others (sym h))
    by (Some q) h = sym (same_Some others (assigned w p c (Some q)) h)

pub none_more : (w : World) (p : ValuesLeft) (c : Cell) (vs : List ℕ) (v : ℕ) → None ≡ come_of w p c v
    → (sum_by (λ u. assigned w p c (tried_table w p c u)) (vs ++ v ∷ []) ≡ sum_by (λ u. assigned w p c (tried_table w p c u)) vs) × (count_by (λ u. is_none (tried_table w p c u)) (vs ++ v ∷ []) ≡ count_by (λ u. is_none (tried_table w p c u)) vs + 1)
none_more w p c vs v is = (
  sum_by_push (λ u. assigned w p c (tried_table w p c u)) vs v ∙ ap (λ (o : Option ValuesLeft). sum_by (λ u. assigned w p c (tried_table w p c u)) vs + assigned w p c o) none ∙ add-zero (sum_by (λ u. assigned w p c (tried_table w p c u)) vs),
  sum_by_push (λ u. cond (is_none (tried_table w p c u)) 1 0) vs v ∙ ap (λ (o : Option ValuesLeft). count_by (λ u. is_none (tried_table w p c u)) vs + cond (is_none o) 1 0) none,
)
  where
    none : tried_table w p c v ≡ None
    none = by (tried_table w p c v) is
      where
        by : (o : Option ValuesLeft) → None ≡ option_map (λ q. assigned w p c (Some q)) o → o ≡ None
        by None h = refl
        by (Some q) h = absurd (none-some (assigned w p c (Some q)) h)

    add-zero : (n : ℕ) → n + 0 ≡ n
    add-zero n = omega arith

pub some_more : (w : World) (p : ValuesLeft) (c : Cell) (vs : List ℕ) (v others : ℕ) → Some others ≡ come_of w p c v
    → count_by (λ u. is_none (tried_table w p c u)) (vs ++ v ∷ []) ≡ count_by (λ u. is_none (tried_table w p c u)) vs
some_more w p c vs v others is =
    sum_by_push (λ u. cond (is_none (tried_table w p c u)) 1 0) vs v ∙ ap (λ (n : ℕ). count_by (λ u. is_none (tried_table w p c u)) vs + n) (by (tried_table w p c v) is) ∙ add-zero (count_by (λ u. is_none (tried_table w p c u)) vs)
  where
    by : (o : Option ValuesLeft) → Some others ≡ option_map (λ q. assigned w p c (Some q)) o → ◌≡◌ {A = ℕ} (cond (is_none o) 1 0) 0
    by None h = absurd (none-some others (sym h))
    by (Some q) h = refl

    add-zero : (n : ℕ) → n + 0 ≡ n
    add-zero n = omega arith

-- a value that a cell has left is tried
module _ (w : World) (t : Partial) (board : IsBoard w t) (cells : HasAllCells w) (table : IsClosedTable w t) (k v : ℕ) (few : k < many_cells w) (blank : value_in t.entries k ≡ None) (small : v < bound_of w.size (cell_of w k).kind) (left : is_struck_off (k * t.stride + v) t.crossings ≡ false) where
  abbrev e : TrailEntry
  e = entry k v true (length t.crossings)

  abbrev with_value : Partial
  with_value = with_step t e

  pub step_board : IsBoard w with_value
  step_board = decided w t board k v few blank

  among : IsAmong v (left_in w t (cell_of w k))
  among = subst (IsAmong v) (sym (left_blank w t cells k few blank)) (is_uncrossed t k (bound_of w.size (cell_of w k).kind) v small left)

  waits : IsWaiting w with_value true (length t.entries)
  waits = waits_behind w t e cells table refl few blank among

  pub back_is : (u : Partial) → IsBoard w u → Grows with_value u → undone u ≡ t
  back_is u still grows =
      undone_is t u e refl refl (still.many ∙ sym board.many) (still.stride ∙ sym board.stride) (still.ranking ∙ sym board.ranking) grows

  pub after_is : (u : Partial) (closed : Bool) → IsBoard w u → Grows with_value u → (AreWellLeft w with_value → IsGoneOver w with_value (length t.entries) → closure w (left_in w with_value) ≡ left_after w closed u)
      → (HasAllCells w → AreWellLeft w with_value → IsPass w with_value closed u × (closed ≡ true → AreWellLeft w u))
      → (if closed then Some (length u.entries - length t.entries - 1) else None) ≡ come_of w (left_in w t) (cell_of w k) v
  after_is u closed still grows closes goes =
      ap (λ (n : ℕ). if closed then Some n else None) many
      ∙ come_is w t u e closed cells table still refl few grows (closes waits.0 waits.1) (goes cells waits.0).1
    where
      many : length u.entries - length t.entries - 1 ≡ length grows.later
      many =
          let all = ap (λ (es : List TrailEntry). length es) grows.entries in
          let parts = length-append grows.later (e ∷ t.entries) in
          omega (arith, all, parts)
