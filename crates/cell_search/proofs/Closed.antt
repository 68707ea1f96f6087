-- A table is closed, where what each instance tells by it is done.
use Rattle.std.proofs.Common.{◌≡◌, ℕ, zero, suc, ◌+◌, ◌*◌, ◌^◌, ◌<◌, ◌≤◌, max, Bool, true, false, not, if◌then◌else◌, List, [], ◌∷◌, ◌++◌, length, map, get_or, Option, None, Some, inl, refl, sym, ap, ◌∙◌, subst, arith}
use Rattle.std.specs.List.{filter, range_with_len}
use Rattle.std.specs.Option.{option_and_then}
use Rattle.fol_core.specs.Literals.{ClauseTree}
use Rattle.std.proofs.lemmas.List.FromFn.{length-range_with_len}
use Rattle.mace_cells.specs.Trails.{Partial, value_in, is_struck_off}
use Rattle.mace_cells.specs.World.{World}
use Rattle.mace_cells.specs.declared.trail.TrailEntry.{TrailEntry}
use Rattle.mace_ground.specs.Cells.{Cell, digits}
use Rattle.mace_ground.specs.Instances.{variables_in, assigned_by, IsInstance}
use Rattle.plain_search.proofs.Solved.{digits_below, digits_many}
use Rattle.plain_search.proofs.Agreeing.{closure_in_any_order, contradiction_in_any_order}
use Rattle.plain_search.specs.Closing.{closure, Told, nothing, contradiction, asks, told, narrowed, followed, Ground, pass, instances_of}
use Rattle.plain_search.specs.Lefts.{ValuesLeft, IsAmong, all_left}
use Rattle.plain_search.proofs.Stopping.{closure_is_closed}
use Rattle.std.proofs.lemmas.Option.{same_Some}
use Rattle.cell_search.proofs.Passing.{goes_on}
use Rattle.plain_search.specs.Orders.{IsTable, CanClose, Obeys}
use Rattle.plain_search.specs.PlainLaws.{IsClosed}
use Rattle.cell_search.proofs.Bounding.{bound_fits}
use Rattle.model_tables.specs.Size.{bound_of}
use Rattle.cell_search.proofs.Gone.{at_fits, first_all}
use Rattle.cell_search.proofs.Instances.{clauses_fit, numbered}
use Rattle.cell_search.proofs.Keeping.{keeps_one, one_among, takes_none, unchanged}
use Rattle.cell_search.proofs.Obeying.{table_of}
use Rattle.cell_search.proofs.Telling.{told_as_seen}
use Rattle.cell_search.proofs.Viewing.{view_has_values}
use Rattle.cell_search.specs.Covering.{IsGoneOver}
use Rattle.cell_search.specs.Following.{AreWellLeft, GoesOver, IsFollowed, left_after}
use Rattle.cell_search.specs.Searchable.{HasAllCells}
use Rattle.cell_search.specs.Telling.{told_seen}
use Rattle.cell_search.specs.Viewing.{number_of, left_at, left_by, left_in}

first_among : (xs : List ℕ) → 0 < length xs → (x : ℕ) × IsAmong x xs
first_among [] some = absurd (omega (arith, some))
first_among (x ∷ xs) some = (x, inl refl)

-- doing what is done changes nothing
stays : (p : ValuesLeft) → IsTable p → (t : Told) → Obeys p t → followed p t ≡ Some p
stays p table nothing obeys = refl
stays p table contradiction obeys = absurd obeys
stays p table (asks c v true) obeys =
    let x = first_among (p c) (table c).1 in
    let there : IsAmong v (p c) = subst (λ (y : ℕ). IsAmong y (p c)) (obeys x.0 x.1) x.1 in
    let alone : p c ≡ v ∷ [] = one_among 0 v (p c) (table c).0 there obeys in
    ap (narrowed p c) (keeps_one 0 v (p c) (table c).0 there) ∙ unchanged p c (v ∷ []) v alone (inl refl)
stays p table (asks c v false) obeys =
    let x = first_among (p c) (table c).1 in
    ap (narrowed p c) (takes_none 0 v (p c) (table c).0 obeys) ∙ unchanged p c (p c) x.0 refl x.1

module _ (n : ℕ) (some : 0 < n) (p : ValuesLeft) (table : IsTable p) where
  in_front : (g : Ground) (gs : List Ground) → Obeys p (told n p (assigned_by g.elements) g.clause) → pass n gs p ≡ Some p → pass n (g ∷ gs) p ≡ Some p
  in_front g gs obeys rest = ap (option_and_then (pass n gs)) (stays p table (told n p (assigned_by g.elements) g.clause) obeys) ∙ rest

  of_clause : (c : ClauseTree) (a m : ℕ) (gs : List Ground) → a + m ≤ n ^ variables_in c → ((xs : List ℕ) → IsInstance n c xs → Obeys p (told n p (assigned_by xs) c)) → pass n gs p ≡ Some p
      → pass n (map (numbered n c) (range_with_len a m) ++ gs) p ≡ Some p
  of_clause c a zero gs few obeys rest = rest
  of_clause c a (suc m) gs few obeys rest =
      in_front (numbered n c a) (map (numbered n c) (range_with_len (a + 1) m) ++ gs)
      (obeys (digits n (variables_in c) a) (digits_many n (variables_in c) a, digits_below n (variables_in c) a some (omega (arith, few)))) (of_clause c (a + 1) m gs (omega (arith, few)) obeys rest)

  of_clauses : (cs : List ClauseTree) → ((i : ℕ) (c : ClauseTree) (xs : List ℕ) → i < length cs → c ≡ get_or cs i c → IsInstance n c xs → Obeys p (told n p (assigned_by xs) c)) → pass n (instances_of n cs) p ≡ Some p
  of_clauses [] obeys = refl
  of_clauses (c ∷ cs) obeys =
      of_clause c 0 (n ^ variables_in c) (instances_of n cs) (omega arith) (λ xs inst. obeys 0 c xs (omega arith) refl inst)
      (of_clauses cs (λ i d xs h is inst. obeys (suc i) d xs (omega (arith, h)) is inst))

pub closed_when : (w : World) (t : Partial) (n : ℕ) → HasAllCells w → AreWellLeft w t → length t.entries ≤ n → IsGoneOver w t n → IsClosed w (left_in w t)
closed_when w t n cells well past gone =
    of_clauses w.size cells.some (left_in w t) (table_of w t cells well) w.clauses
    (λ i c xs h is inst.
    let all : told_seen w t.entries (assigned_by xs) c ≡ told w.size (left_in w t) (assigned_by xs) c =
    sym (told_as_seen w t.entries (left_in w t) (assigned_by xs) c (view_has_values w t cells well) (at_fits w i c cells (h, is))) in
    subst (Obeys (left_in w t)) (ap (λ (es : List TrailEntry). told_seen w es (assigned_by xs) c) (first_all t.entries n past) ∙ all) (gone i c xs (h, is) inst))

-- it has few values
filter_short : (t : ℕ → Bool) (xs : List ℕ) → length (filter t xs) ≤ length xs
filter_short t [] = omega arith
filter_short t (x ∷ xs) = by (t x) (filter_short t xs)
  where
    by : (b : Bool) → length (filter t xs) ≤ length xs → length (if b then x ∷ filter t xs else filter t xs) ≤ suc (length xs)
    by true less = omega (arith, less)
    by false less = omega (arith, less)

pub can_close : (w : World) (t : Partial) → HasAllCells w → AreWellLeft w t → CanClose w (left_in w t)
can_close w t cells well = record { fits = clauses_fit w w.clauses cells.clauses; table = table_of w t cells well; small = few }
  where
    ranged : (c : Cell) → length (range_with_len 0 (bound_of w.size c.kind)) ≤ max w.size 2
    ranged c = let many = length-range_with_len 0 (bound_of w.size c.kind) in let fits = bound_fits w.size c.kind in omega (arith, many, fits)

    inner : (c : Cell) (k : ℕ) (o : Option ℕ) → length (left_at t k (bound_of w.size c.kind) o) ≤ max w.size 2
    inner c k None =
        let less = filter_short (λ v. not (is_struck_off (k * t.stride + v) t.crossings)) (range_with_len 0 (bound_of w.size c.kind)) in
        let all = ranged c in
        omega (arith, less, all)
    inner c k (Some v) = omega arith

    few : (c : Cell) → length (left_in w t c) ≤ max w.size 2
    few c = by (number_of w c)
      where
        by : (o : Option ℕ) → length (left_by t (bound_of w.size c.kind) o) ≤ max w.size 2
        by None = ranged c
        by (Some k) = inner c k (value_in t.entries k)

-- Going over instances comes to the closure if the table is closed then, or to its contradiction.
pub closes_by : (w : World) (t : Partial) (done : Bool) (t' : Partial) → HasAllCells w → AreWellLeft w t → GoesOver w t done t' → (done ≡ true → IsClosed w (left_in w t')) → closure w (left_in w t) ≡ left_after w done t'
closes_by w t true t' cells well goes closed =
    let a = goes cells well in
    closure_in_any_order w (left_in w t) (left_in w t') a.0.0 (can_close w t cells well) a.0.1.0 a.0.1.1 (closed refl)
closes_by w t false t' cells well goes closed =
    let a = goes cells well in
    contradiction_in_any_order w (left_in w t) a.0.0 (can_close w t cells well) a.0.1.0 a.0.1.1

-- a table in which no cell has a value, and nothing is crossed off
pub empty_left : (w : World) (t : Partial) → t.entries ≡ [] → t.crossings ≡ [] → left_in w t ≡ all_left w
empty_left w t none free = λ i c. (at c (number_of w c)) i
  where
    passed_all : (k : ℕ) (xs : List ℕ) → filter (λ v. not (is_struck_off (k * t.stride + v) t.crossings)) xs ≡ xs
    passed_all k [] = refl
    passed_all k (x ∷ xs) =
        ap (λ (js : List ℕ). if not (is_struck_off (k * t.stride + x) js) then x ∷ filter (λ v. not (is_struck_off (k * t.stride + v) t.crossings)) xs else filter (λ v. not (is_struck_off (k * t.stride + v) t.crossings)) xs) free
        ∙ ap (λ (ys : List ℕ). x ∷ ys) (passed_all k xs)

    at : (c : Cell) (o : Option ℕ) → left_by t (bound_of w.size c.kind) o ≡ range_with_len 0 (bound_of w.size c.kind)
    at c None = refl
    at c (Some k) = ap (λ (es : List TrailEntry). left_at t k (bound_of w.size c.kind) (value_in es k)) none ∙ passed_all k (range_with_len 0 (bound_of w.size c.kind))

-- three steps from there: the cells of one value, all instances, and those that steps touch
pub first_closes : (w : World) (t0 t1 t2 : Partial) (done : Bool) (t3 : Partial) → HasAllCells w → t0.entries ≡ [] → t0.crossings ≡ [] → IsFollowed w t0 nothing true t1 → AreWellLeft w t1 → GoesOver w t1 true t2 → GoesOver w t2 done t3
    → closure w (left_in w t2) ≡ left_after w done t3 → closure w (all_left w) ≡ left_after w done t3
first_closes w t0 t1 t2 done t3 cells none free single well first second closes =
    ap (closure w) (sym (empty_left w t0 none free) ∙ same_Some (left_in w t0) (left_in w t1) single)
    ∙ closes_by w t1 done t3 cells well (goes_on w t1 t2 done t3 first second) (λ yes. closure_is_closed w (left_in w t2) (left_in w t3) (clauses_fit w w.clauses cells.clauses) (can_close w t2 cells ((first cells well).1 refl)).small
    (closes ∙ ap (λ (b : Bool). left_after w b t3) yes))

pub first_fails : (w : World) (t0 t1 t2 : Partial) → HasAllCells w → t0.entries ≡ [] → t0.crossings ≡ [] → IsFollowed w t0 nothing true t1 → AreWellLeft w t1 → GoesOver w t1 false t2 → closure w (all_left w) ≡ None
first_fails w t0 t1 t2 cells none free single well first =
    ap (closure w) (sym (empty_left w t0 none free) ∙ same_Some (left_in w t0) (left_in w t1) single)
    ∙ closes_by w t1 false t2 cells well first (λ done. absurd (let e : false ≡ true = done in cc))
