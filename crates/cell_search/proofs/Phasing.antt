-- Tables that are closed behind their decisions.
use Rattle.std.proofs.Common.{◌≡◌, ℕ, suc, ◌+◌, ◌<◌, ◌≤◌, ◌==◌, if◌then◌else◌, Bool, true, false, MatchBool, List, [], ◌∷◌, ◌++◌, length, Option, None, Some, inl, inr, refl, sym, ap, ◌∙◌, subst, arith}
use Rattle.std.specs.List.{AllByRecursion}
use Rattle.std.specs.Option.{option_and_then}
use Rattle.std.proofs.lemmas.Option.{none-some}
use Rattle.cell_choice.specs.Shapes.{ranking_of}
use Rattle.mace_cells.specs.Choices.{Decision}
use Rattle.mace_cells.specs.Stacked.{rest_of}
use Rattle.mace_cells.specs.Trails.{Partial, partial, value_in, earliest, before_decision, latest_mark, cut_to, undone}
use Rattle.mace_cells.specs.World.{World, cell_of, many_cells}
use Rattle.mace_cells.specs.declared.trail.TrailEntry.{TrailEntry}
use Rattle.mace_ground.specs.Cells.{Cell}
use Rattle.mace_ground.specs.Instances.{assigned_by}
use Rattle.plain_search.proofs.Agreeing.{closed_obeys}
use Rattle.plain_search.proofs.Ending.{IsProper, all_proper, closure_proper, decided_proper}
use Rattle.plain_search.proofs.Sounding.{same_cell}
use Rattle.plain_search.proofs.Stopping.{closure_is_closed}
use Rattle.plain_search.specs.Closing.{Ground, ground, told, instances_of, closure}
use Rattle.plain_search.specs.Coming.{closed_behind}
use Rattle.plain_search.specs.Fitting as plain
use Rattle.plain_search.specs.Lefts.{ValuesLeft, IsAmong, all_left, is_same_cell, with_left}
use Rattle.plain_search.specs.Meeting.{WereLeft}
use Rattle.plain_search.specs.Orders.{IsInstanceIn, IsNarrower, Obeys}
use Rattle.plain_search.specs.PlainLaws.{IsClosed}
use Rattle.cell_search.proofs.Boarding.{earliest_all, earliest_more}
use Rattle.cell_search.proofs.Following.{well_assigned}
use Rattle.cell_search.proofs.Gone.{at_fits, first_all, one_later}
use Rattle.cell_search.proofs.Instances.{clause_instance, clauses_fit}
use Rattle.cell_search.proofs.Obeying.{obeyed_still, table_of}
use Rattle.cell_search.proofs.Telling.{told_as_seen}
use Rattle.cell_search.proofs.Viewing.{assigned_view, view_has_values}
use Rattle.cell_search.specs.Asking.{IsWellLeft}
use Rattle.cell_search.specs.Covering.{IsGoneOver, first_steps}
use Rattle.cell_search.specs.Following.{AreWellLeft, Grows, left_after}
use Rattle.cell_search.specs.Losses.{decided_in, decision_of}
use Rattle.cell_search.specs.Phases.{IsClosedTable, IsInPhase, WasClosed, IsWaiting, phase_after}
use Rattle.cell_search.specs.Searchable.{HasAllCells}
use Rattle.cell_search.specs.Telling.{told_seen}
use Rattle.cell_search.specs.Viewing.{left_in}

-- a table before, with what was crossed off then
abbrev ClosedThen : World → ℕ → List TrailEntry → List ℕ → Type 0
ClosedThen w stride es ks = IsClosedTable w (partial (many_cells w) stride (ranking_of w) es ks)

was_crossed : (w : World) (stride k : ℕ) (es : List TrailEntry) (ks : List ℕ) → WasClosed w stride es ks → WasClosed w stride es (k ∷ ks)
was_crossed w stride k [] ks h = tt
was_crossed w stride k (e ∷ es) ks h = by e.decided h (λ g. was_crossed w stride k es ks g)
  where
    by : (b : Bool) → MatchBool b ((e.mark ≤ length ks) × ClosedThen w stride es (earliest e.mark ks) × WasClosed w stride es (earliest e.mark ks)) (WasClosed w stride es ks) → (WasClosed w stride es ks → WasClosed w stride es (k ∷ ks))
        → MatchBool b ((e.mark ≤ suc (length ks)) × ClosedThen w stride es (earliest e.mark (k ∷ ks)) × WasClosed w stride es (earliest e.mark (k ∷ ks))) (WasClosed w stride es (k ∷ ks))
    by true g rest =
        let same = earliest_more e.mark k ks g.0 in
        (omega (arith, g.0), subst (λ (js : List ℕ). ClosedThen w stride es js) (sym same) g.1, subst (λ (js : List ℕ). WasClosed w stride es js) (sym same) g.2)
    by false g rest = rest g

was_more : (w : World) (stride : ℕ) (es : List TrailEntry) (more ks : List ℕ) → WasClosed w stride es ks → WasClosed w stride es (more ++ ks)
was_more w stride es [] ks h = h
was_more w stride es (k ∷ more) ks h = was_crossed w stride k es (more ++ ks) (was_more w stride es more ks h)

was_later : (w : World) (stride : ℕ) (later es : List TrailEntry) (ks : List ℕ) → AllByRecursion (λ e. e.decided ≡ false) later → WasClosed w stride es ks → WasClosed w stride (later ++ es) ks
was_later w stride [] es ks none h = h
was_later w stride (e ∷ later) es ks none h =
    subst (λ (b : Bool). MatchBool b ((e.mark ≤ length ks) × ClosedThen w stride (later ++ es) (earliest e.mark ks) × WasClosed w stride (later ++ es) (earliest e.mark ks)) (WasClosed w stride (later ++ es) ks)) (sym none.0)
    (was_later w stride later es ks none.1 h)

-- steps that are no decisions change nothing of what was closed
pub was_grown : (w : World) (stride : ℕ) (t u : Partial) → Grows t u → WasClosed w stride t.entries t.crossings → WasClosed w stride u.entries u.crossings
was_grown w stride t u grows h =
    subst (λ (es : List TrailEntry). WasClosed w stride es u.crossings) (sym grows.entries)
    (was_later w stride grows.later t.entries u.crossings grows.undecided (subst (λ (ks : List ℕ). WasClosed w stride t.entries ks) (sym grows.crossings) (was_more w stride t.entries grows.more t.crossings h)))

pub was_decided : (w : World) (t : Partial) (e : TrailEntry) → e.decided ≡ true → e.mark ≡ length t.crossings → IsClosedTable w t → WasClosed w t.stride t.entries t.crossings → WasClosed w t.stride (e ∷ t.entries) t.crossings
was_decided w t e is mark closed h =
    let all : earliest e.mark t.crossings ≡ t.crossings = ap (λ (n : ℕ). earliest n t.crossings) mark ∙ earliest_all t.crossings in
    let then_closed : ClosedThen w t.stride t.entries t.crossings = record { well = closed.well; behind = closed.behind } in
    subst (λ (b : Bool). MatchBool b ((e.mark ≤ length t.crossings) × ClosedThen w t.stride t.entries (earliest e.mark t.crossings) × WasClosed w t.stride t.entries (earliest e.mark t.crossings)) (WasClosed w t.stride t.entries t.crossings)) (sym is)
    (omega (arith, mark), subst (λ (js : List ℕ). ClosedThen w t.stride t.entries js) (sym all) then_closed, subst (λ (js : List ℕ). WasClosed w t.stride t.entries js) (sym all) h)

-- when the latest decision is taken back, the table is closed again
pub was_taken : (w : World) (stride : ℕ) (es : List TrailEntry) (ks : List ℕ) → WasClosed w stride es ks → 0 < length (decided_in w es)
    → ClosedThen w stride (before_decision es) (cut_to (latest_mark es) ks) × WasClosed w stride (before_decision es) (cut_to (latest_mark es) ks)
was_taken w stride [] ks h some = absurd (omega (arith, some))
was_taken w stride (e ∷ es) ks h some = by e.decided refl h some (λ g s. was_taken w stride es ks g s)
  where
    by : (b : Bool) → e.decided ≡ b → MatchBool b ((e.mark ≤ length ks) × ClosedThen w stride es (earliest e.mark ks) × WasClosed w stride es (earliest e.mark ks)) (WasClosed w stride es ks)
        → 0 < length (if b then decision_of w e ∷ decided_in w es else decided_in w es)
        → (WasClosed w stride es ks → 0 < length (decided_in w es) → ClosedThen w stride (before_decision es) (cut_to (latest_mark es) ks) × WasClosed w stride (before_decision es) (cut_to (latest_mark es) ks))
        → ClosedThen w stride (before_decision (e ∷ es)) (cut_to (latest_mark (e ∷ es)) ks) × WasClosed w stride (before_decision (e ∷ es)) (cut_to (latest_mark (e ∷ es)) ks)
    by true t g s rest = rw t (g.1, g.2)
    by false t g s rest = rw t (rest g s)

pub undone_closed : (w : World) (t : Partial) → WasClosed w t.stride t.entries t.crossings → 0 < length (decided_in w t.entries) → IsClosedTable w (undone t)
undone_closed w t h some = let r = (was_taken w t.stride t.entries t.crossings h some).0 in record { well = r.well; behind = r.behind }

pub were_rest : (w : World) (ds : List Decision) → WereLeft w ds → WereLeft w (rest_of ds)
were_rest w [] h = h
were_rest w (d ∷ ds) h = h.2

-- the table behind decisions is closed
closed_is : (w : World) → 0 < w.size → AllByRecursion (plain.IsClauseOfCells w) w.clauses → (ds : List Decision) (p : ValuesLeft) → closed_behind w ds ≡ Some p → IsProper w p × IsClosed w p
closed_is w some fits [] p is =
    let proper = all_proper w some in
    (closure_proper w (all_left w) p is proper, closure_is_closed w (all_left w) p fits (λ c. (proper c).1) is)
closed_is w some fits (d ∷ ds) p is = by (closed_behind w ds) refl is (closed_is w some fits ds)
  where
    by : (o : Option ValuesLeft) → closed_behind w ds ≡ o → option_and_then (λ x. closure w (with_left x d.cell (d.value ∷ []))) o ≡ Some p
        → ((q : ValuesLeft) → closed_behind w ds ≡ Some q → IsProper w q × IsClosed w q) → IsProper w p × IsClosed w p
    by None e after rest = absurd (none-some p after)
    by (Some q) e after rest =
        let put : ValuesLeft = with_left q d.cell (d.value ∷ []) in
        let proper : IsProper w put = decided_proper w q d.cell d.value (rest q e).0 in
        (closure_proper w put p after proper, closure_is_closed w put p fits (λ c. (proper c).1) after)

one_of_each : (P : Ground → Type 0) (g : Ground) (gs : List Ground) → AllByRecursion P gs → IsInstanceIn g gs → P g
one_of_each P g [] all i = absurd i
one_of_each P g (h ∷ hs) all (inl e) = subst P (sym e) all.0
one_of_each P g (h ∷ hs) all (inr i) = one_of_each P g hs all.1 i

-- so what its instances tell is done
pub gone_when_closed : (w : World) (t : Partial) → HasAllCells w → IsClosedTable w t → IsGoneOver w t (length t.entries)
gone_when_closed w t cells closed i c xs at inst =
    let fits = clauses_fit w w.clauses cells.clauses in
    let same = (closed_is w cells.some fits (decided_in w t.entries) (left_in w t) closed.behind).1 in
    let all = closed_obeys w.size (left_in w t) (table_of w t cells closed.well) (instances_of w.size w.clauses) same in
    let obeys : Obeys (left_in w t) (told w.size (left_in w t) (assigned_by xs) c) =
    one_of_each (λ (g : Ground). Obeys (left_in w t) (told w.size (left_in w t) (assigned_by g.elements) g.clause)) (ground c xs) (instances_of w.size w.clauses) all (clause_instance w.size w.clauses i c xs at.0 at.1 inst) in
    subst (λ (es : List TrailEntry). Obeys (left_in w t) (told_seen w es (assigned_by xs) c)) (sym (first_all t.entries (length t.entries) (omega arith)))
    (subst (Obeys (left_in w t)) (told_as_seen w t.entries (left_in w t) (assigned_by xs) c (view_has_values w t cells closed.well) (at_fits w i c cells at)) obeys)

-- a value that is left is decided
pub waits_behind : (w : World) (t : Partial) (e : TrailEntry) → HasAllCells w → IsClosedTable w t → e.decided ≡ true → e.cell < many_cells w → value_in t.entries e.cell ≡ None → IsAmong e.value (left_in w t (cell_of w e.cell))
    → IsWaiting w (partial t.many t.stride t.ranking (e ∷ t.entries) t.crossings) true (length t.entries)
waits_behind w t e cells closed is few blank left = (well, gone, comes)
  where
    view : left_in w (partial t.many t.stride t.ranking (e ∷ t.entries) t.crossings) ≡ with_left (left_in w t) (cell_of w e.cell) (e.value ∷ [])
    view = assigned_view w t e cells few

    well : AreWellLeft w (partial t.many t.stride t.ranking (e ∷ t.entries) t.crossings)
    well k inside = by (k == e.cell) refl
      where
        by : (b : Bool) → (k == e.cell) ≡ b → IsWellLeft w (partial t.many t.stride t.ranking (e ∷ t.entries) t.crossings) k
        by true s = inl (e.value, ap (λ (b : Bool). if b then Some e.value else value_in t.entries k) s)
        by false s = well_assigned w t e blank k inside (closed.well k inside)

    narrower : IsNarrower (left_in w (partial t.many t.stride t.ranking (e ∷ t.entries) t.crossings)) (left_in w t)
    narrower c v i = at c v (subst (λ (p : ValuesLeft). IsAmong v (p c)) view i)
      where
        at : (c : Cell) (v : ℕ) → IsAmong v (with_left (left_in w t) (cell_of w e.cell) (e.value ∷ []) c) → IsAmong v (left_in w t c)
        at c v j = by (is_same_cell (cell_of w e.cell) c) refl j
          where
            by : (b : Bool) → is_same_cell (cell_of w e.cell) c ≡ b → IsAmong v (if b then e.value ∷ [] else left_in w t c) → IsAmong v (left_in w t c)
            by true s (inl same) = subst (λ (d : Cell). IsAmong v (left_in w t d)) (same_cell (cell_of w e.cell) c s) (subst (λ (x : ℕ). IsAmong x (left_in w t (cell_of w e.cell))) (sym same) left)
            by true s (inr none) = absurd none
            by false s h = h

    gone : IsGoneOver w (partial t.many t.stride t.ranking (e ∷ t.entries) t.crossings) (length t.entries)
    gone i c xs at inst =
        let before = gone_when_closed w t cells closed i c xs at inst in
        let steps : first_steps (length t.entries) (e ∷ t.entries) ≡ first_steps (length t.entries) t.entries = one_later e t.entries (length t.entries) (omega arith) in
        subst (λ (es : List TrailEntry). Obeys (left_in w (partial t.many t.stride t.ranking (e ∷ t.entries) t.crossings)) (told_seen w es (assigned_by xs) c)) (sym steps)
        (obeyed_still (left_in w t) (left_in w (partial t.many t.stride t.ranking (e ∷ t.entries) t.crossings)) (told_seen w (first_steps (length t.entries) t.entries) (assigned_by xs) c) narrower before)

    comes : closure w (left_in w (partial t.many t.stride t.ranking (e ∷ t.entries) t.crossings)) ≡ closed_behind w (decided_in w (e ∷ t.entries))
    comes =
        ap (closure w) view
        ∙ sym (ap (λ (b : Bool). closed_behind w (if b then decision_of w e ∷ decided_in w t.entries else decided_in w t.entries)) is
        ∙ ap (option_and_then (λ p. closure w (with_left p (cell_of w e.cell) (e.value ∷ [])))) closed.behind)

-- what a table is after it was closed
pub phase_is : (w : World) (u : Partial) (begun : Bool) (head : ℕ) (closed : Bool) → closed_behind w (decided_in w u.entries) ≡ left_after w closed u → (closed ≡ true → AreWellLeft w u) → IsInPhase w u begun head (phase_after closed)
phase_is w u begun head true behind well = record { well = well refl; behind = behind }
phase_is w u begun head false behind well = behind
