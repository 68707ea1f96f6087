use Rattle.std.proofs.Common.{◌≡◌, ℕ, ◌++◌, Bool, List, length, take, drop, sym, ap, ◌∙◌, subst, arith}
use Rattle.std.proofs.lemmas.List.{take_at}
use Rattle.cell_choice.specs.Numbers.{uses_by}
use Rattle.model_tables.specs.Size.{AllBelow}
use Rattle.plain_search.specs.Coming.{closed_behind}
use Rattle.plain_search.specs.Meeting.{WereLeft}
use Rattle.cell_search.specs.Following.{left_after}
use Rattle.cell_search.specs.Phases.{IsInPhase, IsReady, IsWaiting, WasClosed}
use Rattle.cell_search.specs.declared.walk.Group.{Group}
use Rattle.cell_search.specs.declared.walk.Walk.{Walk}
use Rattle.cell_search.proofs.Phasing.{phase_is, was_grown}
use Rattle.cell_search.proofs.cells.Cells.close.Goals as goal

pub invariant_of-self : goal.invariant_of-self
invariant_of-self c =
    let a = c.self.inside in
    let w = a.setup in
    let u = c.close_waiting-closed.new.trail in
    let after = c.close_waiting-closed.ensures in
    let before = c.self.invariant in
    let waits : IsWaiting w a.trail a.begun a.head = subst (IsInPhase w a.trail a.begun a.head) c.in-Waiting.is before.phase in
    let ready : IsReady w c.deref.result.now c.deref-in-Waiting.result.now (length c.deref_mut.result.now) =
    subst (λ (xs : List ℕ). IsReady w c.deref.result.now c.deref-in-Waiting.result.now (length xs)) (sym c.deref_mut.ensures.value)
    (subst (λ (gs : List Group). IsReady w c.deref.result.now gs (length a.env.items)) (sym c.deref-in-Waiting.ensures.value)
    (subst (λ (ws : List Walk). IsReady w ws a.groups.items (length a.env.items)) (sym c.deref.ensures.value) before.ready)) in
    let long : length c.close_waiting-closed.new.env ≡ length a.env.items = after.many ∙ ap (λ (xs : List ℕ). length xs) c.deref_mut.ensures.value in
    let kept : take a.env.len (c.close_waiting-closed.new.env ++ drop (length c.close_waiting-closed.new.env) a.env.items) ≡ c.close_waiting-closed.new.env =
    take_at c.close_waiting-closed.new.env (drop (length c.close_waiting-closed.new.env) a.env.items) a.env.len (omega (arith, long, a.env.ok)) in
    let behind = ap (closed_behind w) after.decided ∙ after.behind ready waits in
    record {
      board = after.board;
      searchable = before.searchable;
      ready = subst (λ (n : ℕ). IsReady w a.walks.items a.groups.items n) (sym (ap (λ (xs : List ℕ). length xs) kept ∙ long)) before.ready;
      env = subst (AllBelow w.size) (sym kept) after.env;
      scores = before.scores;
      shapes = before.shapes;
      uses = before.uses ∙ ap (uses_by w.fixed) (sym after.decided);
      stack = before.stack;
      small = before.small;
      was =
          subst (λ (s : ℕ). WasClosed w s u.entries u.crossings) (before.board.stride ∙ sym after.board.stride)
          (was_grown w a.trail.stride a.trail u after.grows before.was);
      were = subst (WereLeft w) (sym after.decided) before.were;
      phase =
          subst (IsInPhase w u a.begun a.head) (sym c.phase_after-self-inside.ensures)
          (phase_is w u a.begun a.head c.close_waiting-closed.result behind (after.well before.searchable waits));
    }

pub returns-in-Waiting-clause-closed : goal.returns-in-Waiting-clause-closed
returns-in-Waiting-clause-closed c = λ done.
    let a = c.self.inside in
    let w = a.setup in
    let u = c.close_waiting-closed.new.trail in
    let after = c.close_waiting-closed.ensures in
    let before = c.self.invariant in
    let waits : IsWaiting w a.trail a.begun a.head = subst (IsInPhase w a.trail a.begun a.head) c.in-Waiting.is before.phase in
    let ready : IsReady w c.deref.result.now c.deref-in-Waiting.result.now (length c.deref_mut.result.now) =
    subst (λ (xs : List ℕ). IsReady w c.deref.result.now c.deref-in-Waiting.result.now (length xs)) (sym c.deref_mut.ensures.value)
    (subst (λ (gs : List Group). IsReady w c.deref.result.now gs (length a.env.items)) (sym c.deref-in-Waiting.ensures.value)
    (subst (λ (ws : List Walk). IsReady w ws a.groups.items (length a.env.items)) (sym c.deref.ensures.value) before.ready)) in
    record {
      well = after.well before.searchable waits done;
      behind = ap (closed_behind w) after.decided ∙ after.behind ready waits ∙ ap (λ (b : Bool). left_after w b u) done;
    }
