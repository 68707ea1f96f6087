use Rattle.std.proofs.Common.{◌≡◌, ℕ, ◌-◌, Bool, true, false, if◌then◌else◌, Some, None, length, sym, ap, ap₂, ◌∙◌, subst}
use Rattle.mace_cells.specs.Trails.{Partial}
use Rattle.plain_search.specs.Closing.{closure}
use Rattle.cell_search.proofs.Trials.{after_is, back_is, step_board}
use Rattle.cell_search.specs.Covering.{IsGoneOver}
use Rattle.cell_search.specs.Following.{AreWellLeft, Grows, IsPass, left_after}
use Rattle.cell_search.specs.Losses.{IsBoard}
use Rattle.cell_search.specs.Searchable.{HasAllCells}
use Rattle.cell_search.specs.Viewing.{left_in}
use Rattle.cell_search.proofs.trying.trial.Goals as goal

pub close-closed-requires-clause-board : goal.close-closed-requires-clause-board
close-closed-requires-clause-board c =
    let r = c.requires in
    subst (IsBoard c.args.setup.now) (sym c.assign.ensures) (step_board c.args.setup.now c.args.trail.now r.board r.cells r.closed c.args.cell c.args.value r.cell r.blank r.value r.left)

pub returns-then-closed-clause-same : goal.returns-then-closed-clause-same
returns-then-closed-clause-same c =
    let r = c.requires in
    let after = c.close-closed.ensures in
    c.undo.ensures
    ∙ back_is c.args.setup.now c.args.trail.now r.board r.cells r.closed c.args.cell c.args.value r.cell r.blank r.value r.left c.close-closed.new.trail after.board (subst (λ (p : Partial). Grows p c.close-closed.new.trail) c.assign.ensures after.grows)

pub returns-else-closed-clause-same : goal.returns-else-closed-clause-same
returns-else-closed-clause-same c =
    let r = c.requires in
    let after = c.close-closed.ensures in
    c.undo.ensures
    ∙ back_is c.args.setup.now c.args.trail.now r.board r.cells r.closed c.args.cell c.args.value r.cell r.blank r.value r.left c.close-closed.new.trail after.board (subst (λ (p : Partial). Grows p c.close-closed.new.trail) c.assign.ensures after.grows)

pub returns-then-closed-clause-come : goal.returns-then-closed-clause-come
returns-then-closed-clause-come c =
    let w = c.args.setup.now in
    let t = c.args.trail.now in
    let u = c.close-closed.new.trail in
    let r = c.requires in
    let after = c.close-closed.ensures in
    let come = after_is w t r.board r.cells r.closed c.args.cell c.args.value r.cell r.blank r.value r.left u c.close-closed.result after.board (subst (λ (p : Partial). Grows p u) c.assign.ensures after.grows)
    (subst (λ (p : Partial). AreWellLeft w p → IsGoneOver w p (length t.entries) → closure w (left_in w p) ≡ left_after w c.close-closed.result u) c.assign.ensures (λ well gone. after.closes r.ways well (subst (IsGoneOver w c.assign.new.self) (sym c.len-head.ensures.len) gone)))
    (subst (λ (p : Partial). HasAllCells w → AreWellLeft w p → IsPass w p c.close-closed.result u × (c.close-closed.result ≡ true → AreWellLeft w u)) c.assign.ensures after.goes) in
    ap (λ (n : ℕ). Some n) (ap₂ (λ (a b : ℕ). a - b - 1) c.len.ensures.len c.len-head.ensures.len)
    ∙ sym (ap (λ (b : Bool). if b then Some (length u.entries - length t.entries - 1) else None) c.if-closed.true) ∙ come

pub returns-else-closed-clause-come : goal.returns-else-closed-clause-come
returns-else-closed-clause-come c =
    let w = c.args.setup.now in
    let t = c.args.trail.now in
    let u = c.close-closed.new.trail in
    let r = c.requires in
    let after = c.close-closed.ensures in
    let come = after_is w t r.board r.cells r.closed c.args.cell c.args.value r.cell r.blank r.value r.left u c.close-closed.result after.board (subst (λ (p : Partial). Grows p u) c.assign.ensures after.grows)
    (subst (λ (p : Partial). AreWellLeft w p → IsGoneOver w p (length t.entries) → closure w (left_in w p) ≡ left_after w c.close-closed.result u) c.assign.ensures (λ well gone. after.closes r.ways well (subst (IsGoneOver w c.assign.new.self) (sym c.len-head.ensures.len) gone)))
    (subst (λ (p : Partial). HasAllCells w → AreWellLeft w p → IsPass w p c.close-closed.result u × (c.close-closed.result ≡ true → AreWellLeft w u)) c.assign.ensures after.goes) in
    sym (ap (λ (b : Bool). if b then Some (length u.entries - length t.entries - 1) else None) c.if-closed.false) ∙ come
