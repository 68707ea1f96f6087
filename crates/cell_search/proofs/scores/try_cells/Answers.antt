use Rattle.std.proofs.Common.{◌≡◌, ℕ, ◌+◌, ◌<◌, ◌≤◌, Bool, true, false, List, get_or, length, set, inl, inr, sym, ap, ap₂, ◌∙◌, subst, arith}
use Rattle.std.specs.Prelude.{◌⊎◌}
use Rattle.std.proofs.lemmas.Bool.{cases_lt, false≢true}
use Rattle.std.proofs.lemmas.List.{get_or-set_other, get_or-set_same, length-set}
use Rattle.cell_choice.specs.Choosing.{is_up_to}
use Rattle.mace_cells.specs.Trails.{Partial}
use Rattle.mace_cells.specs.World.{cell_of}
use Rattle.mace_cells.specs.declared.way.Way.{Way}
use Rattle.model_tables.specs.Size.{AllBelow}
use Rattle.plain_search.specs.Trying.{assignments, contradictions}
use Rattle.cell_search.proofs.Preferring.{many_shapes}
use Rattle.cell_search.specs.Scores.{by_trials, trial_score}
use Rattle.cell_search.specs.Viewing.{left_in}
use Rattle.cell_search.proofs.scores.try_cells.Goals.{then-is_up_to, else-is_up_to}
use Rattle.cell_search.proofs.scores.try_cells.Goals as goal

pub is_up_to-requires-clause-many : goal.is_up_to-requires-clause-many
is_up_to-requires-clause-many c =
    many_shapes c.args.setup.now c.args.shapes.now c.requires.shapes ∙ sym c.requires.board.many ∙ sym (ap (λ (p : Partial). p.many) c.loop-cell.invariant.same)

pub loop-cell-preserved : goal.loop-cell-preserved
loop-cell-preserved c =
    let w = c.args.setup.now in
    let t = c.args.trail.now in
    let j = c.loop-cell.cell in
    let inv = c.loop-cell.invariant in
    let room : j < length c.loop-cell.scores = (let many = inv.room in let all = c.requires.many in omega (arith, c.loop-cell-test.true, c.cells-cell-end.ensures, many, all)) in
    elim c.if-is_up_to.branch [
      | then-is_up_to x ↦
          let after = x.trials-assigned.ensures in
          let assigned : x.trials-assigned.result.0 ≡ assignments w (left_in w t) (cell_of w j) = subst (λ (p : Partial). x.trials-assigned.result.0 ≡ assignments w (left_in w p) (cell_of w j)) inv.same after.assigned in
          let contradicted : x.trials-assigned.result.1 ≡ contradictions w (left_in w t) (cell_of w j) = subst (λ (p : Partial). x.trials-assigned.result.1 ≡ contradictions w (left_in w p) (cell_of w j)) inv.same after.contradicted in
          let here : x.by_trials.result ≡ trial_score w (left_in w t) (cell_of w j) =
          x.by_trials.ensures ∙ ap (λ (v : Way). by_trials v.measure x.trials-assigned.result.0 x.trials-assigned.result.1) c.way-measure.ensures ∙ ap₂ (by_trials w.way.measure) assigned contradicted in
          record {
            same = x.trail-is ∙ after.same ∙ inv.same;
            env = subst (AllBelow w.size) (sym x.env-is) after.env;
            many = ap (λ (xs : List ℕ). length xs) x.env-is ∙ after.many ∙ inv.many;
            room = ap (λ (xs : List ℕ). length xs) x.scores-is ∙ length-set c.loop-cell.scores j x.by_trials.result ∙ inv.room;
            each = λ k few up.
                ap (λ (xs : List ℕ). get_or xs k 0) x.scores-is
                ∙ elim (cases_lt k j) [
                  | inl less ↦ get_or-set_other c.loop-cell.scores j k x.by_trials.result 0 (λ e. omega (arith, e, less)) ∙ inv.each k less up
                  | inr most ↦
                      let same : j ≡ k = omega (arith, few, most) in
                      subst (λ (i : ℕ). get_or (set c.loop-cell.scores j x.by_trials.result) i 0 ≡ trial_score w (left_in w t) (cell_of w i)) same
                      (get_or-set_same c.loop-cell.scores j x.by_trials.result 0 room ∙ here)
                ];
          }
      | else-is_up_to x ↦
          let off : is_up_to t c.args.limit j ≡ false = sym (subst (λ (p : Partial). c.is_up_to.result ≡ is_up_to p c.args.limit j) inv.same c.is_up_to.ensures) ∙ x.if-is_up_to.false in
          record {
            same = x.trail-is ∙ inv.same;
            env = subst (AllBelow w.size) (sym x.env-is) inv.env;
            many = ap (λ (xs : List ℕ). length xs) x.env-is ∙ inv.many;
            room = ap (λ (xs : List ℕ). length xs) x.scores-is ∙ inv.room;
            each = λ k few up.
                ap (λ (xs : List ℕ). get_or xs k 0) x.scores-is
                ∙ elim (cases_lt k j) [
                  | inl less ↦ inv.each k less up
                  | inr most ↦ (let same : j ≡ k = omega (arith, few, most) in absurd (false≢true (sym (subst (λ (i : ℕ). is_up_to t c.args.limit i ≡ false) same off) ∙ up)))
                ];
          }
    ]
