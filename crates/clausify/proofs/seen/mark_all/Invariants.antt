-- the formulas so far are marked: to mark those to come marks all
use Rattle.std.proofs.Common.{◌≡◌, ◌<◌, ◌||◌, ℕ, drop, length}
use Rattle.fol_problem.specs.Stated.{all_said}
use Rattle.clausify.specs.Input.{is_used}
use Rattle.clausify.specs.Seen.{is_marked}
use Rattle.clausify.proofs.seen.mark_all.Given as goal

abbrev pub invariant-loop-input : goal.invariant-loop-input
invariant-loop-input l = (s : ℕ) → s < length l.initial.marks
    → (is_marked l.marks s || is_used (all_said (drop l.input-index l.inputs)) s) ≡ (is_marked l.initial.marks s || is_used (all_said l.inputs) s)
