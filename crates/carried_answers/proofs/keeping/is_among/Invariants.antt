-- None of the literals so far is the same.
use Rattle.std.proofs.Common.{◌≡◌, ◌<◌, ◌≤◌, ℕ, slice_get}
use Rattle.carried_answers.proofs.keeping.is_among.Given as goal

abbrev pub invariant-loop-earlier : goal.invariant-loop-earlier
invariant-loop-earlier l = (b : ℕ) → l.first ≤ b → b < l.earlier → slice_get l.whole b ≡ slice_get l.whole l.place → ⊥
