-- None of the first literals is the same.
use Rattle.std.proofs.Common.{◌≡◌, ◌<◌, ℕ, slice_get}
use Rattle.shared_clauses.specs.Shared.{clause_in}
use Rattle.shared_clauses.proofs.following.is_repeated.Given as goal

abbrev pub invariant-loop-earlier : goal.invariant-loop-earlier
invariant-loop-earlier l = (b : ℕ) → b < l.earlier → slice_get (clause_in l.bank l.literals) b ≡ slice_get (clause_in l.bank l.literals) l.place → ⊥
