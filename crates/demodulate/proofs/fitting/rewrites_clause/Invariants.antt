-- The literals from here on decide.
use Rattle.std.proofs.Common.{◌≡◌}
use Rattle.held_clauses.proofs.LiteralTests.{some_from}
use Rattle.prover_steps.specs.Subsuming.{fits_below}
use Rattle.demodulate.proofs.fitting.rewrites_clause.Given as goal

abbrev pub invariant-loop-literal : goal.invariant-loop-literal
invariant-loop-literal l = some_from (λ k. fits_below l.rule k.atom) l.literal-items 0 ≡ some_from (λ k. fits_below l.rule k.atom) l.literal-items l.literal-index
