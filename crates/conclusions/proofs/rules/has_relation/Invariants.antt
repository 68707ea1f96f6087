-- The literals from here on decide.
use Rattle.std.proofs.Common.{◌≡◌, not}
use Rattle.fol_core.specs.Literals.{Lit}
use Rattle.derivation.specs.Equations.{is_equation}
use Rattle.held_clauses.proofs.LiteralTests.{some_from}
use Rattle.conclusions.proofs.rules.has_relation.Given as goal

abbrev pub invariant-loop-literal : goal.invariant-loop-literal
invariant-loop-literal l = some_from (λ (k : Lit). not (is_equation k.atom)) l.literal-items 0 ≡ some_from (λ (k : Lit). not (is_equation k.atom)) l.literal-items l.literal-index
