-- Clauses under their numbers, as the logic stores them.
use Rattle.std.specs.Prelude.{ℕ, List, map, refl}
use Rattle.std.specs.Borrow.{Bor}
use Rattle.std.specs.Coded.{Coded, code_by, coded×, coded_ℕ}
use Rattle.fol_core.specs.Literals.{ClauseTree}
use Rattle.fol_core.specs.LitCodes.{coded_clause}
use Rattle.prover_steps.specs.Clashing.{Held}

abbrev pub HeldClause : Type 0
HeldClause = Held

abbrev pub held : ℕ → ClauseTree → HeldClause
held n c = record { number = n; clause = c }

abbrev pub coded_held : Coded HeldClause
coded_held =
    code_by (ℕ × ClauseTree) (coded× coded_ℕ coded_clause) (λ h. (h.number, h.clause))
    (λ p. held p.0 p.1) (λ _. refl)

-- clauses that are lent
abbrev pub lent : List (Bor HeldClause) → List HeldClause
lent hs = map (λ h. h.now) hs
