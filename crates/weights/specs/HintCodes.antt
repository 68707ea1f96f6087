-- How the logic stores hints.
use Rattle.std.specs.Prelude.{ℕ, List, Option, refl}
use Rattle.std.specs.Coded.{Coded, code_by, coded×, coded_ℕ, coded_list, coded_option}
use Rattle.fol_core.specs.LitCodes.{coded_clause}
use Rattle.fol_core.specs.Literals.{ClauseTree}
use Rattle.weights.specs.Hints.{HintRow}

abbrev pub coded_hints : Coded (List HintRow)
coded_hints =
    coded_list
    (code_by (ClauseTree × Option ℕ) (coded× coded_clause (coded_option coded_ℕ))
    (λ h. (h.clause, h.weight)) (λ p. record { clause = p.0; weight = p.1 }) (λ _. refl))
