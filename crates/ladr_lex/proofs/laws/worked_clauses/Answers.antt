use Rattle.std.proofs.Common.{ℕ, List, ◌∷◌, refl, ap, arith}
use Rattle.std.proofs.lemmas.Fmt.{decimal_digit}
use Rattle.ladr_lex.proofs.laws.worked_clauses.Goals as goal

pub returns-clause-tenth : goal.returns-clause-tenth
returns-clause-tenth c = ap (λ (ds : List ℕ). 118 ∷ ds) (decimal_digit 9 (omega arith))

pub returns-clause-prolog : goal.returns-clause-prolog
returns-clause-prolog c = (refl, ap (λ (ds : List ℕ). 86 ∷ ds) (decimal_digit 5 (omega arith)))
