-- The hints of the code.
use Rattle.fol_core.specs.FormulaView.{fol_of}
use Rattle.fol_problem.specs.declared.problem.Hint.{Hint}
use Rattle.weights.specs.Hints.{HintRow, hint_clause}
use Rattle.weights.specs.declared.hints.HintWeight.{HintWeight}

abbrev pub hint_row : HintWeight → HintRow
hint_row h = record { clause = h.clause; weight = h.weight }

-- and those of a problem
abbrev pub row_of_hint : Hint → HintRow
row_of_hint h = record { clause = hint_clause (fol_of h.formula.shape); weight = h.weight }
