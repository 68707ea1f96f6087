-- The answers of the clauses of goals that ask for something.
use Rattle.std.specs.Prelude.{ℕ, ◌+◌, List, [], ◌∷◌, ◌++◌, map, slice_index}
use Rattle.answers.specs.AnswerTrees.{answer, numbering}
use Rattle.clausify.specs.Clausal.{clauses_in}
use Rattle.clausify.specs.Input.{form, skolem_numbers}
use Rattle.clausify.specs.Skolem.{somes}
use Rattle.fol_core.specs.Fol.{Fol}
use Rattle.fol_core.specs.Literals.{ClauseTree}
use Rattle.fol_core.specs.Substitutions.{substitute_all}
use Rattle.fol_core.specs.SymbolTable.{Symbol}
use Rattle.fol_core.specs.Tree.{Trees, var, trees_of}
use Rattle.fol_problem.specs.Asks.{prefix_of}
use Rattle.fol_problem.specs.Stated.{Said, Stated}

-- the variables that a formula asks for, by their places among those in front, and as terms
abbrev pub asked_variables : Fol → List ℕ → List ℕ
asked_variables f places = map (λ k. slice_index (prefix_of f) k) places

abbrev pub asked_terms : Fol → List ℕ → Trees
asked_terms f places = trees_of (map var (asked_variables f places))

-- the terms of the answer that a clause of the formula's denial has, numbered behind its literals
abbrev pub answer_terms : Fol → List ℕ → ClauseTree → Trees
answer_terms f places c =
    substitute_all (numbering c (answer 0 (asked_terms f places) ∷ [])) (asked_terms f places)

-- what the first of some formulas asks for, and what the others do: nothing behind the list's end
abbrev pub first_ask : List (List ℕ) → List ℕ
first_ask [] = []
first_ask (places ∷ asks) = places

abbrev pub other_asks : List (List ℕ) → List (List ℕ)
other_asks [] = []
other_asks (places ∷ asks) = asks

-- the terms of the answers of all clauses, parallel to these: none of a formula that asks for
-- nothing
abbrev pub answer_terms_from : List ℕ → ℕ → List Said → List (List ℕ) → List Trees
answer_terms_from symbols k [] asks = []
answer_terms_from symbols k (s ∷ ss) asks =
    map (answer_terms s.formula (first_ask asks)) (clauses_in symbols k [] var (form s))
    ++ answer_terms_from symbols (k + somes (form s)) ss (other_asks asks)

abbrev pub all_answer_terms : List ℕ → List Said → List (List ℕ) → List Trees
all_answer_terms symbols ss asks = answer_terms_from symbols 0 ss asks

abbrev pub answer_terms_in_table : List Symbol → Stated → List (List ℕ) → List Trees
answer_terms_in_table table p asks = all_answer_terms (skolem_numbers table p) p.formulas asks
