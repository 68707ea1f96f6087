-- What the forms that the code keeps ask for, and the answers of their clauses.
use Rattle.std.specs.Prelude.{ℕ, ◌+◌, List, [], ◌∷◌, ◌++◌, map}
use Rattle.answers.specs.AnswerTrees.{answer, numbering}
use Rattle.clausify.specs.Asked.{asked_variables}
use Rattle.clausify.specs.Clausal.{clauses_in}
use Rattle.clausify.specs.Fronts.{normal_of}
use Rattle.clausify.specs.Skolem.{somes}
use Rattle.clausify.specs.declared.normal.Normal.{Normal}
use Rattle.fol_core.specs.FormulaView.{fol_of}
use Rattle.fol_core.specs.Literals.{ClauseTree}
use Rattle.fol_core.specs.Substitutions.{substitute_all}
use Rattle.fol_core.specs.Tree.{Trees, var, trees_of}
use Rattle.fol_problem.specs.declared.problem.Input.{Input}

-- the variables that an input asks for, and those that its form keeps
abbrev pub asked_in : Input → List ℕ
asked_in i = asked_variables (fol_of i.formula.shape) i.answer.items

abbrev pub asked_by : Normal → List ℕ
asked_by n = n.asked.items

-- variables as terms, numbered behind the literals of a clause
abbrev pub terms_behind : List ℕ → ClauseTree → Trees
terms_behind xs c =
    substitute_all (numbering c (answer 0 (trees_of (map var xs)) ∷ [])) (trees_of (map var xs))

-- the terms of the answers of the clauses of forms, whose first Skolem symbol stands at place k
abbrev pub terms_in : List ℕ → ℕ → List Normal → List Trees
terms_in symbols k [] = []
terms_in symbols k (n ∷ ns) =
    map (terms_behind (asked_by n)) (clauses_in symbols k [] var (normal_of n))
    ++ terms_in symbols (k + somes (normal_of n)) ns
