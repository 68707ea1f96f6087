-- Clauses with their variables numbered anew.
use Rattle.std.specs.Prelude.{ℕ, ◌==◌, List, [], ◌∷◌, map, unwrap_or}
use Rattle.fol_core.specs.Tree.{var}
use Rattle.fol_core.specs.Free.{joined, variables_of}
use Rattle.fol_core.specs.Literals.{literal, ClauseTree}
use Rattle.fol_core.specs.Substitutions.{Substitution, substitute}
use Rattle.fol_core.specs.SymbolTable.{first_place}

-- the variables of a clause, each once, by first occurrence
abbrev pub clause_variables : ClauseTree → List ℕ
clause_variables [] = []
clause_variables (l ∷ c) = joined (variables_of l.atom) (clause_variables c)

-- the place of a number in a list
abbrev pub place_in : List ℕ → ℕ → ℕ
place_in xs x = unwrap_or (first_place (λ y. x == y) xs) 0

-- each variable by its place in a list
abbrev pub by_place : List ℕ → Substitution
by_place xs = λ x. var (place_in xs x)

-- the clause with its variables numbered by first occurrence
abbrev pub renumbered : ClauseTree → ClauseTree
renumbered c = map (λ l. literal l.positive (substitute (by_place (clause_variables c)) l.atom)) c
