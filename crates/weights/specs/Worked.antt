-- Weights and hints worked out.
use Rattle.std.specs.Prelude.{ℕ, ◌≡◌, true, false, List, [], ◌∷◌, Option, None, Some, codes}
use Rattle.fol_core.specs.Fol.{equal, atom, negation, disjunction}
use Rattle.fol_core.specs.Literals.{ClauseTree, literal, equality}
use Rattle.fol_core.specs.SymbolTable.{symbol}
use Rattle.fol_core.specs.Tree.{Tree, var, app, none, more}
use Rattle.fol_core.specs.declared.symbols.Kind.TheVariants.{Function}
use Rattle.fol_core.specs.Weights.{number, of_variable, times}
use Rattle.weights.specs.Heads.{rows_for}
use Rattle.weights.specs.Hints.{HintRow, is_hinted, clause_weight, hint_clause}
use Rattle.weights.specs.Weighing.{WeightRow, atoms_weight, term_weight, weight_within}

-- f(x,a)
abbrev pair : Tree
pair = app 1 (more (var 0) (more (app 0 none) none))

-- f(x,y) weighs five times what x does, and g(x) 7
abbrev rules : List WeightRow
rules =
    record {
      head = 1;
      arguments = more (var 0) (more (var 1) none);
      weight = times (number 5) (of_variable 0);
    }
    ∷ record { head = 3; arguments = more (var 0) none; weight = number 7 } ∷ []

-- p(f(x,a)) | f(x,a) != x has four symbols and variables in the first literal and five in the
-- second, where equality is one
abbrev two_literals : ClauseTree
two_literals =
    literal true (app 2 (more pair none))
    ∷ literal false (app equality (more pair (more (var 0) none))) ∷ []

abbrev pub WorkedWeights : Type 0
WorkedWeights =
    (atoms_weight [] two_literals ≡ 9) × (atoms_weight [] [] ≡ 0)
    × (atoms_weight rules two_literals ≡ 13)
    × (term_weight rules (app 1 (more (app 3 (more (var 0) none)) (more (var 0) none))) ≡ 35)
    × (weight_within 2147483650 ≡ 2147483647)

-- the same literals the other way round, joined by a third one
abbrev three_literals : ClauseTree
three_literals =
    literal false (app equality (more pair (more (var 0) none)))
    ∷ literal true (app 2 (more (var 3) none)) ∷ literal true (app 2 (more pair none)) ∷ []

abbrev hint : ClauseTree → Option ℕ → HintRow
hint c n = record { clause = c; weight = n }

-- Two literals match a hint of three, and no hint of none; a first
-- hint without a weight gives none, also where another one follows.
abbrev pub WorkedHints : Type 0
WorkedHints =
    (clause_weight [] (hint [] (Some 2) ∷ hint three_literals (Some 3) ∷ []) two_literals ≡ 3)
    × (clause_weight [] (hint three_literals None ∷ hint two_literals (Some 3) ∷ []) two_literals
    ≡ 9)
    × (is_hinted (hint [] (Some 2) ∷ []) two_literals ≡ false)
    × (hint_clause (disjunction (atom 2 (more pair none)) (negation (equal pair (var 0))))
    ≡ two_literals)

-- a pattern of an equation, one of a symbol that there is, and one of a symbol that there isn't
abbrev pub WorkedHeads : Type 0
WorkedHeads =
    rows_for (symbol (codes "b") 0 Function ∷ symbol (codes "g") 1 Function ∷ [])
    (record { head = codes "="; arguments = more (var 0) (more (var 1) none); weight = number 1 }
    ∷ record { head = codes "g"; arguments = more (var 0) none; weight = number 2 }
    ∷ record { head = codes "g"; arguments = none; weight = number 3 } ∷ [])
    ≡ record { head = equality; arguments = more (var 0) (more (var 1) none); weight = number 1 }
    ∷ record { head = 1; arguments = more (var 0) none; weight = number 2 } ∷ []
