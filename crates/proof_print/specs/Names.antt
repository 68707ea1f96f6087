-- The names that texts of clauses take in: those of the problem, and those of Skolem symbols.
use Rattle.std.specs.Prelude.{◌≡◌, ◌⊎◌, ℕ, ◌<◌, ◌^◌, Bool, List, ◌∷◌}
use Rattle.std.specs.Fmt.{decimal}
use Rattle.fol_core.specs.SymbolTable.{Symbol, symbol}
use Rattle.fol_core.specs.declared.symbols.Kind.TheVariants.{Function}
use Rattle.ladr_lex.specs.ClauseNames.{clause_operator}
use Rattle.ladr_lex.specs.Operators.{OperatorRow, operator_of}

-- the operators of clauses are those of formulas, but for those before their argument that have a
-- clause's name
abbrev pub AreOfClauses : Bool → List OperatorRow → List OperatorRow → Type 0
AreOfClauses prolog formulas clauses =
    (name : List ℕ) → operator_of clauses name
    ≡ clause_operator prolog name (operator_of formulas name)

-- a function named `c` or `f` with a number of at most 64 digits
pub record IsSkolemSymbol (x : Symbol) : Type 0 where
  pub letter : ℕ
  pub number : ℕ
  pub arity : ℕ
  pub letter_is : (letter ≡ 99) ⊎ (letter ≡ 102)
  pub short : number < 10 ^ 64
  pub is : x ≡ symbol (letter ∷ decimal number) arity Function
