-- What a file states, and when an interpretation is a countermodel of it.
use Rattle.std.specs.Prelude.{ℕ, List, [], ◌∷◌, length, map}
use Rattle.fol_core.specs.Bound.{BindsOnce, HasSymbolsBelow}
use Rattle.fol_core.specs.Fol.{Fol}
use Rattle.fol_core.specs.FormulaView.{fol_of}
use Rattle.fol_core.specs.Free.{closure_of}
use Rattle.fol_core.specs.Meaning.{Meaning}
use Rattle.fol_core.specs.SymbolTable.{Symbol}
use Rattle.fol_core.specs.Truth.{Assignment, Holds}
use Rattle.fol_core.specs.SkolemAxioms.{SkolemAxiom, AreNotIn}
use Rattle.fol_problem.specs.declared.problem.Input.{Input}
use Rattle.fol_problem.specs.declared.problem.Problem.{Problem}
use Rattle.fol_problem.specs.declared.problem.Role.{Role}
use Rattle.fol_problem.specs.declared.problem.Role.TheVariants.{Assumption, Usable, Demodulator, Goal}

-- a formula and its role
pub record Said : Type 0 where
  pub role : Role
  pub formula : Fol

abbrev pub said : Role → Fol → Said
said role formula = record { role = role; formula = formula }

-- what a file states: its symbols by number, and its formulas in their order
pub record Stated : Type 0 where
  pub symbols : List Symbol
  pub formulas : List Said

abbrev pub stated : List Symbol → List Said → Stated
stated symbols formulas = record { symbols = symbols; formulas = formulas }

-- what a problem of the code states
abbrev pub said_of : Input → Said
said_of i = said i.role (fol_of i.formula.shape)

abbrev pub all_said : List Input → List Said
all_said inputs = map said_of inputs

abbrev pub stated_of : Problem → Stated
stated_of p = stated p.symbols (all_said p.inputs.items)

-- each formula binds a variable once, and its symbols have numbers below this one
abbrev pub AreWellFormed : ℕ → List Said → Type 0
AreWellFormed size [] = Unit {0}
AreWellFormed size (s ∷ ss) =
    BindsOnce s.formula × HasSymbolsBelow size s.formula × AreWellFormed size ss

-- the formulas bind variables once, and have symbols of the table alone
abbrev pub IsWellFormed : Stated → Type 0
IsWellFormed p = AreWellFormed (length p.symbols) p.formulas

-- the symbols of the witnesses stand in none of the formulas
abbrev pub AreNewTo : List Said → List SkolemAxiom → Type 0
AreNewTo [] ws = Unit {0}
AreNewTo (s ∷ ss) ws = AreNotIn ws s.formula × AreNewTo ss ws

-- every variable is element 0; a closure has no variable that it matters for
abbrev pub zero : Assignment
zero x = 0

-- the closure of a formula is true in an interpretation
abbrev pub IsTrueIn : Meaning → Fol → Type 0
IsTrueIn m f = Holds m zero (closure_of f)

-- an assumption, a usable formula and a demodulator are true, a goal is false
abbrev pub IsAsRoled : Meaning → Role → Fol → Type 0
IsAsRoled m Assumption f = IsTrueIn m f
IsAsRoled m Usable f = IsTrueIn m f
IsAsRoled m Demodulator f = IsTrueIn m f
IsAsRoled m Goal f = ¬ IsTrueIn m f

-- each formula that isn't a goal is true, and each goal is false
abbrev pub IsCountermodel : Meaning → List Said → Type 0
IsCountermodel m [] = Unit {0}
IsCountermodel m (s ∷ ss) = IsAsRoled m s.role s.formula × IsCountermodel m ss
