-- What was read of a file so far.
use Rattle.std.specs.Prelude.{ℕ, List, [], map, Option}
use Rattle.fol_core.specs.Fol.{Fol}
use Rattle.fol_core.specs.FormulaView.{fol_of}
use Rattle.fol_core.specs.RawTree.{RawTree}
use Rattle.fol_problem.specs.Stated.{Said, Stated, said, stated}
use Rattle.fol_core.specs.SymbolTable.{Symbol}
use Rattle.fol_core.specs.declared.formula.Formula.{Formula}
use Rattle.fol_problem.specs.declared.problem.Hint.{Hint}
use Rattle.fol_problem.specs.declared.problem.Input.{Input}
use Rattle.fol_problem.specs.declared.problem.Role.{Role}
use Rattle.fol_core.specs.Weights.{Rule}
use Rattle.ladr_settings.specs.Settings.{at_start}
use Rattle.ladr_settings.specs.declared.settings.Settings.{Settings}

-- a formula of a list: the printed names of its variables by number, its label, the places of the
-- variables that it asks for, and the place of its item's first byte
pub record Listed : Type 0 where
  pub formula : Fol
  pub names : List (List ℕ)
  pub label : Option RawTree
  pub answer : List ℕ
  pub byte : ℕ

-- The settings, the symbols by number, the formulas with their roles, the hints with the weights
-- that they give, and the rules of the lists of weights.
pub record Sofar : Type 0 where
  pub settings : Settings
  pub symbols : List Symbol
  pub formulas : List (Role × Listed)
  pub hints : List (Listed × Option ℕ)
  pub weights : List Rule
  pub kbo_weights : List (List ℕ × ℕ)

abbrev pub nothing_read : Sofar
nothing_read =
    record {
      settings = at_start;
      symbols = [];
      formulas = [];
      hints = [];
      weights = [];
      kbo_weights = [];
    }

-- the formulas with their roles alone, and what they state
abbrev pub said_in : Sofar → List Said
said_in s = map (λ f. said f.0 f.1.formula) s.formulas

abbrev pub stated_in : Sofar → Stated
stated_in s = stated s.symbols (said_in s)

-- formulas and hints of the code
abbrev pub listed_of : Formula → Option RawTree → List ℕ → ℕ → Listed
listed_of f label answer byte =
    record {
      formula = fol_of f.shape;
      names = f.names;
      label = label;
      answer = answer;
      byte = byte;
    }

abbrev pub input_of : Input → Role × Listed
input_of i = (i.role, listed_of i.formula i.label i.answer.items i.byte)

abbrev pub hint_of : Hint → Listed × Option ℕ
hint_of h = (listed_of h.formula h.label [] h.byte, h.weight)
