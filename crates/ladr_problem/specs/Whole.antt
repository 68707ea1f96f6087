-- The parts of what was read that are handed on.
use Rattle.std.specs.Prelude.{◌≡◌, ℕ, List, map}
use Rattle.fol_core.specs.RuleView.{rule_of}
use Rattle.ladr_lex.specs.Cuts.{Piece}
use Rattle.ladr_problem.specs.File.{Outcome, File, at_file_end}
use Rattle.ladr_problem.specs.Sofar.{Sofar, input_of, hint_of}
use Rattle.ladr_problem.specs.declared.read.FileRead.{FileRead}
use Rattle.ladr_formulas.specs.declared.styles.Mode.{Mode}

-- the code has what a file says
pub record IsOf (s : Sofar) (r : FileRead) : Type 0 where
  pub symbols : r.problem.symbols ≡ s.symbols
  pub formulas : map input_of r.problem.inputs.items ≡ s.formulas
  pub hints : map hint_of r.problem.hints.items ≡ s.hints
  pub weights : map rule_of r.problem.weights.items ≡ s.weights
  pub kbo_weights : r.problem.kbo_weights ≡ s.kbo_weights
  pub function_order : r.problem.function_order ≡ s.settings.function_order
  pub options : r.problem.options ≡ s.settings.options
  pub operators : r.operators ≡ s.settings.operators
  pub interpretations : r.interpretations ≡ s.settings.interpretations

-- the items say this to the program, row 18 included
abbrev pub IsFinished : Mode → ℕ → Sofar → List (List Piece) → Outcome → Type 0
IsFinished m end s items o = (p : Outcome) × File m end s items p × (at_file_end m end p ≡ o)
