-- What a run of `prover9` is about.
use Rattle.std.specs.Prelude.{ℕ, suc, ◌≡◌, ◌<◌, ◌^◌, Option, List, [], ◌∷◌, map}
use Rattle.std.specs.Option.{option_or}
use Rattle.clause_store.specs.Lines.{PlainContent, plain_formula, PlainLine, stating_line, formula_lines}
use Rattle.fol_problem.specs.declared.problem.Problem.{Problem}
use Rattle.fol_problem.specs.declared.problem.Role.{Role}
use Rattle.ladr_formulas.specs.declared.styles.Mode.TheVariants.{Prover}
use Rattle.ladr_lex.specs.Operators.{OperatorRow}
use Rattle.ladr_problem.specs.File.{Says, problem}
use Rattle.ladr_problem.specs.Sofar.{Sofar, Listed, stated_in}
use Rattle.ladr_problem.specs.Whole.{IsOf}
use Rattle.ladr_problem.specs.declared.read.FileRead.{FileRead}
use Rattle.proof_lines.specs.ContentTokens.{LineTables, line_tables}
use Rattle.prover_proofs.specs.SearchLines.{stated_lines, lines_at}
use Rattle.prover_setup.specs.SearchInputs.{SearchInput, input_in, rows_in}
use Rattle.prover_steps.specs.Searching.{SearchState}
use Rattle.search_clock.specs.Watching.{seconds_of}
use Rattle.weights.specs.Hints.{HintRow, hint_clause}

-- the bytes of an input, what a search is made of, the lines of its formulas, and the operators of
-- formulas and of clauses
pub record Quest : Type 0 where
  pub input : List ℕ
  pub search : SearchInput
  pub formulas : List PlainLine
  pub operators : LineTables

-- the formulas of a file as lines, and its hints
abbrev pub listed_content : Listed → PlainContent
listed_content l = plain_formula l.formula l.names l.label

abbrev pub listed_lines : ℕ → List (Role × Listed) → List PlainLine
listed_lines n [] = []
listed_lines n (f ∷ fs) = stating_line n f.0 (listed_content f.1) ∷ listed_lines (suc n) fs

abbrev pub listed_hint : Listed × Option ℕ → HintRow
listed_hint h = record { clause = hint_clause h.0.formula; weight = h.1 }

-- what a file makes of it
abbrev pub search_by : Sofar → SearchInput
search_by s = record {
  options = s.settings.options;
  stated = stated_in s;
  hints = map listed_hint s.hints;
  weights = s.weights;
  name_weights = s.kbo_weights;
  listed = s.settings.function_order;
}

abbrev pub quest_by : List ℕ → Sofar → Quest
quest_by bytes s = record {
  input = bytes;
  search = search_by s;
  formulas = listed_lines 1 s.formulas;
  operators = line_tables s.settings.options.prolog_style_variables s.settings.operators;
}

-- the bytes of a file ask for this
abbrev pub asks : List ℕ → Quest → Type 0
asks bytes q = (s : Sofar) × Says Prover bytes (problem s) × (quest_by bytes s ≡ q)

-- what the code has of it
abbrev pub quest_with : List ℕ → Problem → List OperatorRow → Quest
quest_with bytes p rows = record {
  input = bytes;
  search = input_in p;
  formulas = formula_lines 1 p.inputs.items;
  operators = line_tables p.options.prolog_style_variables rows;
}

abbrev pub quest_in : List ℕ → FileRead → Quest
quest_in bytes r = quest_with bytes r.problem r.operators

-- the bytes state a problem, and this is what the code had of it
pub record IsHad (bytes : List ℕ) : Type 0 where
  pub says : Sofar
  pub is_said : Says Prover bytes (problem says)
  pub had : FileRead
  pub is_had : IsOf says had
  pub wanted : had.problem.options.max_proofs < 2 ^ 32

-- all lines of a state
abbrev pub quest_lines : Quest → SearchState → List PlainLine
quest_lines q t = lines_at (stated_lines q.formulas q.search.stated.formulas (rows_in q.search)) t

-- after how many seconds to stop, if a time is set: the word stands in place of the option
abbrev pub quest_seconds : Option ℕ → Quest → Option ℕ
quest_seconds word q = option_or word (seconds_of q.search.options)
