-- What stands behind the content of a line, which is what a goal asks for or the answers of a clause;
-- and the line.
use Rattle.std.specs.Prelude.{◌≡◌, ℕ, Bool, true, false, if◌then◌else◌, List, [], ◌∷◌, Option, None, option_map}
use Rattle.answers.specs.AnswerView.{answers_of}
use Rattle.fol_core.specs.Fol.{Fol}
use Rattle.fol_core.specs.FormulaView.{fol_of}
use Rattle.fol_core.specs.Free.{free_vars_of}
use Rattle.fol_core.specs.RawTree.{RawTree}
use Rattle.fol_core.specs.SymbolTable.{Symbol}
use Rattle.derivation.specs.declared.line.Content.{Content}
use Rattle.derivation.specs.declared.line.Content.TheVariants.{Formula, Clause}
use Rattle.derivation.specs.declared.line.Line.{Line}
use Rattle.derivation.specs.declared.line.LineNotes.{LineNotes}
use Rattle.ladr_formulas.specs.declared.styles.Style.{Style}
use Rattle.ladr_rules.specs.Asked.{line_asks}
use Rattle.proof_lines.specs.Lines.{LineParts}
use Rattle.proof_lines.specs.Stated.{line_made, answers_read_behind, IsContentOf}
use Rattle.proof_words.specs.Written.{WrittenFirst, as_goal, written_of, states_formula}

abbrev pub is_goal_word : WrittenFirst → Bool
is_goal_word as_goal = true
is_goal_word w = false

abbrev is_none : List ℕ → Bool
is_none [] = true
is_none (x ∷ xs) = false

-- a formula with free variables can't be asked for any place
abbrev pub places_kept : Fol → List ℕ → List ℕ
places_kept f places = if is_none (free_vars_of f) then places else []

-- what is kept of places that a content asks for; a clause asks for nothing
abbrev pub kept_of : Content → Option (List ℕ) → Option (List ℕ)
kept_of (Formula f label) asks = option_map (places_kept (fol_of f.shape)) asks
kept_of (Clause c) asks = None

-- what the goal of a line asks for, if it has an attribute for that
abbrev pub goal_asks : Style → List Symbol → RawTree → Option (List ℕ)
goal_asks st table t = option_map (places_kept (line_made st table true t).tree) (line_asks t)

-- goals alone ask for anything
abbrev pub asks_if : Bool → Style → List Symbol → RawTree → Option (List ℕ)
asks_if is_goal st table t = if is_goal then goal_asks st table t else None

-- what the code's notes say
abbrev pub asks_in : LineNotes → Option (List ℕ)
asks_in notes = option_map (λ places. places.items) notes.asks

-- the code's line has these parts, read behind this table
pub record IsLineOf (st : Style) (table : List Symbol) (l : LineParts) (line : Line) : Type 0 where
  pub number : line.number ≡ l.number
  pub words : written_of line.just ≡ l.words
  pub content :
      IsContentOf (states_formula l.words.first) l.content
      (line_made st table (states_formula l.words.first) l.content) line.content
  pub asks : asks_in line.notes ≡ asks_if (is_goal_word l.words.first) st table l.content
  pub answers :
      answers_of line.notes.answers.items
      ≡ (answers_read_behind st table (states_formula l.words.first) l.content l.answers).tree
