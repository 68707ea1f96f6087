-- What the code holds, as derivations with answers have it.
use Rattle.std.specs.Prelude.{◌≡◌, ℕ, Bool, if◌then◌else◌, List, [], map, slice_index_or, Option, Some, None}
use Rattle.answered_lines.specs.Lines.{Asked, asked, with_asks, AnsweredRow, answered_row, with_terms, AnsweredLine, HasItems, counted, IsSome, IsRowWith}
use Rattle.derivation.specs.Lines.{ContentTree, formula, InputRow, assumed, wanted}
use Rattle.answers.specs.AnswerTrees.{Answer}
use Rattle.fol_core.specs.Fol.{Fol}
use Rattle.fol_core.specs.Tree.{Tree, trees_of}
use Rattle.fol_problem.specs.Stated.{said_of, all_said}
use Rattle.fol_problem.specs.declared.problem.Input.{Input}

-- inputs with what they ask for
abbrev pub asked_input : Input → Asked
asked_input i = asked (said_of i) i.answer.items

abbrev pub asked_inputs : List Input → List Asked
asked_inputs inputs = with_asks (all_said inputs) (map (λ i. i.answer.items) inputs)

-- input clauses with the terms of their answers
abbrev pub rows_with : List InputRow → List (List Tree) → List AnsweredRow
rows_with rows lists = with_terms rows (map trees_of lists)

-- the one at a place, which has no terms where none stand there
abbrev pub row_at : List InputRow → List (List Tree) → ℕ → AnsweredRow
row_at rows lists i =
    answered_row (slice_index_or rows i (0, [])) (trees_of (slice_index_or lists i []))

-- an attribute asks for these places, and for something
abbrev pub AsksFor : Option (List ℕ) → List ℕ → Type 0
AsksFor None own = Unit {0}
AsksFor (Some places) own = (own ≡ places) × HasItems places

-- a line has the formula, as a goal that asks for this or as another one
abbrev pub HasFormula : AnsweredLine → Bool → Fol → Option (List ℕ) → Type 0
HasFormula l goal f asks =
    (l.line.content ≡ formula f) × (l.line.first ≡ (if goal then wanted else assumed))
    × (counted goal l.asks ≡ asks)

-- the content and its answers are an input clause of the formula of a line
abbrev pub IsInputOfLine : List Asked → List AnsweredRow → AnsweredLine → Bool → ContentTree →
    List Answer → Type 0
IsInputOfLine ss rows l goal content us =
    (f : Fol) × (asks : Option (List ℕ)) × HasFormula l goal f asks
    × IsSome (IsRowWith goal f asks ss l.line.number content us) rows
