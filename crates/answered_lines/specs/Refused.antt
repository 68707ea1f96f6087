-- Why a line is none of a derivation with answers: the rows of plain lines, where answers count in three of them.
use Rattle.std.specs.Prelude.{ℕ, ◌≡◌, Bool, true, false, IsTrue, ◌⊎◌, List, [], ◌∷◌, ◌++◌, Option, Some, None}
use Rattle.answers.specs.AnswerTrees.{Answer}
use Rattle.answered_lines.specs.Lines.{Asked, AnsweredRow, AnsweredLine, plain_lines, IsInferredWith, IsInstanceWith, IsStatedWith, IsInputWith, IsLineWith}
use Rattle.derivation.specs.Later.{LaterWord}
use Rattle.derivation.specs.Lines.{FirstWord, assumed, wanted, clausified, denied, copied, resolved, factored, paramodulated, xx_resolved, instantiated, Inference, copy_inference, clash_inference, factor_inference, para_inference, xx_inference, ContentTree, IsInferred, IsInstance, is_formula_at, IsAbove, is_empty_clause}
use Rattle.derivation.specs.Refused.{InferenceFails, InstanceFails}
use Rattle.derivation.specs.declared.row.Row.{Row}
use Rattle.derivation.specs.declared.row.Row.TheVariants.{NoLines, NotAbove, NoParent, NoFormula, NoClause, OtherClause, NotEmpty}
use Rattle.substitutions.specs.Bindings.{Binding}

-- the rows of a formula: none of the problem's is it and asks for the same, or words stand behind
abbrev pub StatedFailsWith : Bool → List Asked → List LaterWord → ContentTree → Option (List ℕ) →
    Row → Type 0
StatedFailsWith goal ss ws content asks row =
    ((row ≡ NoFormula) × ¬ IsStatedWith goal content asks ss)
    ⊎ ((row ≡ OtherClause) × IsStatedWith goal content asks ss × ¬ (ws ≡ []))

-- those of an input clause: the number is none of an earlier formula; the formula isn't of the
-- kind, or none of its clauses has these answers
abbrev pub InputFailsWith : List Asked → List AnsweredRow → List AnsweredLine → Bool → ℕ →
    List LaterWord → ContentTree → List Answer → Row → Type 0
InputFailsWith ss rows ls goal n ws content us row =
    ((row ≡ NoParent) × (is_formula_at (plain_lines ls) n ≡ false))
    ⊎ (((row ≡ NoClause) × IsTrue (is_formula_at (plain_lines ls) n)
    × ¬ IsInputWith ss rows ls goal n content us)
    ⊎ ((row ≡ OtherClause) × IsInputWith ss rows ls goal n content us × ¬ (ws ≡ [])))

-- those of a rule: the plain ones, or the clause is inferred and the answers aren't its own
abbrev pub InferenceFailsWith : List AnsweredLine → Inference → List LaterWord → ContentTree →
    List Answer → Row → Type 0
InferenceFailsWith ls i ws content us row =
    InferenceFails (plain_lines ls) i ws content row
    ⊎ ((row ≡ OtherClause) × IsInferred (plain_lines ls) i ws content
    × ¬ IsInferredWith ls i ws content us)

-- so of an instance
abbrev pub InstanceFailsWith : List AnsweredLine → ℕ → List Binding → List LaterWord →
    ContentTree → List Answer → Row → Type 0
InstanceFailsWith ls n es ws content us row =
    InstanceFails (plain_lines ls) n es ws content row
    ⊎ ((row ≡ OtherClause) × IsInstance (plain_lines ls) n es ws content
    × ¬ IsInstanceWith ls n es ws content us)

-- the row of a line whose number is above the last one
abbrev pub LineFailsWith : List Asked → List AnsweredRow → List AnsweredLine → FirstWord →
    List LaterWord → ContentTree → Option (List ℕ) → List Answer → Row → Type 0
LineFailsWith ss rows ls assumed ws content asks us row =
    StatedFailsWith false ss ws content asks row
LineFailsWith ss rows ls wanted ws content asks us row =
    StatedFailsWith true ss ws content asks row
LineFailsWith ss rows ls (clausified n) ws content asks us row =
    InputFailsWith ss rows ls false n ws content us row
LineFailsWith ss rows ls (denied n) ws content asks us row =
    InputFailsWith ss rows ls true n ws content us row
LineFailsWith ss rows ls (copied n) ws content asks us row =
    InferenceFailsWith ls (copy_inference n) ws content us row
LineFailsWith ss rows ls (resolved n k) ws content asks us row =
    InferenceFailsWith ls (clash_inference n k) ws content us row
LineFailsWith ss rows ls (factored n a b) ws content asks us row =
    InferenceFailsWith ls (factor_inference n a b) ws content us row
LineFailsWith ss rows ls (paramodulated n a side m b path) ws content asks us row =
    InferenceFailsWith ls (para_inference n a side m b path) ws content us row
LineFailsWith ss rows ls (xx_resolved n a) ws content asks us row =
    InferenceFailsWith ls (xx_inference n a) ws content us row
LineFailsWith ss rows ls (instantiated n es) ws content asks us row =
    InstanceFailsWith ls n es ws content us row

-- the row by which a line is refused, and when a line isn't
abbrev pub IsRefusedWith : List Asked → List AnsweredRow → List AnsweredLine → Option ℕ →
    AnsweredLine → Row → Type 0
IsRefusedWith ss rows ls last l row =
    ((row ≡ NotAbove) × ¬ IsAbove last l.line.number)
    ⊎ (IsAbove last l.line.number
    × LineFailsWith ss rows ls l.line.first l.line.later l.line.content l.asks l.answers row)

abbrev pub IsAcceptedWith : List Asked → List AnsweredRow → List AnsweredLine → Option ℕ →
    AnsweredLine → Type 0
IsAcceptedWith ss rows ls last l =
    IsAbove last l.line.number
    × IsLineWith ss rows ls l.line.first l.line.later l.line.content l.asks l.answers

-- the first line that is refused, with its row; where none is, the last line, which isn't the empty
-- clause
abbrev pub HasFaultWith : List Asked → List AnsweredRow → List AnsweredLine → Option ℕ →
    List AnsweredLine → ℕ → Row → Type 0
HasFaultWith ss rows earlier last [] number row = ⊥
HasFaultWith ss rows earlier last (l ∷ []) number row =
    (number ≡ l.line.number)
    × (IsRefusedWith ss rows earlier last l row
    ⊎ (IsAcceptedWith ss rows earlier last l × (row ≡ NotEmpty)
    × (is_empty_clause l.line.content ≡ false)))
HasFaultWith ss rows earlier last (l ∷ k ∷ ls) number row =
    ((number ≡ l.line.number) × IsRefusedWith ss rows earlier last l row)
    ⊎ (IsAcceptedWith ss rows earlier last l
    × HasFaultWith ss rows (earlier ++ l ∷ []) (Some l.line.number) (k ∷ ls) number row)

-- what is told of lines that are no refutation: where there are none, that of line 0
abbrev pub IsFaultWith : List Asked → List AnsweredRow → List AnsweredLine → ℕ → Row → Type 0
IsFaultWith ss rows [] number row = (number ≡ 0) × (row ≡ NoLines)
IsFaultWith ss rows (l ∷ ls) number row = HasFaultWith ss rows [] None (l ∷ ls) number row
