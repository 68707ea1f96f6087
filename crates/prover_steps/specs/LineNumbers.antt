-- The numbers of the lines that a search makes.
use Rattle.std.specs.Prelude.{ℕ, suc, ◌≡◌, ◌+◌, length, List, [], ◌∷◌}
use Rattle.fol_problem.specs.Stated.{Said}
use Rattle.derivation.specs.Lines.{InputRow}
use Rattle.prover_steps.specs.Clashing.{Held}
use Rattle.prover_steps.specs.Searching.{Setting, Queued, MadeLine, SearchState, with_line, unit_meets, subsumes_back, deletes_back, rewrites_back, rules_back, works_back, processed, next_state, SearchReaches}
use Rattle.prover_steps.specs.Starting.{start_state}

-- lines are numbered one by one from a number on
abbrev pub AreNumberedFrom : ℕ → List MadeLine → Type 0
AreNumberedFrom n [] = Unit {0}
AreNumberedFrom n (l ∷ ls) = (l.number ≡ n) × AreNumberedFrom (suc n) ls

-- a state's lines are, and the next number is behind theirs
pub record NumbersLinesFrom (first next : ℕ) (ls : List MadeLine) : Type 0 where
  pub numbered : AreNumberedFrom first ls
  pub counted : next ≡ first + length ls

abbrev pub CountsLinesFrom : ℕ → SearchState → Type 0
CountsLinesFrom first s = NumbersLinesFrom first s.next s.lines

-- two states have the same lines
pub record HaveSameLines (s t : SearchState) : Type 0 where
  pub lines : t.lines ≡ s.lines
  pub next : t.next ≡ s.next

-- a line is made under the next number, and so is that of a proof by two units
abbrev pub LineCounts : Type 0
LineCounts =
    (first : ℕ) (s : SearchState) (q : Queued)
    → CountsLinesFrom first s → CountsLinesFrom first (with_line s q)

abbrev pub MeetingCounts : Type 0
MeetingCounts =
    (first : ℕ) (s : SearchState) (h : Held)
    → CountsLinesFrom first s → CountsLinesFrom first (unit_meets s h)

-- what a clause does to others makes no line
abbrev pub WorkingMakesNone : Type 0
WorkingMakesNone =
    (st : Setting) (h : Held) (s : SearchState)
    → HaveSameLines s (subsumes_back st h s) × HaveSameLines s (deletes_back st h s)
    × HaveSameLines s (rewrites_back st h s) × HaveSameLines s (rules_back st h s)
    × HaveSameLines s (works_back st h s)

-- processing a clause, and each step of a search
abbrev pub ProcessingCounts : Type 0
ProcessingCounts =
    (first : ℕ) (st : Setting) (s : SearchState) (q : Queued)
    → CountsLinesFrom first s → CountsLinesFrom first (processed st s q)

abbrev pub NextCounts : Type 0
NextCounts =
    (first : ℕ) (st : Setting) (s : SearchState)
    → CountsLinesFrom first s → CountsLinesFrom first (next_state st s)

-- lines are numbered behind those of the problem
abbrev pub ReachedCountLines : Type 0
ReachedCountLines =
    (st : Setting) (ss : List Said) (rows : List InputRow) (t : SearchState)
    → SearchReaches st (start_state ss rows) t
    → CountsLinesFrom (suc (length ss + length rows)) t
