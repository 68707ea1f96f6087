-- How far lines are read.
use Rattle.std.specs.Prelude.{ℕ, ◌≡◌, ◌<◌, ◌≤◌, ◌-◌, false, Bool, List, [], ◌∷◌, take, drop, slice_index_or, Some, None}
use Rattle.answered_lines.specs.Lines.{Asked, AnsweredRow, AnsweredLine, plain_lines, AreLinesWith}
use Rattle.answered_lines.specs.Refused.{HasFaultWith, IsFaultWith}
use Rattle.answered_lines.specs.View.{answered_line, answered_lines_of}
use Rattle.derivation.specs.Lines.{LineTree, ends_empty, is_empty_clause}
use Rattle.derivation.specs.declared.line.Line.{Line}
use Rattle.derivation.specs.declared.row.Row.{Row}
use Rattle.derivation.specs.declared.row.Row.TheVariants.{NotEmpty}

-- each number is above this one
abbrev pub AreAbove : ℕ → List LineTree → Type 0
AreAbove n [] = Unit {0}
AreAbove n (l ∷ ls) = (n < l.number) × AreAbove n ls

-- or is at most this one
abbrev pub AreAtMost : ℕ → List LineTree → Type 0
AreAtMost n [] = Unit {0}
AreAtMost n (l ∷ ls) = (l.number ≤ n) × AreAtMost n ls

-- the numbers of lines rise
abbrev pub AreRising : List LineTree → Type 0
AreRising [] = Unit {0}
AreRising (l ∷ ls) = AreAbove l.number ls × AreRising ls

-- whether lines behind one end empty
abbrev pub ends_behind : AnsweredLine → List AnsweredLine → Bool
ends_behind p [] = is_empty_clause p.line.content
ends_behind p (l ∷ ls) = ends_empty (plain_lines (l ∷ ls))

-- a fault behind a line that is one
abbrev pub FaultBehind : List Asked → List AnsweredRow → List AnsweredLine → AnsweredLine →
    List AnsweredLine → ℕ → Row → Type 0
FaultBehind ss rows earlier p [] number row =
    (number ≡ p.line.number) × (row ≡ NotEmpty) × (is_empty_clause p.line.content ≡ false)
FaultBehind ss rows earlier p (l ∷ ls) number row =
    HasFaultWith ss rows earlier (Some p.line.number) (l ∷ ls) number row

-- behind a line, which is the last one read, the rest decides
pub record Reaches (ss : List Asked) (rows : List AnsweredRow) (all earlier : List AnsweredLine)
    (p : AnsweredLine) (rest : List AnsweredLine) : Type 0 where
  pub rising : AreRising (plain_lines earlier)
  pub last : AreAtMost p.line.number (plain_lines earlier)
  pub are :
      AreLinesWith ss rows earlier (Some p.line.number) rest → AreLinesWith ss rows [] None all
  pub fault : (number : ℕ) (row : Row) → FaultBehind ss rows earlier p rest number row →
      IsFaultWith ss rows all number row
  pub ends : ends_empty (plain_lines all) ≡ ends_behind p rest

-- the lines before a place are read, of which the last is the one before it
pub record Going (ss : List Asked) (rows : List AnsweredRow) (ls : List Line) (i : ℕ) : Type 0 where
  pub last : Line
  pub is : last ≡ slice_index_or ls (i - 1) last
  pub reaches :
      Reaches ss rows (answered_lines_of ls) (answered_lines_of (take i ls)) (answered_line last)
      (answered_lines_of (drop i ls))
