-- Answers at the end of a clause, each once.
use Rattle.std.specs.Prelude.{ℕ, ◌+◌, ◌<◌, ◌≤◌, ◌≡◌, List, ◌++◌, length, slice_get}
use Rattle.answers.specs.AnswerTrees.{Answer, all_added, each_once}
use Rattle.answers.specs.Packed.{packed}
use Rattle.fol_core.specs.Literals.{ClauseTree}

-- a literal stands before, from a first place on
abbrev pub IsAmong : ClauseTree → ℕ → ℕ → Type 0
IsAmong c first place =
    (b : ℕ) × (first ≤ b) × (b < place) × (slice_get c b ≡ slice_get c place)

-- the answers before a place are kept, and those from it on are left
pub record Keeping (c : ClauseTree) (us : List Answer) (whole : ClauseTree) (place : ℕ) : Type 0 where
  pub kept : List Answer
  pub rest : List Answer
  pub whole_is : whole ≡ c ++ packed (kept ++ rest)
  pub place_is : place ≡ length c + length kept
  pub all : all_added kept rest ≡ each_once us
