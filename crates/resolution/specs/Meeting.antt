-- Literals that can't clash or be merged.
use Rattle.std.specs.Prelude.{ℕ, IsTrue}
use Rattle.fol_core.specs.Literals.{ClauseTree}
use Rattle.derivation.specs.Places.{atom_at, are_alike, are_opposite}
use Rattle.discrim_tree.specs.Meeting.{NeverMeet}

-- literals of opposite signs whose atoms never meet, or literals that aren't of opposite signs
abbrev pub NeverClash : ClauseTree → ℕ → ClauseTree → ℕ → Type 0
NeverClash c a d b = IsTrue (are_opposite c a d b) → NeverMeet (atom_at c a) (atom_at d b)

-- literals of one sign whose atoms never meet, or literals that aren't of one sign
abbrev pub NeverMerge : ClauseTree → ℕ → ℕ → Type 0
NeverMerge c a b = IsTrue (are_alike c a c b) → NeverMeet (atom_at c a) (atom_at c b)
