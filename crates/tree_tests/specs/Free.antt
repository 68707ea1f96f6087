-- Numbers that no entry has.
use Rattle.std.specs.Prelude.{ℕ, ◌≡◌, ◌≤◌, false, List}
use Rattle.discrim_tree.specs.Entries.{Indexed, has_number}

-- no entry has a number from this one on
abbrev pub AreFree : ℕ → List Indexed → Type 0
AreFree k es = (n : ℕ) → k ≤ n → has_number n es ≡ false
