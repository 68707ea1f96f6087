-- Tests of entries, counted.
use Rattle.std.specs.Prelude.{ℕ, ◌+◌, ◌-◌, ◌^◌, ◌<◌, ◌≤◌, if◌then◌else◌, nat_le, nat_lt, List, length, Option, None, Some}
use Rattle.std.specs.List.{filter}
use Rattle.fol_core.specs.Tree.{Tree}
use Rattle.discrim_tree.specs.Entries.{Indexed, numbers_found}
use Rattle.discrim_tree.specs.Linear.{passes_linear}
use Rattle.discrim_tree.specs.declared.sought.Sought.{Sought}

-- how many entries would be found if each occurrence of a variable were a variable of its own
abbrev pub count_linear : Sought → Tree → List Indexed → ℕ
count_linear sought t es = length (numbers_found (passes_linear sought t) es)

-- how many of rising numbers there are up to one, or all of them
abbrev pub up_to : Option ℕ → List ℕ → ℕ
up_to None ns = length ns
up_to (Some n) ns = length (filter (λ m. nat_le m n) ns)

-- how many entries would be found so up to one that is found, or all of them where none is found
abbrev pub count_up_to : Sought → Tree → List Indexed → Option ℕ → ℕ
count_up_to sought t es found = up_to found (numbers_found (passes_linear sought t) es)

-- the greatest number of tests
abbrev pub greatest : ℕ
greatest = 2 ^ 64 - 1

-- one test more, up to the greatest number
abbrev pub raised : ℕ → ℕ
raised n = if nat_lt n greatest then n + 1 else n

-- so many tests at least were counted, unless the number is the greatest
abbrev pub HasRisen : ℕ → ℕ → ℕ → Type 0
HasRisen least old new = new < greatest → old + least ≤ new
