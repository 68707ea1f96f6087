-- Setting a slot, and setting it back.
use Rattle.std.proofs.Common.{◌≡◌, ℕ, ◌<◌, List, length, set, Option, Some, None, ◌∙◌, arith}
use Rattle.std.proofs.lemmas.Grind.{common_steps}
use Rattle.std.proofs.lemmas.Bool.Decides.{nat_tests}
use Rattle.std.proofs.lemmas.List.{set-set, set-get_or}
use Rattle.fol_core.specs.Truth.{with_var}
use Rattle.model_tables.specs.Variables.{assignment, slot}

pub set_back : (slots : List (Option ℕ)) (x n : ℕ) → x < length slots → set (set slots x (Some n)) x (slot slots x) ≡ slots
set_back slots x n h = set-set slots x (Some n) (slot slots x) ∙ set-get_or slots x None

pub at_each : (slots : List (Option ℕ)) (x n : ℕ) → x < length slots → (y : ℕ) → assignment (set slots x (Some n)) y ≡ with_var (assignment slots) x n y
at_each slots x n h y = grind (arith, common_steps, nat_tests)

pub with_slot : (slots : List (Option ℕ)) (x n : ℕ) → x < length slots → assignment (set slots x (Some n)) ≡ with_var (assignment slots) x n
with_slot slots x n h = λ i y. at_each slots x n h y i
