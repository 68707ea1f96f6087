-- How many levels a proof has, and how large its clauses are.
use Rattle.std.specs.Prelude.{ℕ, suc, max, ◌==◌, if◌then◌else◌, List, [], ◌∷◌, ◌++◌}
use Rattle.clause_store.specs.Ancestors.{line_parents}
use Rattle.clause_store.specs.Lines.{PlainContent, plain_formula, plain_clause, PlainLine}
use Rattle.derivation.specs.Lines.{LineTree}
use Rattle.prover_steps.specs.Searching.{clause_size}

-- the level of the line of a number, among lines with their levels
abbrev pub level_among : List (ℕ × ℕ) → ℕ → ℕ
level_among [] n = 0
level_among (k ∷ ks) n = if k.0 == n then k.1 else level_among ks n

-- a line without parents has level 0; another one, one more than the highest parent
abbrev pub level_above : List (ℕ × ℕ) → List ℕ → ℕ
level_above ks [] = 0
level_above ks (n ∷ ns) = max (suc (level_among ks n)) (level_above ks ns)

-- lines with their levels, behind earlier ones
abbrev pub with_levels : List (ℕ × ℕ) → List LineTree → List (ℕ × ℕ)
with_levels ks [] = ks
with_levels ks (l ∷ ls) = with_levels (ks ++ (l.number, level_above ks (line_parents l)) ∷ []) ls

-- the level of the line of a number
abbrev pub level_in : List LineTree → ℕ → ℕ
level_in ls n = level_among (with_levels [] ls) n

-- how many symbols and variables a line's clause has, and the greatest number of them
abbrev pub content_size : PlainContent → ℕ
content_size (plain_formula f names label) = 0
content_size (plain_clause c) = clause_size c

abbrev pub greatest_size : List PlainLine → ℕ
greatest_size [] = 0
greatest_size (l ∷ ls) = max (content_size l.content) (greatest_size ls)
