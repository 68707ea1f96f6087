-- the text so far and that of the entries to come is that of all
use Rattle.std.proofs.Common.{◌≡◌, ℕ, zero, suc, List, ◌++◌, map, drop}
use Rattle.ladr_interpretations.specs.NamedText.{table_text}
use Rattle.model_tables.specs.ModelText.{entry_lines, lines_behind}
use Rattle.ladr_interpretations.proofs.text.put_entries.Given as goal

-- the lines of entries, where one stands before or none does
abbrev lines_from : ℕ → List (List ℕ) → List ℕ
lines_from zero es = entry_lines es
lines_from (suc n) es = lines_behind es

abbrev pub invariant-loop-at : goal.invariant-loop-at
invariant-loop-at l = l.out.items ++ lines_from l.at (map table_text (drop l.at l.entries)) ≡ l.fn.out.items ++ entry_lines (map table_text l.entries)
