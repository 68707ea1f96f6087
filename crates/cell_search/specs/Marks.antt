-- The marks of a clause's variables: where they stand in an occurrence.
use Rattle.std.specs.Prelude.{ℕ, suc, ◌^◌, nat_lt, Bool, true, false, if◌then◌else◌, List, [], ◌∷◌, replicate, set}
use Rattle.fol_core.specs.Tree.{Tree, var, elem, app, Trees, none, more}
use Rattle.cell_search.specs.Searchable.{count_of}
use Rattle.cell_search.specs.declared.walks.Mark.{Mark}
use Rattle.cell_search.specs.declared.walks.Mark.TheVariants.{Other, Nested, Direct}

abbrev mutual
  -- each variable of a term is marked as one that stands in an argument
  pub nested_in : Tree → List Mark → List Mark
  nested_in (var x) marks = set marks x Nested
  nested_in (elem k) marks = marks
  nested_in (app s ts) marks = all_nested_in ts marks

  pub all_nested_in : Trees → List Mark → List Mark
  all_nested_in none marks = marks
  all_nested_in (more t ts) marks = all_nested_in ts (nested_in t marks)

-- and one that is itself an argument as such a one
abbrev pub direct_one : Tree → List Mark → List Mark
direct_one (var x) marks = set marks x Direct
direct_one (elem k) marks = marks
direct_one (app s ts) marks = marks

abbrev pub direct_in : Trees → List Mark → List Mark
direct_in none marks = marks
direct_in (more t ts) marks = direct_in ts (direct_one t marks)

-- the marks of so many variables, by the terms of an occurrence
abbrev pub marks_of : ℕ → Trees → List Mark
marks_of many ts = direct_in ts (all_nested_in ts (replicate many Other))

abbrev pub is_mark : Mark → Mark → Bool
is_mark Other Other = true
is_mark Nested Nested = true
is_mark Direct Direct = true
is_mark Other Nested = false
is_mark Other Direct = false
is_mark Nested Other = false
is_mark Nested Direct = false
is_mark Direct Other = false
is_mark Direct Nested = false

-- the variables with this mark, the marks being those of variable x and on
abbrev pub marked_from : ℕ → Mark → List Mark → List ℕ
marked_from x mark [] = []
marked_from x mark (m ∷ marks) =
    if is_mark m mark then x ∷ marked_from (suc x) mark marks else marked_from (suc x) mark marks

-- how many cells lie between those of one element and the next for an argument that has so many
-- behind it, where that is a number of the code
abbrev pub step_of : ℕ → ℕ → ℕ
step_of n behind = if nat_lt (n ^ behind) (2 ^ 32) then n ^ behind else 0

-- an argument that is a variable, with that, in front of others
abbrev pub with_step : Tree → ℕ → List (ℕ × ℕ) → List (ℕ × ℕ)
with_step (var x) step ds = (x, step) ∷ ds
with_step (elem k) step ds = ds
with_step (app s ts) step ds = ds

-- the arguments that are variables, each with that
abbrev pub directs : ℕ → Trees → List (ℕ × ℕ)
directs n none = []
directs n (more t ts) = with_step t (step_of n (count_of ts)) (directs n ts)
