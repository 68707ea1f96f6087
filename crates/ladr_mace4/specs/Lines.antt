-- What is printed of a search, models apart.
use Rattle.std.specs.Prelude.{ℕ, List, ◌++◌, codes}
use Rattle.std.specs.Fmt.{decimal}
use Rattle.ladr_intake.specs.Refusals.{clause_limit_line}
use Rattle.ladr_mace4.specs.declared.ends.SearchEnd.{SearchEnd}
use Rattle.ladr_mace4.specs.declared.ends.SearchEnd.TheVariants.{MaxModels, Exhausted, AllModels, MaxMegs, MaxSeconds, GroundLimit, ClauseLimit}
use Rattle.ladr_output.specs.Telling.{as_line}
use Rattle.search_clock.specs.Lines.{exit_line, seconds_line}

-- a size begins; it is skipped; it is searched to its end
abbrev pub size_line : ℕ → List ℕ
size_line n = as_line (codes "% Domain size " ++ decimal n ++ codes ".")

abbrev pub skipped_line : ℕ → List ℕ
skipped_line n = as_line (codes "% Domain size " ++ decimal n ++ codes " skipped.")

abbrev pub exhausted_line : ℕ → List ℕ
exhausted_line n = as_line (codes "% Domain size " ++ decimal n ++ codes " exhausted.")

-- how many models were printed
abbrev pub models_line : ℕ → List ℕ
models_line k = as_line (codes "% Models=" ++ decimal k ++ codes ".")

-- a size has too many cells by far
abbrev pub ground_limit_line : ℕ → List ℕ
ground_limit_line n = as_line (codes "ladr: ground limit at size " ++ decimal n)

-- the lines that a search ends with, so many models having been printed
abbrev pub last_lines : ℕ → List ℕ → List ℕ
last_lines k reason = models_line k ++ exit_line reason

abbrev pub end_text : ℕ → SearchEnd → List ℕ
end_text k MaxModels = last_lines k (codes "max_models")
end_text k Exhausted = last_lines k (codes "exhausted")
end_text k AllModels = last_lines k (codes "all_models")
end_text k MaxMegs = last_lines k (codes "max_megs")
end_text k (MaxSeconds first last) = models_line k ++ seconds_line first last
end_text k (GroundLimit size) = ground_limit_line size
end_text k (ClauseLimit formula) = clause_limit_line formula
