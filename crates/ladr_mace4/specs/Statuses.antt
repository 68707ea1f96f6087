-- The exit statuses of a search.
use Rattle.std.specs.Prelude.{ℕ}
use Rattle.ladr_mace4.specs.declared.ends.SearchEnd.{SearchEnd}
use Rattle.ladr_mace4.specs.declared.ends.SearchEnd.TheVariants.{MaxModels, Exhausted, AllModels, MaxMegs, MaxSeconds, GroundLimit, ClauseLimit}

abbrev pub end_status : SearchEnd → ℕ
end_status MaxModels = 0
end_status Exhausted = 2
end_status MaxMegs = 3
end_status (MaxSeconds first last) = 4
end_status AllModels = 8
end_status (GroundLimit size) = 13
end_status (ClauseLimit formula) = 13
