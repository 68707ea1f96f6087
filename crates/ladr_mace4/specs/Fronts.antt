-- What is printed of a search that is cut off.
use Rattle.std.specs.Prelude.{◌≡◌, ℕ, List, [], ◌∷◌, ◌++◌}
use Rattle.fol_problem.specs.Stated.{Stated}
use Rattle.ladr_io.specs.Streams.{Outflow, AreLastHeld}
use Rattle.ladr_io.specs.Times.{Times, no_times, later}
use Rattle.ladr_mace4.specs.Finding.{Sought}
use Rattle.ladr_mace4.specs.declared.ends.SearchEnd.{SearchEnd}
use Rattle.ladr_mace4.specs.declared.plan.Plan.{Plan}

-- what a clock tells that told t before and gave these readings since, one after the other
abbrev pub times_after : Times → List ℕ → Times
times_after t [] = t
times_after t (now ∷ readings) = times_after (later t now) readings

-- The text is a front of a whole output: a search for models of what is stated comes to it, if the
-- clock gives these readings.
pub record IsFront (p : Stated) (s : Plan) (text : List ℕ) : Type 0 where
  pub readings : List ℕ
  pub end : SearchEnd
  pub whole : List ℕ
  pub sought : Sought p s (times_after no_times readings) end whole
  pub rest : List ℕ
  pub parts : whole ≡ text ++ rest

-- what was written is such a front
pub record WroteFront (p : Stated) (s : Plan) (old new : Outflow) : Type 0 where
  pub front : List ℕ
  pub wrote : AreLastHeld old.held new.held front
  pub whole : IsFront p s front
