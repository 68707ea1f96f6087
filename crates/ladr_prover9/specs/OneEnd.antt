-- Where no time is over, what is asked for comes to one end, with one text.
use Rattle.std.specs.Prelude.{◌≡◌, ◌≢◌, ◌⊎◌, ℕ, List, Option, None}
use Rattle.std.specs.declared.result.Result.TheVariants.{Ok}
use Rattle.ladr_io.specs.Streams.{Inflow, Outflow, Takes}
use Rattle.ladr_io.specs.Times.{Times}
use Rattle.ladr_prover9.specs.Finding.{Proves, Refutes}
use Rattle.ladr_prover9.specs.Quests.{Quest, asks, quest_seconds}
use Rattle.ladr_prover9.specs.declared.ends.ProverEnd.{ProverEnd}
use Rattle.ladr_prover9.specs.declared.ends.ProverEnd.TheVariants.{MaxSeconds}

-- bytes ask for one thing at most
abbrev pub AsksAreOne : Type 0
AsksAreOne = (bytes : List ℕ) (q r : Quest) → asks bytes q → asks bytes r → q ≡ r

-- no time is set, or the end isn't that the time is over
abbrev pub IsUntimed : Option ℕ → ProverEnd → Type 0
IsUntimed seconds end = (seconds ≡ None) ⊎ ((first last : ℕ) → end ≢ MaxSeconds first last)

-- what is asked for comes to one such end, with one text, whatever the clocks gave
abbrev pub EndIsOne : Type 0
EndIsOne =
    (q : Quest) (seconds seconds' : Option ℕ) (times times' : Times) (end end' : ProverEnd)
    (text text' : List ℕ)
    → IsUntimed seconds end → IsUntimed seconds' end'
    → Proves q seconds times end text → Proves q seconds' times' end' text'
    → (end ≡ end') × (text ≡ text')

-- so it is of an end of a run with these bytes, by its word and the input's options
abbrev pub IsUntimedRun : Option ℕ → List ℕ → ProverEnd → Type 0
IsUntimedRun word bytes end =
    (q : Quest) → asks bytes q → IsUntimed (quest_seconds word q) end

-- Two runs with the same bytes that come to such an end come to the same one, and their sinks took
-- the same text.
abbrev pub RunsEndAlike : Type 0
RunsEndAlike =
    (word word' : Option ℕ) (from from' source source' : Inflow) (to to' sink sink' : Outflow)
    (times times' : Times) (end end' : ProverEnd)
    (run : Refutes word from from' to to' times (Ok end))
    (again : Refutes word' source source' sink sink' times' (Ok end'))
    → run.bytes ≡ again.bytes
    → IsUntimedRun word run.bytes end → IsUntimedRun word' again.bytes end'
    → (end ≡ end') × ((text : List ℕ) × Takes to to' text × Takes sink sink' text)
