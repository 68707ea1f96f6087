-- What a search answers.
use Rattle.std.specs.Prelude.{◌≡◌, ℕ, Bool, true, false, List, [], Option}
use Rattle.fol_core.specs.Meaning.{Meaning}
use Rattle.ladr_io.specs.Times.{Times}
use Rattle.mace_cells.specs.Choices.{Choice, decisions}
use Rattle.mace_cells.specs.Leaves.{LeavesOpen}
use Rattle.mace_cells.specs.World.{World, IsSettled}
use Rattle.ladr_io.specs.Watch.{IsEarly, IsLate}
use Rattle.mace_search.specs.declared.answer.SearchAnswer.{SearchAnswer}
use Rattle.mace_search.specs.declared.answer.SearchAnswer.TheVariants.{Model, Exhausted, MaxSeconds}

-- From where it stood it came to decisions that settle all values, as this interpretation has them,
-- or to an end, or the time was over while it followed its decisions.
abbrev pub HasFound : World → Bool → List Choice → Meaning → SearchAnswer → List Choice → Type 0
HasFound w live cs m Model cs' = LeavesOpen w live cs true cs' × IsSettled w (decisions cs') m
HasFound w live cs m Exhausted cs' = LeavesOpen w live cs false [] × (cs' ≡ [])
HasFound w live cs m (MaxSeconds last) cs' = LeavesOpen w live cs true cs'

-- the time is over exactly where this is answered
abbrev pub IsTimed : Option ℕ → SearchAnswer → Times → Type 0
IsTimed stop Model t = IsEarly stop t
IsTimed stop Exhausted t = IsEarly stop t
IsTimed stop (MaxSeconds last) t = IsLate stop t last
