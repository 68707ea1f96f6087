-- What a search gives, by what it found.
use Rattle.std.proofs.Common.{◌≡◌, ℕ, zero, suc, Bool, false, List, [], Option, refl, sym, subst}
use Rattle.ladr_io.specs.Times.{Times}
use Rattle.mace_cells.proofs.Reading.{reads_none}
use Rattle.mace_cells.proofs.Steps.{found, ended}
use Rattle.mace_cells.specs.Leaves.{choices_of}
use Rattle.mace_cells.specs.Searches.{HasFound, IsTimed}
use Rattle.mace_cells.specs.Trails.{Partial}
use Rattle.mace_cells.specs.World.{World}
use Rattle.mace_cells.specs.declared.frame.Frame.{Frame}
use Rattle.mace_search.specs.declared.answer.SearchAnswer.{SearchAnswer}
use Rattle.mace_search.specs.declared.answer.SearchAnswer.TheVariants.{Model, Exhausted, MaxSeconds}
use Rattle.cell_driver.specs.Comings.{ComesInTime}
use Rattle.cell_search.specs.Courses.{Course, AnswersByCells, live_in, late_in, follows_after}
use Rattle.cell_search.specs.Finites.{finite_of, meaning_by_cells, AreTablesFor}
use Rattle.cell_search.specs.declared.search.State.{State}

abbrev course : World → Bool → List Frame → Partial → Option ℕ → Option ℕ → Course
course w live fs t stop late = record { world = w; live = live; choices = choices_of w fs; table = t; tables = finite_of w t.entries; stop = stop; late = late }

module _ (w : World) (p p' : Partial) (fs fs' : List Frame) (live : Bool) (stop late : Option ℕ) (t : Times) where
  at_once : (answer : SearchAnswer) (n : ℕ) → HasFound w live (choices_of w fs) (meaning_by_cells w p'.entries) answer (choices_of w fs') → (answer ≡ Model → AreTablesFor w (finite_of w p'.entries)) → IsTimed stop answer t
      → AnswersByCells (course w live fs p stop late) (course w (live_in (follows_after answer n)) fs' p' stop (late_in (follows_after answer n))) answer t
  at_once Model zero h whole timed = (found w live (choices_of w fs) (choices_of w fs') (meaning_by_cells w p'.entries) h.0 h.1, whole refl, refl, refl, timed)
  at_once Model (suc n) h whole timed = (found w live (choices_of w fs) (choices_of w fs') (meaning_by_cells w p'.entries) h.0 h.1, whole refl, refl, refl, timed)
  at_once Exhausted n h whole timed = (ended w live (choices_of w fs) h.0, refl, h.1, refl, timed)
  at_once (MaxSeconds last) n h whole timed = (h, refl, refl, timed)

pub gives_by : (w w' : World) (p p' : Partial) (fs fs' : List Frame) (live old : Bool) (stop late : Option ℕ) (t : Times) (answer : SearchAnswer) (n : ℕ) (state : State) → w' ≡ w → old ≡ live → state ≡ follows_after answer n
    → HasFound w live (choices_of w fs) (meaning_by_cells w' p'.entries) answer (choices_of w fs') → (answer ≡ Model → AreTablesFor w' (finite_of w' p'.entries)) → IsTimed stop answer t
    → AnswersByCells (course w old fs p stop late) (course w' (live_in state) fs' p' stop (late_in state)) answer t
gives_by w w' p p' fs fs' live old stop late t answer n state worlds lives after h whole timed =
    subst (λ (s : State). AnswersByCells (course w old fs p stop late) (course w' (live_in s) fs' p' stop (late_in s)) answer t) (sym after)
    (subst (λ (b : Bool). AnswersByCells (course w b fs p stop late) (course w' (live_in (follows_after answer n)) fs' p' stop (late_in (follows_after answer n))) answer t) (sym lives)
    (subst (λ (v : World). AnswersByCells (course w live fs p stop late) (course v (live_in (follows_after answer n)) fs' p' stop (late_in (follows_after answer n))) answer t) (sym worlds)
    (at_once w p p' fs fs' live stop late t answer n (subst (λ (v : World). HasFound w live (choices_of w fs) (meaning_by_cells v p'.entries) answer (choices_of w fs')) worlds h)
    (subst (λ (v : World). answer ≡ Model → AreTablesFor v (finite_of v p'.entries)) worlds whole) timed)))

-- what came is what the code says
pub comes_by : (w w' : World) (fs fs' : List Frame) (live old : Bool) (stop : Option ℕ) (t t' : Times) (answer : SearchAnswer) → w' ≡ w → old ≡ live
    → ComesInTime w stop live (choices_of w fs) answer (choices_of w fs') t t' → ComesInTime w stop old (choices_of w fs) answer (choices_of w' fs') t t'
comes_by w w' fs fs' live old stop t t' answer worlds lives h =
    subst (λ (b : Bool). ComesInTime w stop b (choices_of w fs) answer (choices_of w' fs') t t') (sym lives)
    (subst (λ (v : World). ComesInTime w stop live (choices_of w fs) answer (choices_of v fs') t t') (sym worlds) h)

pub comes_no_more : (w : World) (stop : Option ℕ) (t : Times) → ComesInTime w stop false [] Exhausted [] t t
comes_no_more w stop t = (0, (refl, reads_none stop t))
