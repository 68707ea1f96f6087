-- What is noted of the clauses that wait.
use Rattle.std.specs.Prelude.{◌≡◌, map}
use Rattle.given_clause.specs.declared.waiting.Note.{Note}
use Rattle.given_clause.specs.declared.waiting.Waiting.{Waiting}
use Rattle.prover_steps.specs.Clashing.{Held}
use Rattle.prover_steps.specs.Picking.{has_positive}
use Rattle.prover_steps.specs.Searching.{Setting}

-- what a setting says of a clause
abbrev pub note_of : Setting → Held → Note
note_of st h = record {
  number = h.number;
  weight = st.weight h.clause;
  hinted = st.is_hinted h.clause;
  positive = has_positive h.clause;
}

-- the notes are those of the clauses, in their order
abbrev pub AreNoted : Setting → Waiting → Type 0
AreNoted st w = w.notes.items ≡ map (note_of st) w.held

-- if they were so, they still are
abbrev pub StayNoted : Setting → Waiting → Waiting → Type 0
StayNoted st w v = AreNoted st w → AreNoted st v
