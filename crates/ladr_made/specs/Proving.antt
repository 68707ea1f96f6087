-- What becomes of a search for proofs of what bytes ask for, and of a check of its output.
use Rattle.std.specs.Prelude.{ℕ, ◌≡◌, ◌<◌, ◌⊎◌, List, Option, None, Some}
use Rattle.accepted_output.specs.Accepted.{AreAllAccepted}
use Rattle.ladr_check.specs.Checking.{IsJudged}
use Rattle.ladr_check.specs.declared.checked.Checked.{Checked}
use Rattle.ladr_check.specs.declared.ends.CheckEnd.TheVariants.{Accepted}
use Rattle.ladr_formulas.specs.declared.styles.Mode.TheVariants.{Prover}
use Rattle.ladr_intake.specs.Refusals.{refuses}
use Rattle.ladr_intake.specs.declared.stops.Refused.{Refused}
use Rattle.ladr_io.specs.Times.{Times}
use Rattle.ladr_made.specs.declared.parts.Proved.{Proved}
use Rattle.ladr_prover9.specs.Counting.{ProvesCounted}
use Rattle.ladr_prover9.specs.Quests.{Quest, asks, quest_seconds}
use Rattle.ladr_prover9.specs.Statuses.{prover_status}
use Rattle.ladr_prover9.specs.declared.ends.ProverOver.{ProverOver}

-- the search for proofs of what the bytes ask for comes to its end with these numbers, and with
-- this text as its whole output, if a clock is read so where the bytes set a time
pub record Finds (bytes : List ℕ) (over : ProverOver) (text : List ℕ) : Type 0 where
  pub quest : Quest
  pub asked : asks bytes quest
  pub times : Times
  pub ends : ProvesCounted quest (quest_seconds None quest) times over text

-- what is told of it, with what a check answered of its output
abbrev pub proved_by : ProverOver → Option Checked → Proved
proved_by over checked = record {
  status = prover_status over.end;
  given = over.given;
  kept = over.kept;
  length = over.length;
  level = over.level;
  checked = checked;
}

-- what is told of bytes that are refused
abbrev pub unproved : Proved
unproved = record { status = 1; given = 0; kept = 0; length = 0; level = 0; checked = None }

-- a check was asked exactly where there are proofs, and this is what it answers of the output
abbrev pub IsCheckOf : ℕ → List ℕ → Option Checked → Type 0
IsCheckOf proofs text None = proofs ≡ 0
IsCheckOf proofs text (Some checked) = (0 < proofs) × IsJudged text checked.end

-- a check accepted so many proofs
abbrev pub HasAccepted : Option Checked → ℕ → Type 0
HasAccepted None n = ⊥
HasAccepted (Some checked) n = checked.end ≡ Accepted n

-- an output that the law says is accepted; what a check answers of it
abbrev pub IsAcceptable : List ℕ → Type 0
IsAcceptable text = (bytes : List ℕ) × ((n : ℕ) × AreAllAccepted bytes text n)

abbrev pub IsAcceptedAs : List ℕ → Option Checked → Type 0
IsAcceptedAs text None = ⊥
IsAcceptedAs text (Some checked) = IsJudged text checked.end

-- what is told of a search with this output
abbrev pub IsToldOf : ProverOver → List ℕ → Proved → Type 0
IsToldOf over text p = (p ≡ proved_by over p.checked) × IsCheckOf over.proofs text p.checked

-- This is told of a search, with the answer of a check of its output, where it found proofs; and
-- that is that each of them is accepted.
pub record IsProvedBy (bytes : List ℕ) (p : Proved) : Type 0 where
  pub over : ProverOver
  pub text : List ℕ
  pub finds : Finds bytes over text
  pub told : p ≡ proved_by over p.checked
  pub checked : IsCheckOf over.proofs text p.checked
  pub accepted : 0 < over.proofs → (n : ℕ) × AreAllAccepted bytes text n
      × HasAccepted p.checked n

-- what is told of bytes: that they are refused, or what became of the search
abbrev pub IsProved : List ℕ → Proved → Type 0
IsProved bytes p =
    ((why : Refused) × refuses Prover bytes why × (p ≡ unproved)) ⊎ IsProvedBy bytes p
