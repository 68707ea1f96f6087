-- What a check makes of the output of a search for proofs.
use Rattle.std.specs.Prelude.{◌≡◌, ◌⊎◌, ℕ, List, [], ◌∷◌, ◌++◌, length, map, Option}
use Rattle.std.specs.declared.result.Result.TheVariants.{Ok, Err}
use Rattle.clause_store.specs.Ancestors.{AreAncestors}
use Rattle.clause_store.specs.Lines.{PlainLine, plain_line}
use Rattle.derivation.specs.declared.line.Line.{Line}
use Rattle.ladr_check.specs.Offered.{offered_by}
use Rattle.ladr_check.specs.Outcomes.{ComesOut}
use Rattle.ladr_check.specs.Shown.{OffersAlone}
use Rattle.ladr_check.specs.declared.ends.CheckEnd.TheVariants.{Accepted}
use Rattle.ladr_intake.specs.declared.stops.Stop.TheVariants.{Memory}
use Rattle.ladr_io.specs.Streams.{Inflow, Outflow, AreLastHeld, Takes}
use Rattle.ladr_io.specs.Times.{Times}
use Rattle.ladr_output.specs.Standing.{AreWholeLines}
use Rattle.ladr_problem.specs.declared.read.FileRead.{FileRead}
use Rattle.ladr_prover9.specs.Finding.{Refutes}
use Rattle.ladr_prover9.specs.Lines.{proved_line, closing_lines}
use Rattle.ladr_prover9.specs.ProofTexts.{IsStateText}
use Rattle.ladr_prover9.specs.Quests.{Quest, quest_in, asks, quest_lines, IsHad}
use Rattle.ladr_prover9.specs.Story.{ProofsCome}
use Rattle.ladr_prover9.specs.declared.ends.ProverEnd.{ProverEnd}
use Rattle.printed_proofs.specs.Files.{full_table}
use Rattle.printed_proofs.specs.Refutations.{lines_printed, ReadsRefutations}
use Rattle.printed_proofs.specs.Printed.{PrintedProof}
use Rattle.proof_print.specs.LineTexts.{proof_banner, frame_text}
use Rattle.prover_setup.specs.SearchInputs.{IsReachedIn}
use Rattle.prover_steps.specs.Searching.{FoundProof, SearchState}

-- the search came to its end in this state, and the bytes are the whole of its output
pub record HasPrinted (q : Quest) (t : SearchState) (bytes : List ℕ) : Type 0 where
  pub seconds : Option ℕ
  pub times : Times
  pub end : ProverEnd
  pub front : List ℕ
  pub comes : ProofsCome q seconds times end t front
  pub text_is : bytes ≡ front ++ closing_lines t end

-- for each of the found proofs, in their order, the lines that its last line rests on
abbrev pub AreLinesFound : List PlainLine → List FoundProof → List (List Line) → Type 0
AreLinesFound all [] [] = Unit {0}
AreLinesFound all (p ∷ ps) (ls ∷ rest) =
    AreAncestors all p.line (map plain_line ls) × AreLinesFound all ps rest
AreLinesFound all ps lss = ⊥

-- The bytes are what the search that the input asks for has printed, which found n proofs, at least
-- one: they are read as the input's problem and as the lines of these proofs, but for the numbers
-- of symbols that aren't the problem's, and as nothing else, nor are they refused; and a check
-- accepts each proof.
pub record AreAcceptedAs (IsPrinted : Quest → SearchState → List ℕ → Type 0)
    (input bytes : List ℕ) (n : ℕ) : Type 0 where
  pub file : FileRead
  pub asked : asks input (quest_in input file)
  pub asked_alone : (q : Quest) → asks input q → quest_in input file ≡ q
  pub state : SearchState
  pub printed : IsPrinted (quest_in input file) state bytes
  pub many : length state.proofs ≡ n
  pub proofs : List PrintedProof
  pub found :
      AreLinesFound (quest_lines (quest_in input file) state) state.proofs (lines_printed proofs)
  pub reading : ReadsRefutations bytes file (full_table file) proofs
  pub alone : OffersAlone bytes (offered_by reading.read)
  pub outcome : ComesOut (offered_by reading.read) (Accepted n) n

abbrev pub AreAllAccepted : List ℕ → List ℕ → ℕ → Type 0
AreAllAccepted = AreAcceptedAs HasPrinted

-- behind the input in its frame the line stands that the problem is proved
abbrev pub TellsProved : List ℕ → List ℕ → Type 0
TellsProved input output =
    (before : List ℕ) × (after : List ℕ) × AreWholeLines before
    × (output ≡ frame_text input ++ (before ++ (proved_line ++ after)))

-- where this line stands in what was written for an input, all of it is accepted
pub record WritesAccepted (input : List ℕ) (to to' : Outflow) : Type 0 where
  pub written : List ℕ
  pub wrote : AreLastHeld to.held to'.held written
  pub accepted : TellsProved input written → (n : ℕ) × AreAllAccepted input written n

-- So it is of each run that comes to an end of its own.
abbrev pub OutputsAreAccepted : Type 0
OutputsAreAccepted =
    (word : Option ℕ) (from from' : Inflow) (to to' : Outflow) (times : Times) (end : ProverEnd)
    (run : Refutes word from from' to to' times (Ok end)) → IsHad run.bytes
    → WritesAccepted run.bytes to to'

-- Before the end: the search has reached this state, and the bytes are its text.
pub record HasPrintedSoFar (q : Quest) (t : SearchState) (bytes : List ℕ) : Type 0 where
  pub reached : IsReachedIn q.search t
  pub prints : IsStateText q t bytes

-- behind the input in its frame the banner of a proof stands
abbrev pub TellsProof : List ℕ → List ℕ → Type 0
TellsProof input output =
    (before : List ℕ) × (after : List ℕ) × AreWholeLines before
    × (output ≡ frame_text input ++ (before ++ (proof_banner ++ after)))

-- where it stands in what was written for an input, all of it is accepted
pub record WritesAcceptedSoFar (input : List ℕ) (to to' : Outflow) : Type 0 where
  pub written : List ℕ
  pub wrote : AreLastHeld to.held to'.held written
  pub accepted :
      TellsProof input written → (n : ℕ) × AreAcceptedAs HasPrintedSoFar input written n

-- So it is of each run in which memory was lacking.
abbrev pub ProofsSoFarAreAccepted : Type 0
ProofsSoFarAreAccepted =
    (word : Option ℕ) (from from' : Inflow) (to to' : Outflow) (times : Times)
    (run : Refutes word from from' to to' times (Err Memory))
    → IsHad run.bytes ⊎ Takes to to' [] → WritesAcceptedSoFar run.bytes to to'
