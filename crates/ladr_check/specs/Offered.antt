-- What the bytes of a text of proofs offer.
use Rattle.std.specs.Prelude.{◌≡◌, ℕ, List, map}
use Rattle.answered_lines.specs.Lines.{AnsweredLine}
use Rattle.answered_lines.specs.View.{answered_lines_of}
use Rattle.derivation.specs.declared.line.Derivation.{Derivation}
use Rattle.fol_problem.specs.Asks.{asks_of}
use Rattle.fol_problem.specs.Stated.{Stated, stated_of}
use Rattle.fol_core.specs.SymbolTable.{Symbol}
use Rattle.ladr_intake.specs.declared.stops.Refused.{Refused}
use Rattle.ladr_intake.specs.declared.stops.Refused.TheVariants.{Unreadable, Misuse, TooLarge}
use Rattle.ladr_problem.specs.declared.refusal.ReadError.{ReadError}
use Rattle.ladr_problem.specs.declared.refusal.ReadError.TheVariants as errors
use Rattle.proof_text.specs.Refused.{IsProofRead, IsProofError}
use Rattle.proof_text.specs.declared.text.ProofRead.{ProofRead}

-- a problem, what its goals ask for, its symbols with those behind them that lines alone bring, and
-- the lines of each proof with their answers
pub record Offered : Type 0 where
  pub stated : Stated
  pub asks : List (List ℕ)
  pub symbols : List Symbol
  pub proofs : List (List AnsweredLine)

-- the proofs that the code has, by their lines
abbrev pub proofs_in : List Derivation → List (List AnsweredLine)
proofs_in ds = map (λ d. answered_lines_of d.lines.items) ds

-- what the code has of it
abbrev pub offered_by : ProofRead → Offered
offered_by r = record {
  stated = stated_of r.problem;
  asks = asks_of r.problem;
  symbols = r.symbols;
  proofs = proofs_in r.proofs.items;
}

-- the bytes offer this
abbrev pub offers : List ℕ → Offered → Type 0
offers bytes x = (r : ProofRead) × IsProofRead bytes r × (offered_by r ≡ x)

abbrev pub error_of : Refused → ReadError
error_of (Unreadable place) = errors.Unreadable place
error_of (Misuse place why) = errors.Misuse place why
error_of (TooLarge byte what) = errors.TooLarge byte what

-- the bytes are refused so: their frame, or else the problem in it, or else the lines behind it
abbrev pub refuses_proofs : List ℕ → Refused → Type 0
refuses_proofs bytes why = IsProofError bytes (error_of why)
