-- What stands in the output of a search for proofs, to those who asked for it.
use Rattle.std.specs.Prelude.{◌≡◌, ℕ, Option, List, ◌++◌}
use Rattle.std.specs.declared.result.Result.{Result}
use Rattle.clause_store.specs.Lines.{PlainLine, plain_trees}
use Rattle.derivation.specs.Lines.{IsRefutation}
use Rattle.fol_core.specs.Meaning.{Meaning, IsLawful}
use Rattle.fol_core.specs.SkolemAxioms.{PicksWitnesses, AreInOrder}
use Rattle.fol_problem.specs.Stated.{IsCountermodel, AreNewTo}
use Rattle.ladr_intake.specs.Input.{AreTaken}
use Rattle.ladr_intake.specs.declared.stops.Stop.{Stop}
use Rattle.ladr_io.specs.Streams.{Inflow, Outflow, AreLastHeld}
use Rattle.ladr_io.specs.Times.{Times}
use Rattle.ladr_output.specs.Standing.{AreWholeLines, Stands, HaveOneFront}
use Rattle.ladr_prover9.specs.Finding.{Refutes}
use Rattle.ladr_prover9.specs.Lines.{proved_line}
use Rattle.ladr_prover9.specs.ProofTexts.{proof_text}
use Rattle.ladr_prover9.specs.Quests.{Quest, asks}
use Rattle.ladr_prover9.specs.declared.ends.ProverEnd.{ProverEnd}
use Rattle.proof_print.specs.LineTexts.{frame_text, proof_banner}
use Rattle.proof_print.specs.declared.texts.Heads.{Heads}
use Rattle.prover_setup.specs.SearchInputs.{SearchInput, rows_in, witnesses_in}

-- lines are a refutation of the problem, with the clauses of its formulas
abbrev pub AreRefutingLines : SearchInput → List PlainLine → Type 0
AreRefutingLines x ls = IsRefutation x.stated.formulas (rows_in x) (plain_trees ls)

-- No interpretation, finite or infinite, whose Skolem symbols pick witnesses makes each assumption
-- true and each goal false; no formula has one of these symbols, and the body of each has those
-- before it alone, so that they can pick witnesses in whatever interpretation of the rest.
pub record LeavesNone (x : SearchInput) : Type 0 where
  pub none :
      (m : Meaning) → IsLawful m → PicksWitnesses m (witnesses_in x)
      → ¬ IsCountermodel m x.stated.formulas
  pub new : AreNewTo x.stated.formulas (witnesses_in x)
  pub in_order : AreInOrder (witnesses_in x)

-- The bytes are the text of such lines, with others behind it, or a front of it.
pub record ShowsRefutation (q : Quest) (text : List ℕ) : Type 0 where
  pub head : Heads
  pub lines : List PlainLine
  pub refute : AreRefutingLines q.search lines
  pub shown : HaveOneFront text (proof_text q head lines)

-- the text of some refutation stands here
pub record HasRefutation (q : Quest) (text : List ℕ) : Type 0 where
  pub head : Heads
  pub lines : List PlainLine
  pub refute : AreRefutingLines q.search lines
  pub stands : Stands (proof_text q head lines) text

-- Behind the input in its frame: where a proof's banner stands, there stands the text of a
-- refutation, which is cut off only where the output is, and the problem has no countermodel.
-- Where the line stands that it is proved, such a text stands before it.
pub record ShowsRefutations (q : Quest) (written : List ℕ) : Type 0 where
  pub proofs : (before after : List ℕ) → AreWholeLines before
      → written ≡ frame_text q.input ++ (before ++ (proof_banner ++ after))
      → ShowsRefutation q (proof_banner ++ after) × LeavesNone q.search
  pub proved : (before after : List ℕ) → AreWholeLines before
      → written ≡ frame_text q.input ++ (before ++ (proved_line ++ after))
      → HasRefutation q before × LeavesNone q.search

-- So it is of what the bytes ask for that the source gave, whatever became of the run.
pub record ShowsAsked (from from' : Inflow) (to to' : Outflow) : Type 0 where
  pub bytes : List ℕ
  pub taken : AreTaken from from' bytes
  pub written : List ℕ
  pub wrote : AreLastHeld to.held to'.held written
  pub shows : (q : Quest) → asks bytes q → ShowsRefutations q written

abbrev pub ProofsShow : Type 0
ProofsShow =
    (word : Option ℕ) (from from' : Inflow) (to to' : Outflow) (times : Times)
    (r : Result ProverEnd Stop)
    → Refutes word from from' to to' times r → ShowsAsked from from' to to'
