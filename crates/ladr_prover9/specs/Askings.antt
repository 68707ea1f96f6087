-- What the code has of a run.
use Rattle.std.specs.Prelude.{◌≡◌, List, [], ◌∷◌, ◌++◌, Option, Some, None}
use Rattle.clause_store.specs.Lines.{formula_lines}
use Rattle.ladr_prover9.specs.Quests.{Quest}
use Rattle.ladr_prover9.specs.declared.asking.Asking.{Asking}
use Rattle.ladr_prover9.specs.declared.ends.ProverEnd.{ProverEnd}
use Rattle.ladr_prover9.specs.declared.ends.ProverEnd.TheVariants as over
use Rattle.proof_lines.specs.ContentTokens.{tables_of}
use Rattle.prover.specs.declared.answer.ProverAnswer.{ProverAnswer}
use Rattle.prover.specs.declared.answer.ProverAnswer.TheVariants.{Proof, Proofs, SosEmpty, MaxGiven, MaxKept, MaxMegs, MaxSeconds}
use Rattle.prover_proofs.specs.ProofLaws.{SayWhatIsSaid}
use Rattle.prover_setup.specs.SearchInputs.{input_in, symbols_in, rows_in, greater_in}
use Rattle.prover_steps.specs.SearchLaws.{KeepsVariables}
use Rattle.prover_steps.specs.Searching.{FoundProof, SearchState}
use Rattle.prover_steps.specs.Starting.{AreRowsOf}

abbrev pub quest_of : Asking → Quest
quest_of a = record {
  input = a.input.now;
  search = input_in a.problem.now;
  formulas = formula_lines 1 a.problem.now.inputs.items;
  operators = tables_of a.operators;
}

-- the symbols and the clauses are the problem's
pub record IsAskedFor (a : Asking) : Type 0 where
  pub symbols : a.symbols ≡ symbols_in (quest_of a).search
  pub clauses : a.clauses.items ≡ rows_in (quest_of a).search

-- what makes each state of a search sound: its order keeps variables, its rows are rows of the
-- formulas, and the lines of these say what they say
pub record IsSoundQuest (q : Quest) : Type 0 where
  pub keeps : KeepsVariables (greater_in q.search)
  pub rows : AreRowsOf q.search.stated.formulas (rows_in q.search)
  pub say : SayWhatIsSaid q.formulas q.search.stated.formulas

-- a proof is found
abbrev pub HasProof : SearchState → Type 0
HasProof t = (ps : List FoundProof) × ((p : FoundProof) × (t.proofs ≡ ps ++ p ∷ []))

-- the answers that end a search
abbrev pub end_for : ProverAnswer → Option ProverEnd
end_for (Proof n) = None
end_for Proofs = Some over.MaxProofs
end_for SosEmpty = Some over.SosEmpty
end_for MaxGiven = Some over.MaxGiven
end_for MaxKept = Some over.MaxKept
end_for MaxMegs = Some over.MaxMegs
end_for (MaxSeconds first last) = Some (over.MaxSeconds first last)
