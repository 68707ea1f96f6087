-- What each clause of a file's formulas is, so that it can be a line of a printed proof.
use Rattle.std.specs.Prelude.{◌≡◌, ℕ, ◌≤◌, ◌<◌, ◌^◌, IsTrue, List, length}
use Rattle.std.specs.List.{AllByRecursion}
use Rattle.clausify.specs.Input.{ClauseRow}
use Rattle.fol_core.specs.Literals.{ClauseTree}
use Rattle.fol_core.specs.Renumbered.{clause_variables, renumbered}
use Rattle.ladr_print.specs.HasText.{IsClauseOver}
use Rattle.ladr_problem.specs.declared.read.FileRead.{FileRead}
use Rattle.printed_proofs.specs.Files.{full_table, may_be_used}
use Rattle.proof_print.specs.Rereadable.{clause_uses, IsClauseOfKinds}
use Rattle.prover_steps.specs.Searching.{clause_depth}

-- It is a clause over the file's symbols with the Skolem symbols, each with its arguments and of
-- its kind; it has such symbols alone as clauses of the problem may have; it is numbered, and has
-- no more variables than the machine has numbers; and no atom has more than 1,000 levels.
pub record IsFitRow (f : FileRead) (c : ClauseTree) : Type 0 where
  pub over : IsClauseOver (full_table f) c
  pub kinds : IsClauseOfKinds (full_table f) c
  pub uses : (s : ℕ) → IsTrue (clause_uses c s) → s < length (full_table f)
      → IsTrue (may_be_used f s)
  pub numbered : renumbered c ≡ c
  pub few : length (clause_variables c) ≤ 2 ^ 64
  pub depth : clause_depth c ≤ 1000

abbrev pub AreFitRows : FileRead → List ClauseRow → Type 0
AreFitRows f rows = AllByRecursion (λ r. IsFitRow f r.1) rows
