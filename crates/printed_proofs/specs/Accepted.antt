-- What a check of printed refutations comes to.
use Rattle.std.specs.Prelude.{◌≡◌, ℕ, ◌≤◌, List, length, None}
use Rattle.clausify.specs.Input.{axioms_in_table, first_over}
use Rattle.fol_core.specs.Literals.{equality}
use Rattle.fol_problem.specs.Stated.{stated_of}
use Rattle.fol_core.specs.SymbolTable.{Symbol}
use Rattle.ladr_check.specs.Offered.{offered_by}
use Rattle.ladr_check.specs.Outcomes.{ComesOut}
use Rattle.ladr_check.specs.Shown.{OffersAlone}
use Rattle.ladr_check.specs.declared.ends.CheckEnd.TheVariants.{Accepted}
use Rattle.ladr_problem.specs.declared.read.FileRead.{FileRead}
use Rattle.printed_proofs.specs.Refutations.{ReadsRefutations}
use Rattle.printed_proofs.specs.Printed.{PrintedProof}

-- no formula of the problem has too many clauses, and there are no more Skolem symbols than numbers
pub record HasFewClauses (f : FileRead) (table : List Symbol) : Type 0 where
  pub clauses : first_over 1 (stated_of f.problem).formulas ≡ None
  pub skolems : length (axioms_in_table table (stated_of f.problem)) ≤ equality

-- The bytes are read as the printed proofs, and as nothing else, nor are they refused; and the
-- check of what is read so comes out as all of them accepted.
pub record AreAccepted (bytes : List ℕ) (f : FileRead) (table : List Symbol)
    (ps : List PrintedProof) : Type 0 where
  pub reading : ReadsRefutations bytes f table ps
  pub alone : OffersAlone bytes (offered_by reading.read)
  pub outcome : ComesOut (offered_by reading.read) (Accepted (length ps)) (length ps)
