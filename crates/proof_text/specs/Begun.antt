-- What a text says of which no proof is read.
use Rattle.std.specs.Prelude.{◌≡◌}
use Rattle.ladr_problem.specs.declared.read.FileRead.{FileRead}
use Rattle.proof_lines.specs.ContentTokens.{tables_of}
use Rattle.proof_text.specs.Refused.{reader_of}
use Rattle.proof_text.specs.declared.text.ProofRead.{ProofRead}

-- the code has the problem, the operators of its lines, and a copy of its symbols
pub record IsWithoutProofs (f : FileRead) (r : ProofRead) : Type 0 where
  pub problem : r.problem ≡ f.problem
  pub operators : tables_of r.operators ≡ (reader_of f).tables
  pub symbols : r.symbols ≡ f.problem.symbols
