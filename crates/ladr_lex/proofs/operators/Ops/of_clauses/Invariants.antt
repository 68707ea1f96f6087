-- each name has what it has to have among the rows so far
use Rattle.std.proofs.Common.{◌≡◌, ℕ, List, take}
use Rattle.ladr_lex.specs.ClauseNames.{clause_operator}
use Rattle.ladr_lex.specs.Operators.{operator_of}
use Rattle.ladr_lex.proofs.operators.Ops.of_clauses.Given as goal

abbrev pub invariant-loop-place : goal.invariant-loop-place
invariant-loop-place l = (name : List ℕ) → operator_of l.ops name ≡ clause_operator l.prolog name (operator_of (take l.place l.self) name)
