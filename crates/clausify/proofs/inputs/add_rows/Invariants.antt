-- The first clauses are added.
use Rattle.std.proofs.Common.{◌≡◌, ◌++◌, map, take}
use Rattle.fol_core.specs.Renumbered.{renumbered}
use Rattle.fol_core.specs.Tree.{trees_of}
use Rattle.clausify.specs.AskedForms.{terms_behind}
use Rattle.clausify.proofs.inputs.add_rows.Given as goal

abbrev pub invariant-loop-clause : goal.invariant-loop-clause
invariant-loop-clause l = record {
  rows : l.rows.items ≡ l.fn.rows.items ++ map (λ c. (l.number, renumbered c)) (take l.clause-index l.clauses);
  answers : map trees_of l.answers.items ≡ map trees_of l.fn.answers.items ++ map (terms_behind l.asked) (take l.clause-index l.clauses);
}
