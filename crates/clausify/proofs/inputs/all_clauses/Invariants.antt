-- What is found and what the rest gives is all.
use Rattle.std.proofs.Common.{◌≡◌, ◌+◌, ◌++◌, drop, length, map}
use Rattle.fol_core.specs.EntryView.{skolem_axiom_of}
use Rattle.fol_core.specs.Tree.{trees_of}
use Rattle.clausify.specs.AskedForms.{terms_in}
use Rattle.clausify.specs.Fronts.{normal_of}
use Rattle.clausify.specs.Input.{rows_in, axioms_in}
use Rattle.clausify.proofs.inputs.all_clauses.Given as goal

abbrev pub invariant-loop-place : goal.invariant-loop-place
invariant-loop-place l = record {
  rows : l.rows.items ++ rows_in l.symbols (l.place + 1) (length l.entries.items) (map normal_of (drop l.place l.normals)) ≡ rows_in l.symbols 1 0 (map normal_of l.normals);
  answers : map trees_of l.answers.items ++ terms_in l.symbols (length l.entries.items) (drop l.place l.normals) ≡ terms_in l.symbols 0 l.normals;
  witnesses : map skolem_axiom_of l.entries.items ++ axioms_in l.symbols (length l.entries.items) (map normal_of (drop l.place l.normals)) ≡ axioms_in l.symbols 0 (map normal_of l.normals);
}
