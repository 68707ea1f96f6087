-- the clause so far, with the literals that wait, is that of all literals
use Rattle.std.proofs.Common.{◌≡◌, [], Some, length}
use Rattle.fol_core.specs.SymbolTable.{KeepsNumbers}
use Rattle.ladr_formulas.specs.Literals.{formulas_in}
use Rattle.ladr_formulas.proofs.ClauseLemmas.{onto_clause}
use Rattle.ladr_formulas.proofs.clauses.all_literals.Given as goal

abbrev pub invariant-loop-literal : goal.invariant-loop-literal
invariant-loop-literal l = record {
  clause : onto_clause l.clause (formulas_in l.style l.fn.reader.scope l.reader.reading l.waiting) ≡ onto_clause (Some []) (formulas_in l.style l.fn.reader.scope l.fn.reader.reading l.initial.waiting);
  scope : l.reader.scope ≡ l.fn.reader.scope;
  kept : KeepsNumbers l.fn.reader.reading.symbols l.reader.reading.symbols;
}

abbrev pub decreases-loop-literal : goal.decreases-loop-literal
decreases-loop-literal l = length l.waiting
