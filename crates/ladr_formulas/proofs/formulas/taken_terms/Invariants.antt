-- the terms so far, with those that are read from the arguments that wait, are those of all arguments
use Rattle.std.proofs.Common.{◌≡◌, length}
use Rattle.fol_core.specs.RawTree.{raws_of}
use Rattle.fol_core.specs.SymbolTable.{KeepsNumbers}
use Rattle.ladr_formulas.specs.Formulas.{terms_of}
use Rattle.ladr_formulas.proofs.TermLemmas.{read_onto}
use Rattle.ladr_formulas.proofs.formulas.taken_terms.Given as goal

abbrev pub invariant-loop-arg : goal.invariant-loop-arg
invariant-loop-arg l = record {
  read : read_onto l.terms (terms_of l.style l.fn.reader.scope l.reader.reading (raws_of l.waiting)) ≡ terms_of l.style l.fn.reader.scope l.initial.reader.reading (raws_of l.initial.waiting);
  scope : l.reader.scope ≡ l.fn.reader.scope;
  kept : KeepsNumbers l.fn.reader.reading.symbols l.reader.reading.symbols;
}

abbrev pub decreases-loop-arg : goal.decreases-loop-arg
decreases-loop-arg l = length l.waiting
