-- the terms so far, with those that are read from the other arguments, are those of all arguments
use Rattle.std.proofs.Common.{◌≡◌, drop}
use Rattle.fol_core.specs.RawTree.{raws_of}
use Rattle.fol_core.specs.RawView.{raw_list}
use Rattle.fol_core.specs.SymbolTable.{KeepsNumbers}
use Rattle.ladr_formulas.specs.Formulas.{terms_of}
use Rattle.ladr_formulas.proofs.TermLemmas.{read_onto}
use Rattle.ladr_formulas.proofs.formulas.terms.Given as goal

abbrev pub invariant-loop-arg : goal.invariant-loop-arg
invariant-loop-arg l =
    (read_onto l.terms (terms_of l.style l.fn.reader.scope l.reader.reading (raws_of (raw_list (drop l.arg-index l.arg-items)))) ≡ terms_of l.style l.fn.reader.scope l.initial.reader.reading (raws_of (raw_list l.arg-items)))
    × (l.reader.scope ≡ l.fn.reader.scope) × KeepsNumbers l.fn.reader.reading.symbols l.reader.reading.symbols
