-- the names so far are entered
use Rattle.std.proofs.Common.{◌≡◌, drop}
use Rattle.fol_core.specs.SymbolTable.{KeepsNumbers}
use Rattle.ladr_distinct.specs.Symbols.{symbols_of_names}
use Rattle.ladr_formulas.specs.Counting.{all_entered}
use Rattle.ladr_distinct.proofs.counting.names_bring_too_many.Given as goal

abbrev pub invariant-loop-name : goal.invariant-loop-name
invariant-loop-name l = record {
  entered : all_entered l.symbols (symbols_of_names l.style (drop l.name-index l.names)) ≡ all_entered l.fn.symbols (symbols_of_names l.style l.names);
  kept : KeepsNumbers l.fn.symbols l.symbols;
}
