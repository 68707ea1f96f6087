-- the symbols of the arguments so far are entered
use Rattle.std.proofs.Common.{◌≡◌, drop}
use Rattle.fol_core.specs.RawTree.{raws_of}
use Rattle.fol_core.specs.RawView.{raw_list}
use Rattle.fol_core.specs.SymbolTable.{KeepsNumbers}
use Rattle.ladr_formulas.specs.Counting.{names_bound, all_entered}
use Rattle.ladr_formulas.specs.Occurring.{symbols_of_terms}
use Rattle.ladr_formulas.proofs.counting.+count_term.Given as goal

abbrev pub invariant-loop-arg : goal.invariant-loop-arg
invariant-loop-arg l =
    (all_entered l.symbols (symbols_of_terms l.style (names_bound l.fn.scope) (raws_of (raw_list (drop l.arg-index l.arg-items))))
    ≡ all_entered l.initial.symbols (symbols_of_terms l.style (names_bound l.fn.scope) (raws_of (raw_list l.arg-items))))
    × (l.scope ≡ l.fn.scope) × KeepsNumbers l.fn.symbols l.symbols
