-- The Skolem symbols of a problem.
use Rattle.std.specs.Prelude.{List}
use Rattle.clausify.specs.Input.{with_skolems, axioms_in_table}
use Rattle.fol_problem.specs.Stated.{Stated}
use Rattle.fol_core.specs.SymbolTable.{Symbol}
use Rattle.fol_core.specs.SkolemAxioms.{SkolemAxiom}

-- the symbols of a problem, with the Skolem symbols of its clauses behind them
abbrev pub all_symbols : Stated → List Symbol
all_symbols p = with_skolems p.symbols p

-- what each Skolem symbol is to pick
abbrev pub all_axioms : Stated → List SkolemAxiom
all_axioms p = axioms_in_table p.symbols p
