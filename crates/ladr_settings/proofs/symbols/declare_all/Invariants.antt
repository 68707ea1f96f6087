-- the symbols to come are still to be declared, and those before could be
use Rattle.std.proofs.Common.{◌≡◌, drop, nat_lt, ◌&&◌, false}
use Rattle.std.specs.List.{list_any}
use Rattle.ladr_lex.specs.Operators.{is_unfit_operator, is_unfit_symbol}
use Rattle.ladr_settings.specs.Settings.{all_declared}
use Rattle.ladr_settings.proofs.symbols.declare_all.Given as goal

abbrev pub invariant-loop-symbol : goal.invariant-loop-symbol
invariant-loop-symbol l =
    (all_declared l.precedence l.type_name (drop l.symbol-index l.symbols) l.operators ≡ all_declared l.precedence l.type_name l.symbols l.fn.operators)
    × ((nat_lt 0 l.symbol-index && is_unfit_operator l.precedence l.type_name) ≡ false)
    × (list_any is_unfit_symbol (drop l.symbol-index l.symbols) ≡ list_any is_unfit_symbol l.symbols)
