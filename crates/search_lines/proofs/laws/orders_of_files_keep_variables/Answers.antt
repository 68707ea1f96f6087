use Rattle.term_order.specs.Listed.{symbol_rows}
use Rattle.term_order.specs.Precedences.{stands_above, weight_at}
use Rattle.search_lines.proofs.Weights.{symbol_heavy, chosen_keeps}
use Rattle.search_lines.proofs.laws.orders_of_files_keep_variables.Goals as goal

pub returns : goal.returns
returns c = λ o listed weights table heavy.
    chosen_keeps c.orders_keep_variables.ensures o (stands_above (symbol_rows listed weights table)) (weight_at (symbol_rows listed weights table)) (c.symbols_are_ordered.ensures (symbol_rows listed weights table)) (symbol_heavy listed weights table heavy)
