-- A symbol weighs at least 1 where each name does.
use Rattle.std.proofs.Common.{ℕ, zero, suc, ◌≤◌, Bool, true, false, if◌then◌else◌, List, [], ◌∷◌, Some, unwrap_or, arith}
use Rattle.std.specs.Str.{bytes_eq}
use Rattle.fol_core.specs.KboRows.{weight_in}
use Rattle.fol_core.specs.SymbolTable.{Symbol}
use Rattle.held_clauses.specs.Order.{greater_by}
use Rattle.ladr_options.specs.declared.options.Order.{Order}
use Rattle.ladr_options.specs.declared.options.Order.TheVariants.{Lpo, Kbo}
use Rattle.search_lines.specs.Fitness.{AreHeavy}
use Rattle.prover_steps.specs.SearchLaws.{KeepsVariables, OrdersKeepVariables}
use Rattle.term_order.specs.Laws.{IsSymbolOrder}
use Rattle.term_order.specs.Listed.{symbol_rows}
use Rattle.term_order.specs.Precedences.{weight_at}

name_heavy : (name : List ℕ) (weights : List (List ℕ × ℕ)) → AreHeavy weights → 1 ≤ unwrap_or (weight_in name weights) 1
name_heavy name [] heavy = omega arith
name_heavy name (w ∷ weights) heavy = by (bytes_eq name w.0) (name_heavy name weights heavy.1)
  where
    by : (b : Bool) → 1 ≤ unwrap_or (weight_in name weights) 1 → 1 ≤ unwrap_or (if b then Some w.1 else weight_in name weights) 1
    by true rest = heavy.0
    by false rest = rest

pub symbol_heavy : (listed : List (List ℕ)) (weights : List (List ℕ × ℕ)) (table : List Symbol) → AreHeavy weights → (f : ℕ) → 1 ≤ weight_at (symbol_rows listed weights table) f
symbol_heavy listed weights [] heavy f = omega arith
symbol_heavy listed weights (s ∷ table) heavy zero = name_heavy s.name weights heavy
symbol_heavy listed weights (s ∷ table) heavy (suc f) = symbol_heavy listed weights table heavy f

-- the chosen order keeps variables
pub chosen_keeps : OrdersKeepVariables → (o : Order) (above : ℕ → ℕ → Bool) (weight : ℕ → ℕ) → IsSymbolOrder above → ((f : ℕ) → 1 ≤ weight f) → KeepsVariables (greater_by o above weight)
chosen_keeps keep Lpo above weight order heavy = keep.0 above order
chosen_keeps keep Kbo above weight order heavy = keep.1 above weight order heavy
