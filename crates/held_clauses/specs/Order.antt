-- The order of terms that is chosen.
use Rattle.std.specs.Prelude.{ℕ, Bool}
use Rattle.fol_core.specs.Tree.{Tree}
use Rattle.ladr_options.specs.declared.options.Order.{Order}
use Rattle.ladr_options.specs.declared.options.Order.TheVariants.{Lpo, Kbo}
use Rattle.term_order.specs.Kbo.{kbo_greater}
use Rattle.term_order.specs.Lpo.{lpo_greater}
use Rattle.term_order.specs.Precedences.{stands_above, weight_at}
use Rattle.term_order.specs.declared.precedence.Precedence.{Precedence}

abbrev pub greater_by : Order → (ℕ → ℕ → Bool) → (ℕ → ℕ) → Tree → Tree → Bool
greater_by Lpo above weight = lpo_greater above
greater_by Kbo above weight = kbo_greater above weight

-- by the rows of the symbols
abbrev pub greater_of : Precedence → Tree → Tree → Bool
greater_of p = greater_by p.order (stands_above p.rows.items) (weight_at p.rows.items)
