-- Terms and symbols compared by hand.
use Rattle.std.specs.Prelude.{ℕ, ◌≡◌, Bool, true, false, nat_lt, List, [], ◌∷◌, codes}
use Rattle.fol_core.specs.SymbolTable.{Symbol, symbol}
use Rattle.fol_core.specs.Tree.{Tree, var, app, none, more}
use Rattle.fol_core.specs.declared.symbols.Kind.TheVariants.{Function}
use Rattle.term_order.specs.Kbo.{kbo_greater}
use Rattle.term_order.specs.Listed.{symbol_rows}
use Rattle.term_order.specs.Lpo.{lpo_greater}
use Rattle.term_order.specs.Precedences.{stands_above, weight_at}
use Rattle.term_order.specs.declared.precedence.SymbolRow.{SymbolRow}

-- a symbol with a greater number stands above
abbrev later : ℕ → ℕ → Bool
later f g = nat_lt g f

abbrev earlier : ℕ → ℕ → Bool
earlier f g = nat_lt f g

-- a constant e, an inverse above it, and a product above both
abbrev e : Tree
e = app 0 none

abbrev inverse : Tree → Tree
inverse t = app 1 (more t none)

abbrev product : Tree → Tree → Tree
product s t = app 2 (more s (more t none))

-- The equations of groups from left to right. The inverse of a product and the product of inverses
-- aren't comparable where products stand above inverses, and else the first is greater. Sides that
-- differ by an exchange of variables are not comparable.
abbrev pub WorkedPathOrder : Type 0
WorkedPathOrder =
    (lpo_greater later (product e (var 0)) (var 0) ≡ true)
    × (lpo_greater later (product (inverse (var 0)) (var 0)) e ≡ true)
    × (lpo_greater later (product (product (var 0) (var 1)) (var 2))
    (product (var 0) (product (var 1) (var 2))) ≡ true)
    × (lpo_greater later (inverse (product (var 0) (var 1)))
    (product (inverse (var 1)) (inverse (var 0))) ≡ false)
    × (lpo_greater later (product (inverse (var 1)) (inverse (var 0)))
    (inverse (product (var 0) (var 1))) ≡ false)
    × (lpo_greater earlier (inverse (product (var 0) (var 1)))
    (product (inverse (var 1)) (inverse (var 0))) ≡ true)
    × (lpo_greater later (product (var 0) (var 1)) (product (var 1) (var 0)) ≡ false)
    × (lpo_greater later (var 0) (var 1) ≡ false)

-- each symbol weighs 1
abbrev alike : ℕ → ℕ
alike f = 1

-- By weights, a product is above a product of fewer symbols where no variable stands in it more
-- often; of equal weights the first pair of arguments that differ decides, so that an equation of
-- three factors goes from left to right; and x*y isn't comparable with x*x.
abbrev pub WorkedWeightOrder : Type 0
WorkedWeightOrder =
    (kbo_greater later alike (product e (var 0)) (var 0) ≡ true)
    × (kbo_greater later alike (product (inverse (var 0)) (var 0)) e ≡ true)
    × (kbo_greater later alike (product (product (var 0) (var 1)) (var 2))
    (product (var 0) (product (var 1) (var 2))) ≡ true)
    × (kbo_greater later alike (product (var 0) (product (var 1) (var 2)))
    (product (product (var 0) (var 1)) (var 2)) ≡ false)
    × (kbo_greater later alike (product (var 0) (var 1)) (product (var 0) (var 0)) ≡ false)
    × (kbo_greater later alike (product (var 0) (var 0)) (product (var 0) (var 1)) ≡ false)

-- f(x), a, g(x,y), f(x,y), b and the Skolem constant c1, where g and f are listed and b weighs 3
abbrev table : List Symbol
table =
    symbol (codes "f") 1 Function ∷ symbol (codes "a") 0 Function ∷ symbol (codes "g") 2 Function
    ∷ symbol (codes "f") 2 Function ∷ symbol (codes "b") 0 Function
    ∷ symbol (codes "c1") 0 Function ∷ []

abbrev rows : List SymbolRow
rows = symbol_rows (codes "g" ∷ codes "f" ∷ []) ((codes "b", 3) ∷ []) table

-- the order from the lowest up: a, b, c1, g, f with one argument, f with two
abbrev pub WorkedPrecedence : Type 0
WorkedPrecedence =
    (stands_above rows 4 1 ≡ true) × (stands_above rows 5 4 ≡ true)
    × (stands_above rows 2 5 ≡ true) × (stands_above rows 0 2 ≡ true)
    × (stands_above rows 3 0 ≡ true) × (stands_above rows 0 3 ≡ false)
    × (weight_at rows 4 ≡ 3) × (weight_at rows 5 ≡ 1)
