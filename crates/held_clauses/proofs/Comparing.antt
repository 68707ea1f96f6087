-- What the comparison of two terms says of the order.
use Rattle.std.proofs.Common.{◌≡◌, ℕ, Bool, true, false, ◌==◌, ◌&&◌, ◌||◌, if◌then◌else◌, refl, ap, ◌∙◌, arith}
use Rattle.std.proofs.lemmas.Bool.{le-ltb}
use Rattle.fol_core.specs.Tree.{Tree, Trees, none, more, var, elem, app}
use Rattle.term_order.specs.Kbo.{kbo_greater, kbo_first, none_oftener_all, weigh}
use Rattle.term_order.specs.Laws.{IsSymbolOrder}
use Rattle.unifiers.proofs.MatchesFound.{same_itself}

abbrev pub IsIrreflexive : (Tree → Tree → Bool) → Type 0
IsIrreflexive greater = (t : Tree) → greater t t ≡ false

first_same : (above : ℕ → ℕ → Bool) (weight : ℕ → ℕ) (ss : Trees) → kbo_first above weight ss ss ≡ false
first_same above weight none = refl
first_same above weight (more s ss) = ap (λ b. if b then kbo_first above weight ss ss else kbo_greater above weight s s) (same_itself s) ∙ first_same above weight ss

pub kbo_irreflexive : (above : ℕ → ℕ → Bool) (weight : ℕ → ℕ) → IsSymbolOrder above → IsIrreflexive (kbo_greater above weight)
kbo_irreflexive above weight order (var x) = refl
kbo_irreflexive above weight order (elem k) = refl
kbo_irreflexive above weight order (app f ss) =
    ap (λ b. none_oftener_all ss ss ss && (b || (weigh weight (app f ss) == weigh weight (app f ss) && (above f f || (f == f && kbo_first above weight ss ss))))) (le-ltb (weigh weight (app f ss)) (weigh weight (app f ss)) (omega arith))
    ∙ ap (λ b. none_oftener_all ss ss ss && (weigh weight (app f ss) == weigh weight (app f ss) && (b || (f == f && kbo_first above weight ss ss)))) (order.irreflexive f)
    ∙ ap (λ b. none_oftener_all ss ss ss && (weigh weight (app f ss) == weigh weight (app f ss) && (f == f && b))) (first_same above weight ss)
    ∙ by (none_oftener_all ss ss ss) (weigh weight (app f ss) == weigh weight (app f ss)) (f == f)
  where
    by : (a b c : Bool) → (a && (b && (c && false))) ≡ false
    by false b c = refl
    by true false c = refl
    by true true false = refl
    by true true true = refl
