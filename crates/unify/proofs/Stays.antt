-- The laws of bindings.
use Rattle.std.proofs.Common.{◌≡◌, ℕ, zero, suc, IsTrue, arith, List, [], ◌∷◌, ◌++◌, take, drop, refl, sym, ap, ◌∙◌, subst}
use Rattle.fol_core.specs.Substitutions.{Substitution, substitute}
use Rattle.fol_core.specs.Tree.{Tree, var, Trees, none, more}
use Rattle.substitutions.specs.Occurring.{has_variable}
use Rattle.substitutions.proofs.Composing.{first_same}
use Rattle.term_bank.specs.Bank.{Grows}
use Rattle.term_bank.proofs.Building.{grows_at, grows_length}
use Rattle.unifiers.specs.Unifier.{Unifies, IsMostGeneral}
use Rattle.unify.specs.Bindings.{Meets, resolved, IsSpot, AreSpots, AreBoundInOrder, AreBindings}
use Rattle.unify.specs.Spots.{raised, spot_tree}
use Rattle.unify.specs.Unified.{Unites, AreApart}
use Rattle.unify.specs.declared.spot.Bound.{Bound}
use Rattle.unify.specs.declared.spot.Spot.{Spot}
use Rattle.unify.proofs.Solutions.{solved, bindings_front}

pub most_general : (bank : List Tree) (bs : List Bound) (ss ts : Trees) → AreBindings bank bs → ((u : Substitution) → Meets u bank bs → Unifies u ss ts) → ((u : Substitution) → Unifies u ss ts → Meets u bank bs)
    → IsMostGeneral (resolved bank bs) ss ts
most_general bank bs ss ts are makes meets =
    let s = solved bank bs are in
    record { unifies = makes (resolved bank bs) s.meets; covers = λ u h. (u, s.covers u (meets u h)) }

pub united_general : (bank : List Tree) (bs : List Bound) (s t : Tree) → Unites bank [] bs s t → IsMostGeneral (resolved bank bs) (more s none) (more t none)
united_general bank bs s t h = most_general bank bs (more s none) (more t none) h.bindings (λ u m. ap (λ r. more r none) (h.equal u m)) (λ u e. h.every u tt (first_same (substitute u s) (substitute u t) none none e))

pub apart_none : (bank : List Tree) (s t : Tree) → AreApart bank [] s t → (u : Substitution) → ¬ Unifies u (more s none) (more t none)
apart_none bank s t h u e = h u tt (first_same (substitute u s) (substitute u t) none none e)

pub no_bindings : (bank : List Tree) → AreBindings bank []
no_bindings bank = record { spots = tt; ordered = tt; met = (var, tt) }

take_and_drop : {A : Type 0} (n : ℕ) (xs : List A) → take n xs ++ drop n xs ≡ xs
take_and_drop zero xs = refl
take_and_drop (suc n) [] = refl
take_and_drop (suc n) (x ∷ xs) = ap (λ l. x ∷ l) (take_and_drop n xs)

pub oldest : (bank : List Tree) (bs : List Bound) (n : ℕ) → AreBindings bank bs → AreBindings bank (take n bs)
oldest bank bs n are = bindings_front bank (take n bs) (drop n bs) (subst (AreBindings bank) (sym (take_and_drop n bs)) are)

pub tree_stays : (old new : List Tree) (p : Spot) → Grows old new → IsSpot old p → spot_tree new p ≡ spot_tree old p
tree_stays old new p g is = ap (substitute (raised p.context)) (grows_at old new g p.term.0 is.within)

pub spot_stays : (old new : List Tree) (p : Spot) → Grows old new → IsSpot old p → IsSpot new p
spot_stays old new p g is =
    let at = grows_at old new g p.term.0 is.within in
    let le = grows_length old new g in
    record { within = omega (arith, is.within, le); fits = λ x i. is.fits x (subst (λ t. IsTrue (has_variable x t)) at i) }

spots_stay : (old new : List Tree) (bs : List Bound) → Grows old new → AreSpots old bs → AreSpots new bs
spots_stay old new [] g h = tt
spots_stay old new (b ∷ bs) g h = (spot_stays old new b.to g h.0, spots_stay old new bs g h.1)

order_stays : (old new : List Tree) (xs : List ℕ) (bs : List Bound) → Grows old new → AreSpots old bs → AreBoundInOrder old xs bs → AreBoundInOrder new xs bs
order_stays old new xs [] g s h = tt
order_stays old new xs (b ∷ bs) g s h = (h.0, (λ x e. h.1 x (sym (tree_stays old new b.to g s.0) ∙ e)), order_stays old new (xs ++ b.variable ∷ []) bs g s.1 h.2)

meets_stay : (u : Substitution) (old new : List Tree) (bs : List Bound) → Grows old new → AreSpots old bs → Meets u old bs → Meets u new bs
meets_stay u old new [] g s m = tt
meets_stay u old new (b ∷ bs) g s m = (m.0 ∙ ap (substitute u) (sym (tree_stays old new b.to g s.0)), meets_stay u old new bs g s.1 m.1)

pub bindings_stay : (old new : List Tree) (bs : List Bound) → Grows old new → AreBindings old bs → AreBindings new bs
bindings_stay old new bs g are = record {
  spots = spots_stay old new bs g are.spots;
  ordered = order_stays old new [] bs g are.spots are.ordered;
  met = (are.met.0, meets_stay are.met.0 old new bs g are.spots are.met.1);
}
