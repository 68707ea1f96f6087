-- What stands at a spot, and whether it is among some.
use Rattle.std.proofs.Common.{◌≡◌, inl, inr, ℕ, zero, suc, ◌+◌, ◌<◌, ◌==◌, true, false, IsTrue, sym, refl, ap, ◌∙◌, subst, List, [], ◌∷◌, take, drop, length, get_or, arith, drop-cons, add-one}
use Rattle.std.proofs.lemmas.Bool.{false≢true, eq-eqb}
use Rattle.fol_core.specs.Tree.{Tree, var, elem, app}
use Rattle.substitutions.specs.Occurring.{has_variable}
use Rattle.term_bank.specs.Bank.{tree_at}
use Rattle.unifiers.specs.Matching.{same_tree}
use Rattle.unifiers.proofs.MatchesFound.{tree_same, same_itself}
use Rattle.unify.specs.Bindings.{IsSpot, AreSpots}
use Rattle.unify.specs.Spots.{spot_tree, In}
use Rattle.unify.specs.Steps.{stepped, walked, same_spot, IsNoVariable, IsShownIn, AllSpots}
use Rattle.unify.specs.declared.spot.Bound.{Bound}
use Rattle.unify.specs.declared.spot.Spot.{Spot}
use Rattle.unify.proofs.Closing.{in_at, in_taken_more}
use Rattle.unify.proofs.Walks.{spot_iff}

pub is_this : (bank : List Tree) (p : Spot) (x y : ℕ) → spot_tree bank p ≡ var y → (x == y) ≡ same_tree (var x) (spot_tree bank p)
is_this bank p x y e = sym (ap (same_tree (var x)) e)

other_tree : (x : ℕ) (t : Tree) → ((y : ℕ) → ¬ (t ≡ var y)) → false ≡ same_tree (var x) t
other_tree x (var y) n = absurd (n y refl)
other_tree x (elem k) n = refl
other_tree x (app f ts) n = refl

pub is_none : (bank : List Tree) (p : Spot) (x : ℕ) → IsNoVariable bank p → false ≡ same_tree (var x) (spot_tree bank p)
is_none bank p x n = other_tree x (spot_tree bank p) n

pub sum_fits : (bank : List Tree) (p : Spot) (x : ℕ) → IsSpot bank p → var x ≡ tree_at bank p.term.0 → x + p.context < 18446744073709551616
sum_fits bank p x is e = is.fits x (subst (λ t. IsTrue (has_variable x t)) e (eq-eqb x x refl))

pub among_found : (qs ps : List Spot) (n : ℕ) (p d : Spot) → qs ≡ ps → n < length qs → same_spot p (get_or qs n d) ≡ true → In p ps
among_found qs ps n p d e lt h = subst (In p) e (subst (λ r. In r qs) (sym ((spot_iff p (get_or qs n d)).0 h)) (in_at qs n d lt))

pub among_more : (qs ps : List Spot) (n : ℕ) (p d : Spot) → qs ≡ ps → n < length qs → same_spot p (get_or qs n d) ≡ false → ¬ In p (take n ps) → ¬ In p (take (n + 1) ps)
among_more qs ps n p d e lt h none = subst (λ l. ¬ In p (take n l) → ¬ In p (take (n + 1) l)) e
    (λ before i. elim (in_taken_more p qs n d lt i) [
      | inl j ↦ before j
      | inr k ↦ false≢true (sym h ∙ (spot_iff p (get_or qs n d)).1 k)
    ]) none

pub spot_at : (bank : List Tree) (qs ps : List Spot) (n : ℕ) (d : Spot) → qs ≡ ps → n < length qs → AllSpots bank ps → IsSpot bank (get_or qs n d)
spot_at bank qs ps n d e lt all = all (get_or qs n d) (subst (In (get_or qs n d)) e (in_at qs n d lt))

pub shown_found : (bank : List Tree) (qs ps : List Spot) (n x : ℕ) (d : Spot) → qs ≡ ps → n < length qs → same_tree (var x) (spot_tree bank (get_or qs n d)) ≡ true → IsShownIn bank ps x
shown_found bank qs ps n x d e lt h = (get_or qs n d, subst (In (get_or qs n d)) e (in_at qs n d lt), sym (tree_same (var x) (spot_tree bank (get_or qs n d)) h))

pub shown_more : (bank : List Tree) (qs ps : List Spot) (n x : ℕ) (d : Spot) → qs ≡ ps → n < length qs → same_tree (var x) (spot_tree bank (get_or qs n d)) ≡ false
    → ¬ IsShownIn bank (take n ps) x → ¬ IsShownIn bank (take (n + 1) ps) x
shown_more bank qs ps n x d e lt h none = subst (λ l. ¬ IsShownIn bank (take n l) x → ¬ IsShownIn bank (take (n + 1) l) x) e
    (λ before shown. elim (in_taken_more shown.0 qs n d lt shown.1) [
      | inl j ↦ before (shown.0, j, shown.2)
      | inr k ↦ false≢true (sym h ∙ ap (same_tree (var x)) (ap (spot_tree bank) (sym k) ∙ shown.2) ∙ same_itself (var x))
    ]) none

pub bound_at : (bank : List Tree) (cs bs : List Bound) (n : ℕ) (d : Bound) → cs ≡ bs → n < length cs → AreSpots bank bs → IsSpot bank (get_or cs n d).to
bound_at bank cs bs n d e lt all = by cs n lt (subst (AreSpots bank) (sym e) all)
  where
    by : (cs : List Bound) (n : ℕ) → n < length cs → AreSpots bank cs → IsSpot bank (get_or cs n d).to
    by [] n h a = absurd (omega (arith, h))
    by (c ∷ cs) zero h a = a.0
    by (c ∷ cs) (suc n) h a = let inner : n < length cs = omega (arith, h) in by cs n inner a.1

pub walked_more : (bank : List Tree) (cs bs : List Bound) (n : ℕ) (d : Bound) (p q r : Spot) → cs ≡ bs → n < length cs → walked bank (drop n bs) p ≡ r → q ≡ stepped bank (get_or cs n d) p
    → walked bank (drop (n + 1) bs) q ≡ r
walked_more bank cs bs n d p q r e lt h is =
    subst (λ l. walked bank (drop n l) p ≡ r → walked bank (drop (n + 1) l) q ≡ r) e
    (λ before. ap (walked bank (drop (n + 1) cs)) is ∙ rw add-one (ap (λ l. walked bank l p) (sym (drop-cons cs n d lt))) ∙ before) h
