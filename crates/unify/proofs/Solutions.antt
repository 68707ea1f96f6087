-- Bindings that are in order and that something meets are solved by the substitution that they amount to.
use Rattle.std.proofs.Common.{◌≡◌, inl, inr, ℕ, ◌==◌, Bool, true, false, if◌then◌else◌, IsTrue, List, [], ◌∷◌, ◌++◌, refl, sym, ap, ◌∙◌, subst}
use Rattle.std.proofs.lemmas.Bool.{eq-eqb, ne_eqb, eqb-true, both_ways, cases_Bool}
use Rattle.fol_core.specs.Substitutions.{Substitution, substitute}
use Rattle.fol_core.specs.Tree.{Tree, var, elem, app}
use Rattle.substitutions.specs.Instances.{followed}
use Rattle.substitutions.specs.Occurring.{has_variable}
use Rattle.substitutions.proofs.Composing.{substitute_variables, substitute_twice, substitute_alike}
use Rattle.unifiers.specs.Unifier.{only}
use Rattle.unifiers.proofs.Differences.{is_variable, no_cycle, after_only}
use Rattle.unify.specs.Bindings.{Meets, bound_variables, with_binding, resolved_from, resolved, SolvesBindings, IsSpot, AreSpots, PointsOn, AreBoundInOrder, AreBindings}
use Rattle.unify.specs.Spots.{spot_tree, In}
use Rattle.unify.specs.declared.spot.Bound.{Bound}
use Rattle.unify.proofs.Lists.{in_front, in_behind, in_cases, in_last, assoc, nothing_more}
use Rattle.unify.specs.Reaches.{Differ}

pub meets_both : (u : Substitution) (bank : List Tree) (bs cs : List Bound) → Meets u bank bs → Meets u bank cs → Meets u bank (bs ++ cs)
meets_both u bank [] cs m n = n
meets_both u bank (b ∷ bs) cs m n = (m.0, meets_both u bank bs cs m.1 n)

pub meets_front : (u : Substitution) (bank : List Tree) (bs cs : List Bound) → Meets u bank (bs ++ cs) → Meets u bank bs
meets_front u bank [] cs m = tt
meets_front u bank (b ∷ bs) cs m = (m.0, meets_front u bank bs cs m.1)

pub meets_behind : (u : Substitution) (bank : List Tree) (bs cs : List Bound) → Meets u bank (bs ++ cs) → Meets u bank cs
meets_behind u bank [] cs m = m
meets_behind u bank (b ∷ bs) cs m = meets_behind u bank bs cs m.1

pub names_both : (bs cs : List Bound) → bound_variables (bs ++ cs) ≡ bound_variables bs ++ bound_variables cs
names_both [] cs = refl
names_both (b ∷ bs) cs = ap (λ l. b.variable ∷ l) (names_both bs cs)

pub spots_both : (bank : List Tree) (bs cs : List Bound) → AreSpots bank bs → AreSpots bank cs → AreSpots bank (bs ++ cs)
spots_both bank [] cs h k = k
spots_both bank (b ∷ bs) cs h k = (h.0, spots_both bank bs cs h.1 k)

spots_front : (bank : List Tree) (bs cs : List Bound) → AreSpots bank (bs ++ cs) → AreSpots bank bs
spots_front bank [] cs h = tt
spots_front bank (b ∷ bs) cs h = (h.0, spots_front bank bs cs h.1)

order_front : (bank : List Tree) (xs : List ℕ) (bs cs : List Bound) → AreBoundInOrder bank xs (bs ++ cs) → AreBoundInOrder bank xs bs
order_front bank xs [] cs h = tt
order_front bank xs (b ∷ bs) cs h = (h.0, h.1, order_front bank (xs ++ b.variable ∷ []) bs cs h.2)

pub order_end : (bank : List Tree) (xs : List ℕ) (bs : List Bound) (b : Bound) → AreBoundInOrder bank xs bs → ¬ In b.variable (xs ++ bound_variables bs)
    → PointsOn bank ((xs ++ bound_variables bs) ++ b.variable ∷ []) b.to → AreBoundInOrder bank xs (bs ++ b ∷ [])
order_end bank xs [] b h n on = (
  (λ i. n (in_front b.variable xs [] i)),
  subst (λ ys. PointsOn bank (ys ++ b.variable ∷ []) b.to) (nothing_more xs) on,
  tt,
)
order_end bank xs (c ∷ bs) b h n on =
    let e : (xs ++ c.variable ∷ []) ++ bound_variables bs ≡ xs ++ (c.variable ∷ bound_variables bs) = assoc xs (c.variable ∷ []) (bound_variables bs) in
    (h.0, h.1, order_end bank (xs ++ c.variable ∷ []) bs b h.2 (subst (λ ys. ¬ In b.variable ys) (sym e) n) (subst (λ ys. PointsOn bank (ys ++ b.variable ∷ []) b.to) (sym e) on))

-- the variables of bindings in order differ from those before
later_differ : (bank : List Tree) (xs : List ℕ) (bs : List Bound) (x : ℕ) → AreBoundInOrder bank xs bs → In x (bound_variables bs) → In x xs → ⊥
later_differ bank xs [] x h i j = i
later_differ bank xs (b ∷ bs) x h (inl e) j = h.0 (subst (λ y. In y xs) e j)
later_differ bank xs (b ∷ bs) x h (inr i) j = later_differ bank (xs ++ b.variable ∷ []) bs x h.2 i (in_front x xs (b.variable ∷ []) j)

pub names_differ : (bank : List Tree) (xs : List ℕ) (bs : List Bound) → AreBoundInOrder bank xs bs → Differ (bound_variables bs)
names_differ bank xs [] h = tt
names_differ bank xs (b ∷ bs) h = ((λ i. later_differ bank (xs ++ b.variable ∷ []) bs b.variable h.2 i (in_behind b.variable xs (b.variable ∷ []) (inl refl))), names_differ bank (xs ++ b.variable ∷ []) bs h.2)

-- a term stays where another is put in for a variable that it hasn't
pub untouched : (x : ℕ) (w v : Tree) → has_variable x v ≡ false → substitute (only x w) v ≡ v
untouched x w v n = substitute_alike (only x w) var v (λ y i. by y i (y == x) refl) ∙ substitute_variables v
  where
    by : (y : ℕ) → IsTrue (has_variable y v) → (b : Bool) → (y == x) ≡ b → (if b then w else var y) ≡ var y
    by y i true e = absurd (both_ways (has_variable x v) n (subst (λ z. has_variable z v ≡ true) (eqb-true y x e) i))
    by y i false e = refl

pub covers_term : (s u : Substitution) (bank : List Tree) (bs : List Bound) → SolvesBindings s bank bs → Meets u bank bs → (t : Tree) → substitute u (substitute s t) ≡ substitute u t
covers_term s u bank bs solved m t = substitute_twice s u t ∙ sym (substitute_alike u (followed s u) t (λ z i. solved.covers u m z))

meets_after : (s : Substitution) (x : ℕ) (v : Tree) (bank : List Tree) (bs : List Bound) → Meets s bank bs → Meets (followed s (only x v)) bank bs
meets_after s x v bank [] m = tt
meets_after s x v bank (b ∷ bs) m = (ap (substitute (only x v)) m.0 ∙ substitute_twice s (only x v) (spot_tree bank b.to), meets_after s x v bank bs m.1)

pub solution_end : (s : Substitution) (bank : List Tree) (bs : List Bound) (b : Bound) → SolvesBindings s bank bs → ¬ In b.variable (bound_variables bs)
    → has_variable b.variable (substitute s (spot_tree bank b.to)) ≡ false → SolvesBindings (with_binding s b.variable (spot_tree bank b.to)) bank (bs ++ b ∷ [])
solution_end s bank bs b solved fresh apart =
    let x = b.variable in
    let t : Tree = spot_tree bank b.to in
    let v : Tree = substitute s t in
    let here : only x v x ≡ v = ap (λ c. if c then v else var x) (eq-eqb x x refl) in
    record {
      meets = meets_both (with_binding s x t) bank bs (b ∷ []) (meets_after s x v bank bs solved.meets)
          (ap (substitute (only x v)) (solved.free x fresh) ∙ here ∙ sym (untouched x v v apart) ∙ substitute_twice s (only x v) t, tt);
      covers = λ u m y.
          let front = meets_front u bank bs (b ∷ []) m in
          let last = (meets_behind u bank bs (b ∷ []) m).0 in
          let e : u x ≡ substitute u v = last ∙ sym (covers_term s u bank bs solved front t) in
          solved.covers u front y ∙ sym (substitute_alike (followed (only x v) u) u (s y) (λ z i. after_only u x v e z)) ∙ sym (substitute_twice (only x v) u (s y));
      free = λ y n.
          let out : ¬ In y (bound_variables bs) = λ i. n (subst (In y) (sym (names_both bs (b ∷ []))) (in_front y (bound_variables bs) (x ∷ []) i)) in
          let other : (y == x) ≡ false = ne_eqb y x (λ e. n (subst (In y) (sym (names_both bs (b ∷ []))) (in_behind y (bound_variables bs) (x ∷ []) (inl e)))) in
          ap (substitute (only x v)) (solved.free y out) ∙ ap (λ c. if c then v else var y) other;
    }

-- a term that is no bound variable, nor this one, doesn't become this one
pub proper_term : (s : Substitution) (bank : List Tree) (bs : List Bound) (x : ℕ) (t : Tree) → SolvesBindings s bank bs
    → ((z : ℕ) → t ≡ var z → ¬ In z (bound_variables bs)) → ¬ (t ≡ var x) → is_variable x (substitute s t) ≡ false
proper_term s bank bs x (var z) solved free other = ap (is_variable x) (solved.free z (free z refl)) ∙ ne_eqb x z (λ e. other (ap var (sym e)))
proper_term s bank bs x (elem k) solved free other = refl
proper_term s bank bs x (app f ts) solved free other = refl

-- a variable and a term that has it are made the same by nothing that meets the bindings
pub never_cycle : (s u : Substitution) (bank : List Tree) (bs : List Bound) (x : ℕ) (t : Tree) → SolvesBindings s bank bs → Meets u bank bs
    → ((z : ℕ) → t ≡ var z → ¬ In z (bound_variables bs)) → ¬ (t ≡ var x) → IsTrue (has_variable x (substitute s t)) → u x ≡ substitute u t → ⊥
never_cycle s u bank bs x t solved m free other i e =
    no_cycle u x (substitute s t) i (proper_term s bank bs x t solved free other) (e ∙ sym (covers_term s u bank bs solved m t))

solved_from : (s u : Substitution) (bank : List Tree) (bs cs : List Bound) → SolvesBindings s bank bs → AreBoundInOrder bank (bound_variables bs) cs → Meets u bank (bs ++ cs)
    → SolvesBindings (resolved_from s bank cs) bank (bs ++ cs)
solved_from s u bank bs [] solved ordered m = subst (SolvesBindings s bank) (sym (nothing_more bs)) solved
solved_from s u bank bs (c ∷ cs) solved ordered m =
    let t : Tree = spot_tree bank c.to in
    let whole : (bs ++ c ∷ []) ++ cs ≡ bs ++ (c ∷ cs) = assoc bs (c ∷ []) cs in
    let front = meets_front u bank bs (c ∷ cs) m in
    let here = (meets_behind u bank bs (c ∷ cs) m).0 in
    let free : (z : ℕ) → t ≡ var z → ¬ In z (bound_variables bs) = λ z e i. ordered.1 z e (in_front z (bound_variables bs) (c.variable ∷ []) i) in
    let other : ¬ (t ≡ var c.variable) = λ e. ordered.1 c.variable e (in_behind c.variable (bound_variables bs) (c.variable ∷ []) (inl refl)) in
    let apart : has_variable c.variable (substitute s t) ≡ false = elim (cases_Bool (has_variable c.variable (substitute s t))) [
      | inl i ↦ absurd (never_cycle s u bank bs c.variable t solved front free other i here)
      | inr n ↦ n
    ] in
    subst (SolvesBindings (resolved_from (with_binding s c.variable t) bank cs) bank) whole
    (solved_from (with_binding s c.variable t) u bank (bs ++ c ∷ []) cs (solution_end s bank bs c solved ordered.0 apart)
    (subst (λ xs. AreBoundInOrder bank xs cs) (sym (names_both bs (c ∷ []))) ordered.2) (subst (Meets u bank) (sym whole) m))

no_solution : (bank : List Tree) → SolvesBindings var bank []
no_solution bank = record { meets = tt; covers = λ u m x. refl; free = λ x n. refl }

pub solved : (bank : List Tree) (bs : List Bound) → AreBindings bank bs → SolvesBindings (resolved bank bs) bank bs
solved bank bs are = solved_from var are.met.0 bank [] bs (no_solution bank) are.ordered are.met.1

pub bindings_front : (bank : List Tree) (bs cs : List Bound) → AreBindings bank (bs ++ cs) → AreBindings bank bs
bindings_front bank bs cs are = record {
  spots = spots_front bank bs cs are.spots;
  ordered = order_front bank [] bs cs are.ordered;
  met = (are.met.0, meets_front are.met.0 bank bs cs are.met.1);
}

pub bindings_end : (bank : List Tree) (bs : List Bound) (b : Bound) → AreBindings bank bs → ¬ In b.variable (bound_variables bs) → IsSpot bank b.to
    → PointsOn bank (bound_variables bs) b.to → ¬ (spot_tree bank b.to ≡ var b.variable)
    → has_variable b.variable (substitute (resolved bank bs) (spot_tree bank b.to)) ≡ false → AreBindings bank (bs ++ b ∷ [])
bindings_end bank bs b are fresh spot free other apart = record {
  spots = spots_both bank bs (b ∷ []) are.spots (spot, tt);
  ordered = order_end bank [] bs b are.ordered fresh
      (λ z e i. elim (in_cases z (bound_variables bs) (b.variable ∷ []) i) [ inl j ↦ free z e j | inr j ↦ other (e ∙ ap var (in_last z b.variable j)) ]);
  met = (with_binding (resolved bank bs) b.variable (spot_tree bank b.to), (solution_end (resolved bank bs) bank bs b (solved bank bs are) fresh apart).meets);
}
