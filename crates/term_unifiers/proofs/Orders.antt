-- Places in an order, and the terms that stand there.
use Rattle.std.proofs.Common.{◌≡◌, ℕ, zero, suc, ◌+◌, ◌<◌, refl, sym, ap, ap₂, subst, ◌∙◌, List, [], ◌∷◌, ◌++◌, length, map, set, take, arith, inl, inr, slice_index_or}
use Rattle.std.proofs.lemmas.List.{get_or_read, get_or-set_same, get_or-set_other, map_more, take_more, length-set, append_assoc}
use Rattle.fol_core.specs.Substitutions.{Substitution}
use Rattle.fol_core.specs.Tree.{Tree, var, app, trees_of, nodes}
use Rattle.term_unifiers.specs.Classes.{Classes, schema_of, arguments_of, children, AreClasses, In, AllIn, IsOrder, OrdersAll, class_terms}
use Rattle.term_unifiers.specs.Measures.{IsMeasured, measure_at, IsAbove}
use Rattle.term_unifiers.specs.Merging.{nth}
use Rattle.term_unifiers.specs.Shapes.{Shape, application, shape_at, seen}
use Rattle.clause_limits.specs.declared.measured.Measure.{Measure}
use Rattle.term_unifiers.proofs.Advances.{schema_read, schema_arguments}
use Rattle.term_unifiers.proofs.Growing.{below_at}
use Rattle.term_unifiers.proofs.Measured.{measured_above}
use Rattle.term_unifiers.proofs.Terms.{in_either, in_map, order_closed, term_fixed, smaller_argument}
use Rattle.term_unifiers.proofs.Walks.{nth_in}

pub record Stands (c : Classes) (front : List ℕ) (r : ℕ) : Type 0 where
  pub children : AllIn (children c r) front
  pub fresh : In r front → ⊥

-- what stands before a place
pub stands_at : (c : Classes) (before order : List ℕ) → IsOrder c before order → (i d : ℕ) → i < length order → Stands c (before ++ take i order) (slice_index_or order i d)
stands_at c before [] o i d h = let no_place : ⊥ = omega (arith, h) in elim no_place [ ]
stands_at c before (r ∷ order) o zero d h = subst (λ l. Stands c l r) (sym (no_more before)) (record { children = o.0; fresh = o.1 })
  where
    no_more : (xs : List ℕ) → xs ++ [] ≡ xs
    no_more [] = refl
    no_more (x ∷ xs) = ap (λ l. x ∷ l) (no_more xs)
stands_at c before (r ∷ order) o (suc i) d h =
    let inner : i < length order = omega (arith, h) in
    subst (λ l. Stands c l (slice_index_or order i d)) (append_assoc before (r ∷ []) (take i order)) (stands_at c (before ++ r ∷ []) order o.2 i d inner)

pub in_order : (order : List ℕ) (i d : ℕ) → i < length order → In (slice_index_or order i d) order
in_order [] i d h = let no_place : ⊥ = omega (arith, h) in elim no_place [ ]
in_order (r ∷ order) zero d h = inl refl
in_order (r ∷ order) (suc i) d h = let inner : i < length order = omega (arith, h) in inr (in_order order i d inner)

-- the classes up to a place are measured
pub record MeasuredSoFar (terms : Substitution) (front : List ℕ) (count : ℕ) (measures : List Measure) : Type 0 where
  pub as_many : length measures ≡ count
  pub measured : (r : ℕ) → In r front → IsMeasured (terms r) (measure_at measures r)

-- a class more is measured
pub measured_next : (c : Classes) (order : List ℕ) (i r : ℕ) (measures : List Measure) (m : Measure) → IsOrder c [] order → i < length order → r ≡ nth order i → nth order i < length c.shapes
    → MeasuredSoFar (class_terms c var order) (take i order) (length c.shapes) measures → IsAbove c.links measures (arguments_of (schema_of c r)) m
    → MeasuredSoFar (class_terms c var order) (take (i + 1) order) (length c.shapes) (set measures r m)
measured_next c order i r measures m o h at within is above = record {
  as_many = length-set measures r m ∙ is.as_many;
  measured = λ k j. elim (in_either k r (take i order) (subst (In k) more j)) [
    | inl before ↦ subst (IsMeasured (class_terms c var order k)) (sym (get_or-set_other measures r k m record { size = 0; depth = 0 } (λ e. front.fresh (subst (λ n. In n (take i order)) e before)))) (is.measured k before)
    | inr e ↦ subst (λ n. IsMeasured (class_terms c var order n) (measure_at (set measures r m) n)) (sym e)
        (subst (IsMeasured (class_terms c var order r)) (sym (get_or-set_same measures r m record { size = 0; depth = 0 } inside)) here)
  ];
}
  where
    more : take (i + 1) order ≡ take i order ++ r ∷ []
    more = take_more order i 0 h ∙ ap (λ n. take i order ++ n ∷ []) (sym at)

    front : Stands c (take i order) r
    front = subst (Stands c (take i order)) (sym at) (stands_at c [] order o i 0 h)

    inside : r < length measures
    inside = let n = is.as_many in omega (arith, within, n, at)

    here : IsMeasured (class_terms c var order r) m
    here =
        let fixed = term_fixed c order o r (subst (λ n. In n order) (sym at) (in_order order i 0 h)) in
        subst (λ t. IsMeasured t m) (sym fixed)
        (measured_above (class_terms c var order) c.links measures (schema_of c r) m (λ k j. is.measured (nth c.links k) (in_map (nth c.links) k (arguments_of (schema_of c r)) (take i order) front.children j)) above)

-- the term of a class by its schema
pub class_seen : (c : Classes) (order : List ℕ) (r schema : ℕ) (s : Shape) → AreClasses c → OrdersAll c order → In r order → schema ≡ slice_index_or c.schemas r schema → s ≡ shape_at c.shapes schema → seen (λ k. class_terms c var order (nth c.links k)) s ≡ class_terms c var order r
class_seen c order r schema s are o i read e =
    let at = schema_read c r schema are (o.within r i) read in
    ap (seen (λ k. class_terms c var order (nth c.links k))) (e ∙ ap (shape_at c.shapes) at.0) ∙ sym (term_fixed c order o.order r i)

-- an argument of a class's schema is a node
pub argument_there : (c : Classes) (order : List ℕ) (r schema f : ℕ) (ks : List ℕ) (i : ℕ) → AreClasses c → OrdersAll c order → In r order → schema ≡ slice_index_or c.schemas r schema → application f ks ≡ shape_at c.shapes schema → i < length ks → nth ks i < length c.links
argument_there c order r schema f ks i are o j read e h =
    let at = schema_read c r schema are (o.within r j) read in
    below_at (length c.links) ks (schema_arguments c schema f ks are at.1 e) i 0 h

-- its class is in the order too, and its term is smaller
pub record IsInner (c : Classes) (order : List ℕ) (r k child : ℕ) : Type 0 where
  pub same : child ≡ nth c.links k
  pub there : In child order
  pub less : nodes (class_terms c var order child) < nodes (class_terms c var order r)

pub inner_class : (c : Classes) (order : List ℕ) (r schema f : ℕ) (ks : List ℕ) (i child : ℕ) → AreClasses c → OrdersAll c order → In r order → schema ≡ slice_index_or c.schemas r schema → application f ks ≡ shape_at c.shapes schema → i < length ks → child ≡ slice_index_or c.links (nth ks i) child
    → IsInner c order r (nth ks i) child
inner_class c order r schema f ks i child are o j read e h at =
    let inside = argument_there c order r schema f ks i are o j read e h in
    let same : child ≡ nth c.links (nth ks i) = get_or_read c.links (nth ks i) child inside at 0 in
    let shape : schema_of c r ≡ application f ks = ap (shape_at c.shapes) (sym (schema_read c r schema are (o.within r j) read).0) ∙ sym e in
    let all : AllIn (map (nth c.links) ks) order = subst (λ s. AllIn (map (nth c.links) (arguments_of s)) order) shape (order_closed c order o.order r j) in
    let whole : app f (trees_of (map (λ n. class_terms c var order (nth c.links n)) ks)) ≡ class_terms c var order r = class_seen c order r schema (application f ks) are o j read e in
    let less = smaller_argument (λ n. class_terms c var order (nth c.links n)) f ks (nth ks i) (nth_in ks i h) in
    let total : nodes (app f (trees_of (map (λ n. class_terms c var order (nth c.links n)) ks))) ≡ nodes (class_terms c var order r) = ap nodes whole in
    let inner : nodes (class_terms c var order (nth c.links (nth ks i))) < nodes (class_terms c var order r) = omega (arith, less, total) in
    record {
      same = same;
      there = subst (λ n. In n order) (sym same) (in_map (nth c.links) (nth ks i) ks order all (nth_in ks i h));
      less = subst (λ n. nodes (class_terms c var order n) < nodes (class_terms c var order r)) (sym same) inner;
    }

pub map_next : (g : ℕ → Tree) (ks : List ℕ) (i : ℕ) (old new : List Tree) (t : Tree) → i < length ks → new ≡ old ++ t ∷ [] → old ≡ map g (take i ks) → t ≡ g (nth ks i) → new ≡ map g (take (i + 1) ks)
map_next g ks i old new t h pushed is e = pushed ∙ ap₂ (λ (l : List Tree) (u : Tree). l ++ u ∷ []) is e ∙ sym (map_more g ks i 0 h)
