-- The terms of classes along an order.
use Rattle.std.proofs.Common.{◌≡◌, ℕ, ◌<◌, ◌≤◌, refl, sym, ap, ap₂, subst, ◌∙◌, List, [], ◌∷◌, ◌++◌, length, map, arith, inl, inr, ◌⊎◌, eq-eqb, if◌then◌else◌}
use Rattle.std.proofs.lemmas.Bool.{ne_eqb}
use Rattle.std.proofs.lemmas.List.{append_assoc}
use Rattle.fol_core.specs.Substitutions.{Substitution, with_term, substitute, substitute_all}
use Rattle.fol_core.specs.Tree.{Tree, var, app, more, trees_of, nodes, nodes_of}
use Rattle.term_unifiers.specs.Classes.{Classes, schema_of, arguments_of, children, AreClasses, In, AllIn, IsOrder, IsWhole, class_term, class_terms, node_terms}
use Rattle.term_unifiers.specs.Merging.{nth, FitsLinks, IsNoVariable, Respects}
use Rattle.term_unifiers.specs.Shapes.{Shape, variable, element, application, shape_at, seen, AreBelow, HasArgumentsBelow, AreInPostorder, tree_at}
use Rattle.term_unifiers.proofs.Entering.{tree_seen}
use Rattle.term_unifiers.proofs.Growing.{below_at}

with_here : (terms : Substitution) (r : ℕ) (t : Tree) → with_term terms r t r ≡ t
with_here terms r t = ap (λ b. if b then t else terms r) (eq-eqb r r refl)

with_there : (terms : Substitution) (r : ℕ) (t : Tree) (k : ℕ) → (k ≡ r → ⊥) → with_term terms r t k ≡ terms k
with_there terms r t k d = ap (λ b. if b then t else terms k) (ne_eqb k r d)

pub in_front : (x : ℕ) (xs ys : List ℕ) → In x xs → In x (xs ++ ys)
in_front x [] ys h = elim h [ ]
in_front x (y ∷ xs) ys h = elim h [ inl e ↦ inl e | inr i ↦ inr (in_front x xs ys i) ]

pub in_last : (x : ℕ) (xs : List ℕ) → In x (xs ++ x ∷ [])
in_last x [] = inl refl
in_last x (y ∷ xs) = inr (in_last x xs)

pub in_either : (x r : ℕ) (xs : List ℕ) → In x (xs ++ r ∷ []) → In x xs ⊎ (x ≡ r)
in_either x r [] h = elim h [ inl e ↦ inr e | inr n ↦ elim n [ ] ]
in_either x r (y ∷ xs) h = elim h [ inl e ↦ inl (inl e) | inr i ↦ elim (in_either x r xs i) [ inl j ↦ inl (inr j) | inr e ↦ inr e ] ]

all_front : (xs ys zs : List ℕ) → AllIn xs ys → AllIn xs (ys ++ zs)
all_front [] ys zs h = tt
all_front (x ∷ xs) ys zs h = (in_front x ys zs h.0, all_front xs ys zs h.1)

same_map : (f g : Substitution) (links : ℕ → ℕ) (ks : List ℕ) (before : List ℕ) → AllIn (map links ks) before → ((k : ℕ) → In k before → f k ≡ g k) → map (λ k. f (links k)) ks ≡ map (λ k. g (links k)) ks
same_map f g links [] before a h = refl
same_map f g links (k ∷ ks) before a h = ap₂ (λ (t : Tree) (ts : List Tree). t ∷ ts) (h (links k) a.0) (same_map f g links ks before a.1 h)

-- the term of a class is that of its arguments' terms alone
same_term : (f g : Substitution) (links : ℕ → ℕ) (s : Shape) (before : List ℕ) → AllIn (map links (arguments_of s)) before → ((k : ℕ) → In k before → f k ≡ g k) → seen (λ k. f (links k)) s ≡ seen (λ k. g (links k)) s
same_term f g links (variable x) before a h = refl
same_term f g links (element k) before a h = refl
same_term f g links (application s ks) before a h = ap (λ ts. app s (trees_of ts)) (same_map f g links ks before a h)

-- what holds along an order
record Stands (c : Classes) (terms : Substitution) (before : List ℕ) : Type 0 where
  closed : (r : ℕ) → In r before → AllIn (children c r) before
  fixed : (r : ℕ) → In r before → terms r ≡ class_term c terms r

stands_next : (c : Classes) (terms : Substitution) (before : List ℕ) (r : ℕ) → Stands c terms before → AllIn (children c r) before → (In r before → ⊥) → Stands c (with_term terms r (class_term c terms r)) (before ++ r ∷ [])
stands_next c terms before r is all fresh = record {
  closed = λ k i. elim (in_either k r before i) [
    | inl j ↦ all_front (children c k) before (r ∷ []) (is.closed k j)
    | inr e ↦ subst (λ k. AllIn (children c k) (before ++ r ∷ [])) (sym e) (all_front (children c r) before (r ∷ []) all)
  ];
  fixed = λ k i. elim (in_either k r before i) [
    | inl j ↦ sym (kept k j) ∙ is.fixed k j ∙ same_term terms now (nth c.links) (schema_of c k) before (is.closed k j) kept
    | inr e ↦ subst (λ k. now k ≡ class_term c now k) (sym e) (with_here terms r (class_term c terms r) ∙ same_term terms now (nth c.links) (schema_of c r) before all kept)
  ];
}
  where
    now : Substitution
    now = with_term terms r (class_term c terms r)

    kept : (k : ℕ) → In k before → terms k ≡ now k
    kept k j = sym (with_there terms r (class_term c terms r) k (λ e. fresh (subst (λ i. In i before) e j)))

stands_on : (c : Classes) (terms : Substitution) (before order : List ℕ) → Stands c terms before → IsOrder c before order → Stands c (class_terms c terms order) (before ++ order)
stands_on c terms before [] is o = subst (Stands c terms) (sym (no_more before)) is
  where
    no_more : (xs : List ℕ) → xs ++ [] ≡ xs
    no_more [] = refl
    no_more (x ∷ xs) = ap (λ l. x ∷ l) (no_more xs)
stands_on c terms before (r ∷ order) is o =
    subst (Stands c (class_terms c (with_term terms r (class_term c terms r)) order)) (append_assoc before (r ∷ []) order)
    (stands_on c (with_term terms r (class_term c terms r)) (before ++ r ∷ []) order (stands_next c terms before r is o.0 o.1) o.2)

stands : (c : Classes) (order : List ℕ) → IsOrder c [] order → Stands c (class_terms c var order) order
stands c order o = stands_on c var [] order (record { closed = λ r i. elim i [ ]; fixed = λ r i. elim i [ ] }) o

-- each class has the term that its schema and its arguments' classes give it
pub term_fixed : (c : Classes) (order : List ℕ) → IsOrder c [] order → (r : ℕ) → In r order → class_terms c var order r ≡ class_term c (class_terms c var order) r
term_fixed c order o r i = (stands c order o).fixed r i

-- the classes of a class's arguments are in the order
pub order_closed : (c : Classes) (order : List ℕ) → IsOrder c [] order → (r : ℕ) → In r order → AllIn (children c r) order
order_closed c order o r i = (stands c order o).closed r i

-- the terms are the same for linked nodes
pub terms_fit : (c : Classes) (order : List ℕ) → AreClasses c → FitsLinks (node_terms c order) c.links
terms_fit c order are n h = ap (class_terms c var order) (sym (are.flat n h))

-- and respect the nodes
pub terms_respect : (c : Classes) (order : List ℕ) → AreClasses c → IsOrder c [] order → IsWhole c order → Respects (node_terms c order) c.shapes
terms_respect c order are o whole n h firm =
    let s = are.schemas (node_terms c order) (terms_fit c order are) in
    let own = s.own n h firm in
    let linked : n < length c.links = omega (arith, h, are.linked) in
    let on = s.onward n linked own.0 in
    term_fixed c order o (nth c.links n) (whole n h) ∙ sym (own.1 ∙ on.1)

-- terms after a substitution, in lists
put_map : (u : Substitution) (f g : Substitution) (ks : List ℕ) → ((k : ℕ) → In k ks → substitute u (f k) ≡ substitute u (g k)) → substitute_all u (trees_of (map f ks)) ≡ substitute_all u (trees_of (map g ks))
put_map u f g [] h = refl
put_map u f g (k ∷ ks) h = ap₂ more (h k (inl refl)) (put_map u f g ks (λ j i. h j (inr i)))

pub in_map : (links : ℕ → ℕ) (k : ℕ) (ks before : List ℕ) → AllIn (map links ks) before → In k ks → In (links k) before
in_map links k [] before a i = elim i [ ]
in_map links k (j ∷ ks) before a i = elim i [ inl e ↦ subst (λ j. In (links j) before) (sym e) a.0 | inr r ↦ in_map links k ks before a.1 r ]

pub below_in : (n : ℕ) (ks : List ℕ) → AreBelow n ks → (k : ℕ) → In k ks → k < n
below_in n [] b k i = elim i [ ]
below_in n (j ∷ ks) b k i = elim i [ inl e ↦ omega (arith, e, b.0) | inr r ↦ below_in n ks b.1 k r ]

-- what a substitution makes of nodes' trees
abbrev pub made : List Shape → Substitution → Substitution
made shapes u = λ n. substitute u (tree_at shapes n)

pub made_respects : (shapes : List Shape) (u : Substitution) → AreInPostorder shapes → Respects (made shapes u) shapes
made_respects shapes u post n h firm = ap (substitute u) (tree_seen shapes post n h) ∙ by (shape_at shapes n) firm
  where
    each : (ks : List ℕ) → substitute_all u (trees_of (map (tree_at shapes) ks)) ≡ trees_of (map (made shapes u) ks)
    each [] = refl
    each (k ∷ ks) = ap (more (made shapes u k)) (each ks)

    by : (s : Shape) → IsNoVariable s → substitute u (seen (tree_at shapes) s) ≡ seen (made shapes u) s
    by (variable x) firm = elim firm [ ]
    by (element k) firm = refl
    by (application f ks) firm = ap (app f) (each ks)

-- whatever makes the same of linked nodes does so after the terms
record Covers (c : Classes) (u terms : Substitution) (before : List ℕ) : Type 0 where
  covered : (r : ℕ) → In r before → made c.shapes u r ≡ substitute u (terms r)

covers_next : (c : Classes) (u terms : Substitution) (before : List ℕ) (r : ℕ) → AreClasses c → FitsLinks (made c.shapes u) c.links → r < length c.shapes → Covers c u terms before → AllIn (children c r) before → (In r before → ⊥)
    → Covers c u (with_term terms r (class_term c terms r)) (before ++ r ∷ [])
covers_next c u terms before r are fits within is all fresh = record {
  covered = λ k i. elim (in_either k r before i) [
    | inl j ↦ is.covered k j ∙ ap (substitute u) (sym (with_there terms r (class_term c terms r) k (λ e. fresh (subst (λ i. In i before) e j))))
    | inr e ↦ subst (λ k. made c.shapes u k ≡ substitute u (with_term terms r (class_term c terms r) k)) (sym e) (here ∙ ap (substitute u) (sym (with_here terms r (class_term c terms r))))
  ];
}
  where
    schema : nth c.schemas r < length c.shapes
    schema = let inside : r < length c.schemas = omega (arith, within, are.schemed) in below_at (length c.shapes) c.schemas are.inside r 0 inside

    by : (s : Shape) → HasArgumentsBelow (nth c.schemas r) s → AllIn (map (nth c.links) (arguments_of s)) before → substitute u (seen (tree_at c.shapes) s) ≡ substitute u (seen (λ k. terms (nth c.links k)) s)
    by (variable x) below all = refl
    by (element k) below all = refl
    by (application f ks) below all =
        ap (app f) (put_map u (tree_at c.shapes) (λ k. terms (nth c.links k)) ks (λ k i.
        let lower = below_in (nth c.schemas r) ks below k i in
        let inside : k < length c.links = omega (arith, lower, schema, are.linked) in
        fits k inside ∙ is.covered (nth c.links k) (in_map (nth c.links) k ks before all i)))

    here : made c.shapes u r ≡ substitute u (class_term c terms r)
    here = (are.schemas (made c.shapes u) fits).same r within ∙ ap (substitute u) (tree_seen c.shapes are.postorder (nth c.schemas r) schema) ∙ by (schema_of c r) (are.postorder (nth c.schemas r) schema) all

covers_on : (c : Classes) (u terms : Substitution) (before order : List ℕ) → AreClasses c → FitsLinks (made c.shapes u) c.links → ((r : ℕ) → In r order → r < length c.shapes) → Covers c u terms before → IsOrder c before order → Covers c u (class_terms c terms order) (before ++ order)
covers_on c u terms before [] are fits within is o = subst (Covers c u terms) (sym (no_more before)) is
  where
    no_more : (xs : List ℕ) → xs ++ [] ≡ xs
    no_more [] = refl
    no_more (x ∷ xs) = ap (λ l. x ∷ l) (no_more xs)
covers_on c u terms before (r ∷ order) are fits within is o =
    subst (Covers c u (class_terms c (with_term terms r (class_term c terms r)) order)) (append_assoc before (r ∷ []) order)
    (covers_on c u (with_term terms r (class_term c terms r)) (before ++ r ∷ []) order are fits (λ k i. within k (inr i)) (covers_next c u terms before r are fits (within r (inl refl)) is o.0 o.1) o.2)

pub terms_cover : (c : Classes) (u : Substitution) (order : List ℕ) → AreClasses c → FitsLinks (made c.shapes u) c.links → IsOrder c [] order → ((r : ℕ) → In r order → r < length c.shapes) → IsWhole c order
    → (n : ℕ) → n < length c.shapes → made c.shapes u n ≡ substitute u (node_terms c order n)
terms_cover c u order are fits o within whole n h =
    let linked : n < length c.links = omega (arith, h, are.linked) in
    fits n linked ∙ (covers_on c u var [] order are fits within (record { covered = λ r i. elim i [ ] }) o).covered (nth c.links n) (whole n h)

-- an argument's class has a smaller term
pub smaller_argument : (label : Substitution) (f : ℕ) (ks : List ℕ) (k : ℕ) → In k ks → nodes (label k) < nodes (app f (trees_of (map label ks)))
smaller_argument label f ks k i = let s = some ks i in omega (arith, s)
  where
    some : (ks : List ℕ) → In k ks → nodes (label k) ≤ nodes_of (trees_of (map label ks))
    some [] i = elim i [ ]
    some (j ∷ ks) i = elim i [
      | inl e ↦ let same : nodes (label k) ≡ nodes (label j) = ap (λ n. nodes (label n)) e in omega (arith, same)
      | inr r ↦ let s = some ks r in omega (arith, s)
    ]

-- a class of a schema's arguments is that of some argument
child_of : (links : ℕ → ℕ) (x : ℕ) (ks : List ℕ) → In x (map links ks) → (k : ℕ) × In k ks × (x ≡ links k)
child_of links x [] i = elim i [ ]
child_of links x (k ∷ ks) i = elim i [
  | inl e ↦ (k, inl refl, e)
  | inr r ↦ let c = child_of links x ks r in (c.0, inr c.1, c.2)
]

pub smaller_child : (c : Classes) (label : Substitution) → AreClasses c → Respects label c.shapes → FitsLinks label c.links → (r x : ℕ) → r < length c.shapes → In x (children c r) → nodes (label x) < nodes (label r)
smaller_child c label are respects fits r x within i =
    by (schema_of c r) refl i
  where
    schema : nth c.schemas r < length c.shapes
    schema = let inside : r < length c.schemas = omega (arith, within, are.schemed) in below_at (length c.shapes) c.schemas are.inside r 0 inside

    by : (s : Shape) → schema_of c r ≡ s → In x (map (nth c.links) (arguments_of s)) → nodes (label x) < nodes (label r)
    by (variable y) e i = elim i [ ]
    by (element k) e i = elim i [ ]
    by (application f ks) e i =
        let k = child_of (nth c.links) x ks i in
        let below = subst (HasArgumentsBelow (nth c.schemas r)) e (are.postorder (nth c.schemas r) schema) in
        let lower = below_in (nth c.schemas r) ks below k.0 k.1 in
        let inside : k.0 < length c.links = omega (arith, lower, schema, are.linked) in
        let whole : label r ≡ app f (trees_of (map label ks)) =
        (are.schemas label fits).same r within ∙ respects (nth c.schemas r) schema (subst IsNoVariable (sym e) tt) ∙ ap (seen label) e in
        let same : nodes (label x) ≡ nodes (label k.0) = ap (λ n. nodes (label n)) k.2 ∙ ap nodes (sym (fits k.0 inside)) in
        let total : nodes (label r) ≡ nodes (app f (trees_of (map label ks))) = ap nodes whole in
        let less = smaller_argument label f ks k.0 k.1 in
        omega (arith, same, total, less)
