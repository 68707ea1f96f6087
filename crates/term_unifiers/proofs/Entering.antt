-- A node more in an arena.
use Rattle.std.specs.BTreeMap.{is_at}
use Rattle.std.specs.Ordering.{nat_cmp}
use Rattle.std.proofs.Common.{◌≡◌, ℕ, ◌+◌, ◌<◌, ◌≤◌, false, refl, sym, ap, ap₂, subst, ◌∙◌, List, [], ◌∷◌, ◌++◌, length, map, take, drop, arith, inl, inr, Some, None, ◌⊎◌, slice_index_or}
use Rattle.std.proofs.lemmas.Bool.{cases_lt, cases_eq}
use Rattle.std.proofs.lemmas.Bool.Decides.{nat_tests}
use Rattle.std.proofs.lemmas.List.{length_push, map-append, length-map, append-nil, append_assoc, take_at, take_all, drop_at, length-append, get_or_at, get_or-map, map_more}
use Rattle.std.proofs.lemmas.List.Sums.{sum_by_push}
use Rattle.fol_core.specs.TermView.{tree_of, tree_list}
use Rattle.fol_core.specs.Tree.{Tree, app, trees_of}
use Rattle.fol_core.specs.declared.term.Term.{Term}
use Rattle.term_unifiers.specs.Arenas.{shape_of, shapes_of, node_of, IsPlaced, ArePlaced, IsArena, IsNode, AreNodes, IsApplied}
use Rattle.term_unifiers.specs.Merging.{arity, arities}
use Rattle.term_unifiers.specs.Shapes.{Shape, variable, element, application, shape_at, seen, AreBelow, HasArgumentsBelow, AreInPostorder, tree_at}
use Rattle.term_unifiers.specs.declared.node.Arena.{Arena}
use Rattle.term_unifiers.specs.declared.node.Node.{Node}
use Rattle.term_unifiers.specs.declared.node.Node.TheVariants.{Application}
use Rattle.term_unifiers.proofs.Growing.{placed_at, placed_push, tree_front, shapes_more, shape_front, shape_last, last_or_before, postorder_push, grows_refl, grows_on, grows_length, trees_grow, tree_last, same_seen, below_more, below_append}

pub entered : (old new : Arena) (more : List ℕ) (node : Node) (s : Shape) → IsArena old → new.arguments.items ≡ old.arguments.items ++ more → new.nodes.items ≡ old.nodes.items ++ node ∷ []
    → IsPlaced (length new.arguments.items) node → shape_of new.arguments.items node ≡ s → HasArgumentsBelow (length (shapes_of old)) s → arity s ≤ length more
    → ((x n : ℕ) → node_of new x ≡ Some n → (node_of old x ≡ Some n) ⊎ ((n ≡ length (shapes_of old)) × (s ≡ variable x)))
    → ((x n : ℕ) → node_of old x ≡ Some n → node_of new x ≡ Some n)
    → ((x : ℕ) → s ≡ variable x → node_of new x ≡ Some (length (shapes_of old)))
    → IsNode old new s (length old.nodes.items)
entered old new more node s is args nodes at shape lower short named kept last = record {
  arena = record {
    placed = subst (ArePlaced (length new.arguments.items)) (sym nodes) (placed_push (length old.arguments.items) (length new.arguments.items) longer old.nodes.items node is.placed at);
    postorder = subst AreInPostorder (sym all) (postorder_push (shapes_of old) s is.postorder lower);
    few =
        let total : arities (shapes_of old ++ s ∷ []) ≡ arities (shapes_of old) + arity s = sum_by_push arity (shapes_of old) s in
        let before = is.few in
        let wider : length new.arguments.items ≡ length old.arguments.items + length more = ap length args ∙ length-append old.arguments.items more in
        let fits : arities (shapes_of old ++ s ∷ []) ≤ length new.arguments.items = omega (arith, total, before, wider, short) in
        subst (λ l. arities l ≤ length new.arguments.items) (sym all) fits;
    named = λ x n h. elim (named x n h) [
      | inl o ↦ let r = is.named x n o in (omega (arith, r.0, more_nodes), ap (λ l. shape_at l n) all ∙ shape_front (shapes_of old) (s ∷ []) n r.0 ∙ r.1)
      | inr e ↦ (omega (arith, e.0, more_nodes), ap (λ l. shape_at l n) all ∙ ap (shape_at (shapes_of old ++ s ∷ [])) e.0 ∙ shape_last (shapes_of old) s ∙ e.1)
    ];
    once = λ x n h e. last_or_before (λ n. shape_at (shapes_of old ++ s ∷ []) n ≡ variable x → node_of new x ≡ Some n) (shapes_of old) s
        (λ n h e. kept x n (is.once x n h (sym (shape_front (shapes_of old) (s ∷ []) n h) ∙ e)))
        (λ e. last x (sym (shape_last (shapes_of old) s) ∙ e)) n (subst (λ l. n < length l) all h) (sym (ap (λ l. shape_at l n) all) ∙ e);
  };
  grows = (s ∷ [], all);
  within = omega (arith, more_nodes, length-map old.nodes.items (shape_of old.arguments.items));
  shape = ap (λ l. shape_at l (length old.nodes.items)) all ∙ ap (shape_at (shapes_of old ++ s ∷ [])) (sym (length-map old.nodes.items (shape_of old.arguments.items))) ∙ shape_last (shapes_of old) s;
}
  where
    longer : length old.arguments.items ≤ length new.arguments.items
    longer = let e : length new.arguments.items ≡ length old.arguments.items + length more = ap length args ∙ length-append old.arguments.items more in omega (arith, e)

    all : shapes_of new ≡ shapes_of old ++ s ∷ []
    all = ap (map (shape_of new.arguments.items)) nodes ∙ map-append (shape_of new.arguments.items) old.nodes.items (node ∷ [])
        ∙ ap₂ (λ (ss : List Shape) (t : Shape). ss ++ t ∷ []) (ap (λ l. map (shape_of l) old.nodes.items) args ∙ shapes_more old.arguments.items more old.nodes.items is.placed) shape

    more_nodes : length (shapes_of new) ≡ length (shapes_of old) + 1
    more_nodes = ap length all ∙ length_push (shapes_of old) s

-- a node that is no variable leaves the variables' nodes as they are
pub entered_other : (old new : Arena) (more : List ℕ) (node : Node) (s : Shape) → IsArena old → new.arguments.items ≡ old.arguments.items ++ more → new.nodes.items ≡ old.nodes.items ++ node ∷ []
    → IsPlaced (length new.arguments.items) node → shape_of new.arguments.items node ≡ s → HasArgumentsBelow (length (shapes_of old)) s → arity s ≤ length more
    → ((x : ℕ) → node_of new x ≡ node_of old x) → ((x : ℕ) → s ≡ variable x → ⊥) → IsNode old new s (length old.nodes.items)
entered_other old new more node s is args nodes at shape lower short same no_variable =
    entered old new more node s is args nodes at shape lower short (λ x n h. inl (sym (same x) ∙ h)) (λ x n h. same x ∙ h) (λ x e. elim (no_variable x e) [ ])

pub at_other : (x q : ℕ) → (x ≡ q → ⊥) → is_at (nat_cmp x) q ≡ false
at_other x q h = grind (arith, nat_tests)

-- a node's tree is what is seen there
pub tree_seen : (shapes : List Shape) → AreInPostorder shapes → (n : ℕ) → n < length shapes → tree_at shapes n ≡ seen (tree_at shapes) (shape_at shapes n)
tree_seen shapes post n h = by [] shapes refl (λ k g. elim (nothing k g) [ ]) n h
  where
    nothing : (k : ℕ) → k < 0 → ⊥
    nothing k g = omega arith

    Seen : ℕ → Type 0
    Seen n = tree_at shapes n ≡ seen (tree_at shapes) (shape_at shapes n)

    next : (front behind : List Shape) (s : Shape) → front ++ s ∷ behind ≡ shapes → Seen (length front)
    next front behind s e =
        let whole : (front ++ s ∷ []) ++ behind ≡ shapes = append_assoc front (s ∷ []) behind ∙ e in
        let short : length front < length (front ++ s ∷ []) = omega (arith, length_push front s) in
        let within : length front < length shapes = let d : length shapes ≡ length front + length (s ∷ behind) = ap length (sym e) ∙ length-append front (s ∷ behind) in omega (arith, d) in
        let at : shape_at shapes (length front) ≡ s = ap (λ l. shape_at l (length front)) (sym e) ∙ get_or_at front s behind (variable 0) (length front) refl in
        let below : HasArgumentsBelow (length front) s = subst (HasArgumentsBelow (length front)) at (post (length front) within) in
        ap (λ l. tree_at l (length front)) (sym whole) ∙ tree_front (front ++ s ∷ []) behind (length front) short ∙ tree_last front s
        ∙ same_seen (tree_at front) (tree_at shapes) (length front) (λ k g. sym (tree_front front (s ∷ behind) k g) ∙ ap (λ l. tree_at l k) e) s below
        ∙ ap (seen (tree_at shapes)) (sym at)

    by : (front behind : List Shape) → front ++ behind ≡ shapes → ((k : ℕ) → k < length front → Seen k) → (n : ℕ) → n < length shapes → Seen n
    by front [] e before n h = before n (subst (λ l. n < length l) (sym e ∙ append-nil front) h)
    by front (s ∷ behind) e before n h =
        by (front ++ s ∷ []) behind (append_assoc front (s ∷ []) behind ∙ e)
        (λ k g. elim (cases_lt k (length front)) [
          | inl l ↦ before k l
          | inr m ↦ let i : length front ≡ k = omega (arith, m, g, length_push front s) in subst Seen i (next front behind s e)
        ]) n h

-- nothing is put in
pub nodes_none : (a : Arena) (front : List ℕ) → IsArena a → AreNodes a a front front []
nodes_none a front is = record { arena = is; grows = grows_refl (shapes_of a); added = []; numbers = sym (append-nil front); within = tt; trees = refl }

-- a term more
pub nodes_next : (a b c : Arena) (front mid all : List ℕ) (ts : List Tree) (t : Tree) → AreNodes a b front mid ts → AreNodes b c mid all (t ∷ []) → AreNodes a c front all (ts ++ t ∷ [])
nodes_next a b c front mid all ts t p q = record {
  arena = q.arena;
  grows = grows_on (shapes_of a) (shapes_of b) (shapes_of c) p.grows q.grows;
  added = p.added ++ q.added;
  numbers = q.numbers ∙ ap (λ l. l ++ q.added) p.numbers ∙ append_assoc front p.added q.added;
  within = below_append (length (shapes_of c)) p.added q.added (below_more (length (shapes_of b)) (length (shapes_of c)) (grows_length (shapes_of b) (shapes_of c) q.grows) p.added p.within) q.within;
  trees = map-append (tree_at (shapes_of c)) p.added q.added
      ∙ ap₂ (λ (us vs : List Tree). us ++ vs) (trees_grow (shapes_of b) (shapes_of c) q.grows p.added p.within ∙ p.trees) q.trees;
}

-- a node that is no application
pub leaf_node : (a b : Arena) (front all : List ℕ) (s : Shape) (n : ℕ) (t : Tree) → IsNode a b s n → all ≡ front ++ n ∷ [] → seen (tree_at (shapes_of b)) s ≡ t → AreNodes a b front all (t ∷ [])
leaf_node a b front all s n t is e same = record {
  arena = is.arena;
  grows = is.grows;
  added = n ∷ [];
  numbers = e;
  within = (is.within, tt);
  trees = ap (λ u. u ∷ []) (tree_seen (shapes_of b) is.arena.postorder n is.within ∙ ap (seen (tree_at (shapes_of b))) is.shape ∙ same);
}

-- an application of terms that have nodes
pub application_node : (a b c : Arena) (front mid all : List ℕ) (f : ℕ) (ts us : List Tree) → AreNodes a b front mid ts → ts ≡ us → IsApplied b c f (length front) mid all → AreNodes a c front all (app f (trees_of us) ∷ [])
application_node a b c front mid all f ts us p same q =
    let rest : drop (length front) mid ≡ p.added = ap (drop (length front)) p.numbers ∙ drop_at front p.added (length front) refl in
    let start : take (length front) mid ≡ front = ap (take (length front)) p.numbers ∙ take_at front p.added (length front) refl in
    leaf_node a c front all (application f (drop (length front) mid)) q.number (app f (trees_of us))
    (record { arena = q.node.arena; grows = grows_on (shapes_of a) (shapes_of b) (shapes_of c) p.grows q.node.grows; within = q.node.within; shape = q.node.shape })
    (q.numbers ∙ ap (λ l. l ++ q.number ∷ []) start)
    (ap (λ l. app f (trees_of l)) (ap (map (tree_at (shapes_of c))) rest ∙ trees_grow (shapes_of b) (shapes_of c) q.node.grows p.added p.within ∙ p.trees ∙ same))

-- what is put in can be applied to
pub can_apply : (a b : Arena) (front mid : List ℕ) (ts : List Tree) → AreNodes a b front mid ts → (length front ≤ length mid) × AreBelow (length (shapes_of b)) (drop (length front) mid)
can_apply a b front mid ts p =
    let e : length mid ≡ length front + length p.added = ap length p.numbers ∙ length-append front p.added in
    (omega (arith, e), subst (AreBelow (length (shapes_of b))) (sym (ap (drop (length front)) p.numbers ∙ drop_at front p.added (length front) refl)) p.within)

-- what is made of the trees of terms, one more
pub made_next : (f : Tree → Tree) (ts : List Term) (i : ℕ) (t : Term) → i < length ts → t ≡ slice_index_or ts i t → map (λ u. f (tree_of u)) (take i ts) ++ f (tree_of t) ∷ [] ≡ map (λ u. f (tree_of u)) (take (i + 1) ts)
made_next f ts i t h e = ap (λ u. map (λ v. f (tree_of v)) (take i ts) ++ f (tree_of u) ∷ []) e ∙ sym (map_more (λ u. f (tree_of u)) ts i t h)

-- and the trees
pub trees_next : (ts : List Term) (i : ℕ) (t : Term) → i < length ts → t ≡ slice_index_or ts i t → tree_list (take i ts) ++ tree_of t ∷ [] ≡ tree_list (take (i + 1) ts)
trees_next ts i t h e = ap (λ u. tree_list (take i ts) ++ tree_of u ∷ []) e ∙ sym (map_more tree_of ts i t h)

-- what stands at a node
pub node_shape : (args : List ℕ) (nodes : List Node) (n : ℕ) (x : Node) → n < length (map (shape_of args) nodes) → x ≡ slice_index_or nodes n x → shape_of args x ≡ shape_at (map (shape_of args) nodes) n
node_shape args nodes n x h e =
    let inside : n < length nodes = omega (arith, h, length-map nodes (shape_of args)) in
    ap (shape_of args) e ∙ sym (get_or-map (shape_of args) nodes n x (variable 0) inside)

pub node_placed : (m : ℕ) (args : List ℕ) (nodes : List Node) (n : ℕ) (x : Node) → ArePlaced m nodes → n < length (map (shape_of args) nodes) → x ≡ slice_index_or nodes n x → IsPlaced m x
node_placed m args nodes n x p h e =
    let inside : n < length nodes = omega (arith, h, length-map nodes (shape_of args)) in
    subst (IsPlaced m) (sym e) (placed_at m nodes p n x inside)

-- arguments that stand behind the others
pub application_shape : (old more new : List ℕ) (f first count : ℕ) → new ≡ old ++ more → length old ≡ first → length more ≡ count → shape_of new (Application f first count) ≡ application f more
application_shape old more new f first count e h n =
    ap (λ l. shape_of l (Application f first count)) e ∙ ap (λ l. application f (take count l)) (drop_at old more first h) ∙ ap (application f) (take_all count more (omega (arith, n)))

pub application_placed : (old more new : List ℕ) (f first count : ℕ) → new ≡ old ++ more → length old ≡ first → length more ≡ count → IsPlaced (length new) (Application f first count)
application_placed old more new f first count e h n =
    let l : length new ≡ length old + length more = ap length e ∙ length-append old more in
    let fits : first + count ≤ length new = omega (arith, l, h, n) in fits

pub no_application : (f : ℕ) (ks : List ℕ) (x : ℕ) → application f ks ≡ variable x → ⊥
no_application f ks x e = cc

pub no_element : (k x : ℕ) → element k ≡ variable x → ⊥
no_element k x e = cc

-- a variable that had no node
pub variable_entered : (old new : Arena) (node : Node) (x : ℕ) → IsArena old → new.arguments.items ≡ old.arguments.items → new.nodes.items ≡ old.nodes.items ++ node ∷ [] → IsPlaced (length new.arguments.items) node → shape_of new.arguments.items node ≡ variable x → node_of old x ≡ None → node_of new x ≡ Some (length old.nodes.items)
    → ((q : ℕ) → is_at (nat_cmp x) q ≡ false → node_of new q ≡ node_of old q) → IsNode old new (variable x) (length old.nodes.items)
variable_entered old new node x is args nodes at shape absent here others =
    entered old new [] node (variable x) is (args ∙ sym (append-nil old.arguments.items)) nodes at shape tt (omega arith)
    (λ y n h. elim (cases_eq x y) [
      | inl e ↦ inr (place n (sym (ap (node_of new) (sym e) ∙ here) ∙ h) ∙ sym many, ap variable e)
      | inr d ↦ inl (sym (others y (at_other x y d)) ∙ h)
    ])
    (λ y n h. elim (cases_eq x y) [
      | inl e ↦ elim (nothing n (sym absent ∙ ap (node_of old) e ∙ h)) [ ]
      | inr d ↦ others y (at_other x y d) ∙ h
    ])
    (λ y e. ap (node_of new) (sym (same x y e)) ∙ here ∙ ap Some (sym many))
  where
    many : length (shapes_of old) ≡ length old.nodes.items
    many = length-map old.nodes.items (shape_of old.arguments.items)

    place : (n : ℕ) → Some (length old.nodes.items) ≡ Some n → n ≡ length old.nodes.items
    place n e = cc

    nothing : (n : ℕ) → None ≡ Some n → ⊥
    nothing n e = cc

    same : (x y : ℕ) → variable x ≡ variable y → x ≡ y
    same x y e = cc
