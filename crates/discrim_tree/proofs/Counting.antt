-- As many nodes as distinct beginnings.
use Rattle.std.proofs.Common.{◌≡◌, ℕ, zero, suc, ◌+◌, ◌-◌, ◌≤◌, ◌⊎◌, ◌&&◌, ◌||◌, Bool, true, false, cond, inl, inr, refl, sym, ap, ap₂, subst, ◌∙◌, List, [], ◌∷◌, ◌++◌, map, Some, None, Option, is_some, count_by, length, get_or, arith}
use Rattle.std.specs.Ordering.{is_eq}
use Rattle.std.specs.Set.{is_member, unique_keys}
use Rattle.std.proofs.lemmas.Bool.{cases_eq}
use Rattle.std.proofs.lemmas.List.Sums.{sum_by-cons}
use Rattle.slab.specs.Slab.{get, slab_len}
use Rattle.discrim_tree.specs.Beginnings.{is_same_path, beginnings, all_beginnings, count_beginnings}
use Rattle.discrim_tree.specs.Entries.{Indexed}
use Rattle.discrim_tree.specs.Nodes.{Store, edge_cmp, Reaches}
use Rattle.discrim_tree.specs.Paths.{path_of}
use Rattle.discrim_tree.specs.Seeking.{AreOnly, AreReached, IsEntry}
use Rattle.discrim_tree.specs.Trees.{AllUsed, IsTree, Leads}
use Rattle.discrim_tree.specs.View.{all_indexed}
use Rattle.discrim_tree.specs.declared.edge.Edge.{Edge}
use Rattle.discrim_tree.specs.declared.entry.IndexEntry.{IndexEntry}
use Rattle.discrim_tree.specs.declared.nodes.Node.{Node}
use Rattle.discrim_tree.proofs.NodeSteps.{is_same, same_as_itself, none_some, link_by, link_none}
use Rattle.discrim_tree.proofs.Trees.{one_end, one_path, reaches_joined, reaches_parted}
use Rattle.discrim_tree.proofs.WalkSteps.{nowhere}

-- ---- what stands in lists

abbrev In : {X : Type 0} → X → List X → Type 0
In x [] = ⊥
In x (y ∷ ys) = (x ≡ y) ⊎ In x ys

abbrev Apart : {X : Type 0} → List X → Type 0
Apart [] = Unit {0}
Apart (x ∷ xs) = (In x xs → ⊥) × Apart xs

in_left : {X : Type 0} (x : X) (xs ys : List X) → In x xs → In x (xs ++ ys)
in_left x [] ys h = absurd h
in_left x (y ∷ xs) ys (inl e) = inl e
in_left x (y ∷ xs) ys (inr h) = inr (in_left x xs ys h)

in_right : {X : Type 0} (x : X) (xs ys : List X) → In x ys → In x (xs ++ ys)
in_right x [] ys h = h
in_right x (y ∷ xs) ys h = inr (in_right x xs ys h)

in_either : {X : Type 0} (x : X) (xs ys : List X) → In x (xs ++ ys) → In x xs ⊎ In x ys
in_either x [] ys h = inr h
in_either x (y ∷ xs) ys (inl e) = inl (inl e)
in_either x (y ∷ xs) ys (inr h) = elim (in_either x xs ys h) [ inl g ↦ inl (inr g) | inr g ↦ inr g ]

in_map : {X Y : Type 0} (f : X → Y) (x : X) (xs : List X) → In x xs → In (f x) (map f xs)
in_map f x [] h = absurd h
in_map f x (y ∷ xs) (inl e) = inl (ap f e)
in_map f x (y ∷ xs) (inr h) = inr (in_map f x xs h)

map_in : {X Y : Type 0} (f : X → Y) (y : Y) (xs : List X) → In y (map f xs) → (x : X) × In x xs × (y ≡ f x)
map_in f y [] h = absurd h
map_in f y (x ∷ xs) (inl e) = (x, inl refl, e)
map_in f y (x ∷ xs) (inr h) = let rest = map_in f y xs h in (rest.0, inr rest.1, rest.2)

-- a list but for one place
without : {X : Type 0} (ys : List X) (b : X) → In b ys → List X
without [] b h = []
without (y ∷ ys) b (inl e) = ys
without (y ∷ ys) b (inr h) = y ∷ without ys b h

length_without : {X : Type 0} (ys : List X) (b : X) (h : In b ys) → length ys ≡ suc (length (without ys b h))
unfolding without
length_without [] b h = absurd h
length_without (y ∷ ys) b (inl e) = refl
length_without (y ∷ ys) b (inr h) = ap suc (length_without ys b h)

in_without : {X : Type 0} (ys : List X) (b c : X) (h : In b ys) → In c ys → (c ≡ b) ⊎ In c (without ys b h)
unfolding without
in_without [] b c h g = absurd h
in_without (y ∷ ys) b c (inl e) (inl d) = inl (d ∙ sym e)
in_without (y ∷ ys) b c (inl e) (inr g) = inr g
in_without (y ∷ ys) b c (inr h) (inl d) = inr (inl d)
in_without (y ∷ ys) b c (inr h) (inr g) = elim (in_without ys b c h g) [ inl s ↦ inl s | inr s ↦ inr (inr s) ]

-- where each of distinct things has a place of its own among some, they are no more than those
places : {X Y : Type 0} (R : X → Y → Type 0) → ((a c : X) (b : Y) → R a b → R c b → a ≡ c) → (xs : List X) (ys : List Y) → Apart xs → ((a : X) → In a xs → (b : Y) × In b ys × R a b) → length xs ≤ length ys
places R one [] ys apart h = omega arith
places R one (x ∷ xs) ys apart h =
    let b = h x (inl refl) in
    let rest = places R one xs (without ys b.0 b.1) apart.1 (λ a i. by a i (h a (inr i))) in
    omega (arith, rest, length_without ys b.0 b.1)
  where
    by : (a : _) → In a xs → (c : _) × In c ys × R a c → (c : _) × In c (without ys (h x (inl refl)).0 (h x (inl refl)).1) × R a c
    by a i c = elim (in_without ys (h x (inl refl)).0 c.0 (h x (inl refl)).1 c.1) [
      | inl s ↦ absurd (apart.0 (subst (λ z. In z xs) (one a x c.0 c.2 (subst (λ z. R x z) (sym s) (h x (inl refl)).2)) i))
      | inr s ↦ (c.0, s, c.2)
    ]

-- ---- paths

same_paths : (p q : List Edge) → is_same_path p q ≡ true → p ≡ q
same_paths [] [] h = refl
same_paths [] (e ∷ q) h = cc
same_paths (d ∷ p) [] h = cc
same_paths (d ∷ p) (e ∷ q) h = by (λ k. same_paths p q k) (is_eq (edge_cmp d e)) refl h
  where
    by : (is_same_path p q ≡ true → p ≡ q) → (b : Bool) → is_eq (edge_cmp d e) ≡ b → (b && is_same_path p q) ≡ true → d ∷ p ≡ e ∷ q
    by rest true s k = ap₂ (λ (x : Edge) (xs : List Edge). x ∷ xs) (is_same d e s) (rest k)
    by rest false s k = cc

path_itself : (p : List Edge) → is_same_path p p ≡ true
path_itself [] = refl
path_itself (e ∷ p) = ap₂ (λ (a b : Bool). a && b) (ap is_eq (same_as_itself e)) (path_itself p)

member_in : (p : List Edge) (ps : List (List Edge)) → is_member is_same_path ps p ≡ true → In p ps
member_in p [] h = cc
member_in p (q ∷ ps) h = by (λ k. member_in p ps k) (is_same_path p q) refl h
  where
    by : (is_member is_same_path ps p ≡ true → In p ps) → (b : Bool) → is_same_path p q ≡ b → (b || is_member is_same_path ps p) ≡ true → In p (q ∷ ps)
    by rest true s k = inl (same_paths p q s)
    by rest false s k = inr (rest k)

in_member : (p : List Edge) (ps : List (List Edge)) → In p ps → is_member is_same_path ps p ≡ true
in_member p [] h = absurd h
in_member p (q ∷ ps) (inl e) = ap (λ b. b || is_member is_same_path ps p) (ap (is_same_path p) (sym e) ∙ path_itself p)
in_member p (q ∷ ps) (inr h) = by (in_member p ps h) (is_same_path p q)
  where
    by : is_member is_same_path ps p ≡ true → (b : Bool) → (b || is_member is_same_path ps p) ≡ true
    by rest true = refl
    by rest false = rest

-- each once
in_unique : (p : List Edge) (ps : List (List Edge)) → In p ps → In p (unique_keys is_same_path ps)
in_unique p [] h = absurd h
in_unique p (q ∷ ps) h = by (λ k. in_unique p ps k) (is_member is_same_path ps q) refl h
  where
    by : (In p ps → In p (unique_keys is_same_path ps)) → (b : Bool) → is_member is_same_path ps q ≡ b → In p (q ∷ ps) → In p (cond b (unique_keys is_same_path ps) (q ∷ unique_keys is_same_path ps))
    by rest true s (inl e) = rest (subst (λ r. In r ps) (sym e) (member_in q ps s))
    by rest true s (inr k) = rest k
    by rest false s (inl e) = inl e
    by rest false s (inr k) = inr (rest k)

unique_in : (p : List Edge) (ps : List (List Edge)) → In p (unique_keys is_same_path ps) → In p ps
unique_in p [] h = absurd h
unique_in p (q ∷ ps) h = by (λ k. unique_in p ps k) (is_member is_same_path ps q) h
  where
    by : (In p (unique_keys is_same_path ps) → In p ps) → (b : Bool) → In p (cond b (unique_keys is_same_path ps) (q ∷ unique_keys is_same_path ps)) → In p (q ∷ ps)
    by rest true k = inr (rest k)
    by rest false (inl e) = inl e
    by rest false (inr k) = inr (rest k)

unique_apart : (ps : List (List Edge)) → Apart (unique_keys is_same_path ps)
unique_apart [] = tt
unique_apart (q ∷ ps) = by (unique_apart ps) (is_member is_same_path ps q) refl
  where
    by : Apart (unique_keys is_same_path ps) → (b : Bool) → is_member is_same_path ps q ≡ b → Apart (cond b (unique_keys is_same_path ps) (q ∷ unique_keys is_same_path ps))
    by rest true s = rest
    by rest false s = ((λ h. let bad : true ≡ false = sym (in_member q ps (unique_in q ps h)) ∙ s in cc), rest)

in_beginnings : (p q : List Edge) → (p ≡ [] → ⊥) → In p (beginnings (p ++ q))
in_beginnings [] q some = absurd (some refl)
in_beginnings (e ∷ []) q some = inl refl
in_beginnings (e ∷ d ∷ p) q some = inr (in_map (λ (r : List Edge). e ∷ r) (d ∷ p) (beginnings (d ∷ (p ++ q))) (in_beginnings (d ∷ p) q (λ s. cc)))

beginnings_in : (p path : List Edge) → In p (beginnings path) → (q : List Edge) × (path ≡ p ++ q)
beginnings_in p [] h = absurd h
beginnings_in p (e ∷ path) (inl s) = (path, ap (λ r. r ++ path) (sym s))
beginnings_in p (e ∷ path) (inr h) =
    let less = map_in (λ (r : List Edge). e ∷ r) p (beginnings path) h in
    let rest = beginnings_in less.0 path less.1 in
    (rest.0, ap (λ r. e ∷ r) rest.1 ∙ ap (λ r. r ++ rest.0) (sym less.2))

no_empty : (path : List Edge) → In [] (beginnings path) → ⊥
no_empty [] h = h
no_empty (e ∷ path) (inl s) = absurd (cc)
no_empty (e ∷ path) (inr h) = let less = map_in (λ (r : List Edge). e ∷ r) [] (beginnings path) h in let bad : [] ≡ e ∷ less.0 = less.2 in absurd (cc)

none_empty : (es : List Indexed) → In [] (all_beginnings es) → ⊥
none_empty [] h = h
none_empty (e ∷ es) h = elim (in_either [] (beginnings (path_of e.tree)) (all_beginnings es) h) [ inl g ↦ no_empty (path_of e.tree) g | inr g ↦ none_empty es g ]

-- ---- keys of nodes

abbrev keys : ℕ → List (Option Node) → List ℕ
keys first [] = []
keys first (None ∷ rest) = keys (suc first) rest
keys first (Some node ∷ rest) = first ∷ keys (suc first) rest

length_keys : (first : ℕ) (slots : List (Option Node)) → length (keys first slots) ≡ count_by is_some slots
length_keys first [] = refl
length_keys first (None ∷ rest) = omega (arith, length_keys (suc first) rest, sum_by-cons (λ (o : Option Node). cond (is_some o) 1 0) None rest)
length_keys first (Some node ∷ rest) = omega (arith, length_keys (suc first) rest, sum_by-cons (λ (o : Option Node). cond (is_some o) 1 0) (Some node) rest)

keys_from : (first : ℕ) (slots : List (Option Node)) (k : ℕ) → In k (keys first slots) → first ≤ k
keys_from first [] k h = absurd h
keys_from first (None ∷ rest) k h = omega (arith, keys_from (suc first) rest k h)
keys_from first (Some node ∷ rest) k (inl e) = omega (arith, e)
keys_from first (Some node ∷ rest) k (inr h) = omega (arith, keys_from (suc first) rest k h)

keys_apart : (first : ℕ) (slots : List (Option Node)) → Apart (keys first slots)
keys_apart first [] = tt
keys_apart first (None ∷ rest) = keys_apart (suc first) rest
keys_apart first (Some node ∷ rest) = ((λ h. omega (arith, keys_from (suc first) rest first h)), keys_apart (suc first) rest)

keys_there : (first : ℕ) (slots : List (Option Node)) (k : ℕ) → In k (keys first slots) → (i : ℕ) × (node : Node) × (k ≡ first + i) × (get_or slots i None ≡ Some node)
keys_there first [] k h = absurd h
keys_there first (None ∷ rest) k h = let there = keys_there (suc first) rest k h in (suc there.0, there.1, omega (arith, there.2), there.3)
keys_there first (Some node ∷ rest) k (inl e) = (0, node, omega (arith, e), refl)
keys_there first (Some node ∷ rest) k (inr h) = let there = keys_there (suc first) rest k h in (suc there.0, there.1, omega (arith, there.2), there.3)

there_keys : (first : ℕ) (slots : List (Option Node)) (i k : ℕ) (node : Node) → get_or slots i None ≡ Some node → k ≡ first + i → In k (keys first slots)
there_keys first [] i k node is at = absurd (none_some node is)
there_keys first (None ∷ rest) zero k node is at = absurd (none_some node is)
there_keys first (None ∷ rest) (suc i) k node is at = there_keys (suc first) rest i k node is (omega (arith, at))
there_keys first (Some other ∷ rest) zero k node is at = inl (omega (arith, at))
there_keys first (Some other ∷ rest) (suc i) k node is at = inr (there_keys (suc first) rest i k node is (omega (arith, at)))

module _ (nodes : Store) where
  key_node : (k : ℕ) → In k (keys 0 nodes.slots) → (node : Node) × (get nodes k ≡ Some node)
  key_node k h =
      let there = keys_there 0 nodes.slots k h in
      let same : k ≡ there.0 = omega (arith, there.2) in
      (there.1, ap (get nodes) same ∙ there.3)

  node_key : (k : ℕ) (node : Node) → get nodes k ≡ Some node → In k (keys 0 nodes.slots)
  node_key k node is = there_keys 0 nodes.slots k k node is (omega arith)

  -- a node from which a number is reached has a key
  reached_key : (k : ℕ) (q : List Edge) (n : ℕ) → Reaches nodes k q n → In k (keys 0 nodes.slots)
  reached_key k q n h = by (get nodes k) refl
    where
      by : (o : Option Node) → get nodes k ≡ o → In k (keys 0 nodes.slots)
      by None s = absurd (nowhere nodes k q n s h)
      by (Some node) s = node_key k node s

  -- a beginning leads to a node
  beginning_leads : (es : List IndexEntry) (p : List Edge) → AreReached nodes es → In p (all_beginnings (all_indexed es)) → (k : ℕ) × In k (keys 0 nodes.slots) × Leads nodes 0 p k
  beginning_leads [] p r h = absurd h
  beginning_leads (e ∷ es) p r h = elim (in_either p (beginnings (path_of e.tree)) (all_beginnings (all_indexed es)) h) [
    | inl g ↦
        let rest = beginnings_in p (path_of e.tree) g in
        let way = reaches_parted nodes 0 p rest.0 e.number (subst (λ (x : List Edge). Reaches nodes 0 x e.number) rest.1 r.0) in
        (way.0, reached_key way.0 rest.0 e.number way.2, way.1)
    | inr g ↦ beginning_leads es p r.1 g
  ]

  entry_begins : (es : List IndexEntry) (p q : List Edge) (n : ℕ) → AreReached nodes es → (p ≡ [] → ⊥) → IsEntry (p ++ q) n es → In p (all_beginnings (all_indexed es))
  entry_begins [] p q n r some h = absurd h
  entry_begins (e ∷ es) p q n r some (inl h) =
      in_left p (beginnings (path_of e.tree)) (all_beginnings (all_indexed es)) (subst (λ (x : List Edge). In p (beginnings x)) h.0 (in_beginnings p q some))
  entry_begins (e ∷ es) p q n r some (inr h) =
      in_right p (beginnings (path_of e.tree)) (all_beginnings (all_indexed es)) (entry_begins es p q n r.1 some h)

  module _ (es : List IndexEntry) (tree : IsTree nodes) (used : AllUsed nodes) (r : AreReached nodes es) (only : AreOnly nodes es) where
    abbrev Ps : List (List Edge)
    Ps = unique_keys is_same_path (all_beginnings (all_indexed es))

    no_more : length Ps ≤ length (keys 0 nodes.slots)
    no_more = places (λ (p : List Edge) (k : ℕ). Leads nodes 0 p k) (λ p q k g h. one_path nodes tree k p q g h) Ps (keys 0 nodes.slots) (unique_apart (all_beginnings (all_indexed es)))
        (λ p h. beginning_leads es p r (unique_in p (all_beginnings (all_indexed es)) h))

    no_more_with_root : (node : Node) → get nodes 0 ≡ Some node → suc (length Ps) ≤ length (keys 0 nodes.slots)
    no_more_with_root node is = places (λ (p : List Edge) (k : ℕ). Leads nodes 0 p k) (λ p q k g h. one_path nodes tree k p q g h) ([] ∷ Ps) (keys 0 nodes.slots)
        ((λ h. none_empty (all_indexed es) (unique_in [] (all_beginnings (all_indexed es)) h)), unique_apart (all_beginnings (all_indexed es)))
        (λ p h. by p h)
      where
        by : (p : List Edge) → In p ([] ∷ Ps) → (k : ℕ) × In k (keys 0 nodes.slots) × Leads nodes 0 p k
        by p (inl s) = (0, node_key 0 node is, subst (λ (x : List Edge). Leads nodes 0 x 0) (sym s) refl)
        by p (inr h) = beginning_leads es p r (unique_in p (all_beginnings (all_indexed es)) h)

    no_fewer : length (keys 0 nodes.slots) ≤ suc (length Ps)
    no_fewer = places (λ (k : ℕ) (p : List Edge). Leads nodes 0 p k) (λ j k p g h. one_end nodes 0 p j k g h) (keys 0 nodes.slots) ([] ∷ Ps) (keys_apart 0 nodes.slots) (λ k h. by k h (cases_eq k 0))
      where
        by : (k : ℕ) → In k (keys 0 nodes.slots) → (k ≡ 0) ⊎ (k ≡ 0 → ⊥) → (p : List Edge) × In p ([] ∷ Ps) × Leads nodes 0 p k
        by k h (inl s) = ([], inl refl, sym s)
        by k h (inr s) =
            let node = key_node k h in
            let link = link_by nodes k node.0 node.1 in
            let way = tree.reached k (node.0).link link in
            let end = used k (node.0).link s link in
            let some : way.0 ≡ [] → ⊥ = (λ e. s (sym (subst (λ (x : List Edge). Leads nodes 0 x k) e way.1))) in (
              way.0,
              inr (in_unique way.0 (all_beginnings (all_indexed es)) (entry_begins es way.0 end.0 end.1 r some
                  (only (way.0 ++ end.0) end.1 (reaches_joined nodes 0 way.0 k end.0 end.1 way.1 end.2)))),
              way.1,
            )

    none_there : get nodes 0 ≡ None → length (keys 0 nodes.slots) ≡ 0
    none_there none = by (keys 0 nodes.slots) (λ k h. h)
      where
        by : (ks : List ℕ) → ((k : ℕ) → In k ks → In k (keys 0 nodes.slots)) → length ks ≡ 0
        by [] f = refl
        by (k ∷ ks) f =
            let node = key_node k (f k (inl refl)) in
            absurd (none_some (node.0).link (sym ((tree.rooted (link_none nodes 0 none)).1 k) ∙ link_by nodes k node.0 node.1))

    pub counted_nodes : slab_len nodes - 1 ≡ count_beginnings (all_indexed es)
    counted_nodes = by (get nodes 0) refl
      where
        by : (o : Option Node) → get nodes 0 ≡ o → slab_len nodes - 1 ≡ count_beginnings (all_indexed es)
        by None s = omega (arith, no_more, none_there s, length_keys 0 nodes.slots)
        by (Some node) s = omega (arith, no_more_with_root node s, no_fewer, length_keys 0 nodes.slots)
