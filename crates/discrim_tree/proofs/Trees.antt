-- Trees, as they change.
use Rattle.std.proofs.Common.{◌≡◌, ℕ, suc, ◌+◌, ◌<◌, ◌⊎◌, Bool, true, false, IsTrue, inl, inr, refl, sym, ap, ap₂, subst, ◌∙◌, List, [], ◌∷◌, ◌++◌, Some, None, Option, is_some, Result, Ok, Err, IfOk, OnErr, length, take, drop, drop-cons, get_or, arith, append_assoc, append-nil, length-append}
use Rattle.std.specs.Ordering.{is_eq}
use Rattle.std.proofs.lemmas.Bool.{cases_eq}
use Rattle.slab.specs.Slab.{get, ContainsKey, Updates}
use Rattle.fol_core.specs.Tree.{Tree}
use Rattle.discrim_tree.specs.Contents.{target}
use Rattle.discrim_tree.specs.Nodes.{Store, edge_cmp, branch, child, IsIn, Holds, Reaches, Grows, Ends, EndsFrom, KeepsOthers, KeepsPaths, IsEmptyAt}
use Rattle.discrim_tree.specs.Paths.{step_of, arguments, path_of, steps_of}
use Rattle.discrim_tree.specs.Trees.{link_of, AllUsed, AllUsedBut, ComesOnly, IsAlike, IsBranched, IsFresh, IsFull, IsOneMore, IsRenumbered, IsSame, IsTree, IsUsed, Leads}
use Rattle.discrim_tree.specs.declared.edge.Edge.{Edge}
use Rattle.discrim_tree.specs.declared.nodes.Node.{Node}
use Rattle.discrim_tree.proofs.Finding.{take_next}
use Rattle.discrim_tree.proofs.Paths.{path_begins}
use Rattle.discrim_tree.proofs.NodeSteps.{is_same, same_as_itself, some_same, none_some, child_none, child_same, held_same, none_held, there_with, vacant_link, link_none, link_same, child_by, held_by, link_by}

-- ---- paths from node to node

edge_cases : (x y : Edge) → (x ≡ y) ⊎ (x ≡ y → ⊥)
edge_cases x y = by (is_eq (edge_cmp x y)) refl
  where
    by : (b : Bool) → is_eq (edge_cmp x y) ≡ b → (x ≡ y) ⊎ (x ≡ y → ⊥)
    by true e = inl (is_same x y e)
    by false e = inr (λ s. let bad : true ≡ false = sym (ap is_eq (ap (edge_cmp x) (sym s) ∙ same_as_itself x)) ∙ e in cc)

branch_cases : (a at : ℕ) (e edge : Edge) → ((a ≡ at) × (e ≡ edge)) ⊎ ((a ≡ at) × (e ≡ edge) → ⊥)
branch_cases a at e edge = elim (cases_eq a at) [
  | inl s ↦ elim (edge_cases e edge) [ inl t ↦ inl (s, t) | inr t ↦ inr (λ p. t p.1) ]
  | inr s ↦ inr (λ p. s p.0)
]

pub leads_on : (old new : Store) → ((a : ℕ) (e : Edge) (k : ℕ) → child old a e ≡ Some k → child new a e ≡ Some k) → (at : ℕ) (path : List Edge) (to : ℕ) → Leads old at path to → Leads new at path to
leads_on old new bs at [] to h = h
leads_on old new bs at (e ∷ path) to h = (h.0, bs at e h.0 h.1, leads_on old new bs h.0 path to h.2)

pub leads_joined : (nodes : Store) (a : ℕ) (p : List Edge) (b : ℕ) (q : List Edge) (c : ℕ) → Leads nodes a p b → Leads nodes b q c → Leads nodes a (p ++ q) c
leads_joined nodes a [] b q c h g = subst (λ x. Leads nodes x q c) (sym h) g
leads_joined nodes a (e ∷ p) b q c h g = (h.0, h.1, leads_joined nodes h.0 p b q c h.2 g)

pub leads_step : (nodes : Store) (a : ℕ) (p : List Edge) (b : ℕ) (e : Edge) (k : ℕ) → Leads nodes a p b → child nodes b e ≡ Some k → Leads nodes a (p ++ e ∷ []) k
leads_step nodes a p b e k h is = leads_joined nodes a p b (e ∷ []) k h (k, is, refl)

pub leads_next : (nodes : Store) (a : ℕ) (p : List Edge) (i : ℕ) (d : Edge) (b k : ℕ) → i < length p → Leads nodes a (take i p) b → child nodes b (get_or p i d) ≡ Some k → Leads nodes a (take (i + 1) p) k
leads_next nodes a p i d b k lt h is = subst (λ q. Leads nodes a q k) (sym (take_next p i d lt)) (leads_step nodes a (take i p) b (get_or p i d) k h is)

pub reaches_joined : (nodes : Store) (a : ℕ) (p : List Edge) (b : ℕ) (q : List Edge) (n : ℕ) → Leads nodes a p b → Reaches nodes b q n → Reaches nodes a (p ++ q) n
reaches_joined nodes a [] b q n h g = subst (λ x. Reaches nodes x q n) (sym h) g
reaches_joined nodes a (e ∷ p) b q n h g = (h.0, h.1, reaches_joined nodes h.0 p b q n h.2 g)

pub reaches_end : (nodes : Store) (a : ℕ) (p : List Edge) (b n : ℕ) → Leads nodes a p b → Holds nodes b n → Reaches nodes a p n
reaches_end nodes a [] b n h g = subst (λ x. Holds nodes x n) (sym h) g
reaches_end nodes a (e ∷ p) b n h g = (h.0, h.1, reaches_end nodes h.0 p b n h.2 g)

-- a path to a number leads through a node at each step
pub reaches_parted : (nodes : Store) (a : ℕ) (p q : List Edge) (n : ℕ) → Reaches nodes a (p ++ q) n → (b : ℕ) × Leads nodes a p b × Reaches nodes b q n
reaches_parted nodes a [] q n h = (a, refl, h)
reaches_parted nodes a (e ∷ p) q n h = let rest = reaches_parted nodes h.0 p q n h.2 in (rest.0, (h.0, h.1, rest.1), rest.2)

-- ---- one path to each node

-- the steps from the root to a node, the last one first
abbrev Up : Store → ℕ → List Edge → Type 0
Up nodes k [] = k ≡ 0
Up nodes k (e ∷ steps) = (a : ℕ) × (child nodes a e ≡ Some k) × Up nodes a steps

-- the steps of a path, the last one first, before others
abbrev backwards : List Edge → List Edge → List Edge
backwards [] steps = steps
backwards (e ∷ p) steps = backwards p (e ∷ steps)

backwards_twice : (p q r : List Edge) → backwards (backwards p q) r ≡ backwards q (p ++ r)
backwards_twice [] q r = refl
backwards_twice (e ∷ p) q r = backwards_twice p (e ∷ q) r

up_along : (nodes : Store) (a : ℕ) (p : List Edge) (k : ℕ) (steps : List Edge) → Leads nodes a p k → Up nodes a steps → Up nodes k (backwards p steps)
up_along nodes a [] k steps h u = subst (λ x. Up nodes x steps) h u
up_along nodes a (e ∷ p) k steps h u = up_along nodes h.0 p k (e ∷ steps) h.2 (a, h.1, u)

up_once : (nodes : Store) → IsTree nodes → (k : ℕ) (p q : List Edge) → Up nodes k p → Up nodes k q → p ≡ q
up_once nodes tree k [] [] g h = refl
up_once nodes tree k [] (e ∷ q) g h = absurd (tree.below h.0 e k h.1 g)
up_once nodes tree k (d ∷ p) [] g h = absurd (tree.below g.0 d k g.1 h)
up_once nodes tree k (d ∷ p) (e ∷ q) g h =
    let above : g.0 ≡ h.0 = some_same g.0 h.0 (sym (tree.linked g.0 d k g.1) ∙ tree.linked h.0 e k h.1) in
    let step : d ≡ e = tree.once h.0 d e k (subst (λ x. child nodes x d ≡ Some k) above g.1) h.1 in
    ap₂ (λ (x : Edge) (xs : List Edge). x ∷ xs) step (up_once nodes tree h.0 p q (subst (λ x. Up nodes x p) above g.2) h.2)

-- distinct paths lead to distinct nodes
pub one_path : (nodes : Store) → IsTree nodes → (k : ℕ) (p q : List Edge) → Leads nodes 0 p k → Leads nodes 0 q k → p ≡ q
one_path nodes tree k p q g h =
    let same : backwards p [] ≡ backwards q [] = up_once nodes tree k (backwards p []) (backwards q []) (up_along nodes 0 p k [] g refl) (up_along nodes 0 q k [] h refl) in
    sym (append-nil p) ∙ sym (backwards_twice p [] []) ∙ ap (λ s. backwards s []) same ∙ backwards_twice q [] [] ∙ append-nil q

-- and a path to one node
pub one_end : (nodes : Store) (a : ℕ) (p : List Edge) (j k : ℕ) → Leads nodes a p j → Leads nodes a p k → j ≡ k
one_end nodes a [] j k g h = sym g ∙ h
one_end nodes a (e ∷ p) j k g h = one_end nodes h.0 p j k (subst (λ x. Leads nodes x p j) (some_same g.0 h.0 (sym g.1 ∙ h.1)) g.2) h.2

-- no path leads from a node back to it
no_cycle : (nodes : Store) → IsTree nodes → (k above : ℕ) (e : Edge) (j : ℕ) (q : List Edge) → link_of nodes k ≡ Some above → child nodes k e ≡ Some j → Leads nodes j q k → ⊥
no_cycle nodes tree k above e j q is step back =
    let p = tree.reached k above is in
    let same : p.0 ≡ p.0 ++ e ∷ q = one_path nodes tree k p.0 (p.0 ++ e ∷ q) p.1 (leads_joined nodes 0 p.0 k (e ∷ q) k p.1 (j, step, back)) in
    omega (arith, ap length same, length-append p.0 (e ∷ q))

-- ---- nothing changes

paths_to : (old new : Store) (n : ℕ) → ((a : ℕ) (e : Edge) (k : ℕ) → child old a e ≡ Some k → child new a e ≡ Some k) → ((a : ℕ) → Holds old a n → Holds new a n)
    → (at : ℕ) (path : List Edge) → Reaches old at path n → Reaches new at path n
paths_to old new n bs ns at [] h = ns at h
paths_to old new n bs ns at (e ∷ path) h = (h.0, bs at e h.0 h.1, paths_to old new n bs ns h.0 path h.2)

pub paths_grown : (old new : Store) → Grows old new → KeepsPaths old new
paths_grown old new g at path n h = paths_to old new n g.0 (λ a. g.1 a n) at path h

pub grows_on : (a b c : Store) → Grows a b → Grows b c → Grows a c
grows_on a b c f g = (λ at e k h. g.0 at e k (f.0 at e k h), λ at n h. g.1 at n (f.1 at n h))

pub nothing_lost : (nodes : Store) → Grows nodes nodes
nothing_lost nodes = (λ at e k h. h, λ at n h. h)

pub paths_on : (a b c : Store) → KeepsPaths a b → KeepsPaths b c → KeepsPaths a c
paths_on a b c f g at path n h = g at path n (f at path n h)

pub alike_on : (a b c : Store) → IsAlike a b → IsAlike b c → IsAlike a c
alike_on a b c f g = record { stay = paths_on a b c f.stay g.stay; came = paths_on c b a g.came f.came; tree = λ t. g.tree (f.tree t) }

pub alike_itself : (nodes : Store) → IsAlike nodes nodes
alike_itself nodes = record { stay = λ a p n h. h; came = λ a p n h. h; tree = λ t. t }

-- the branches and links are those of before
tree_kept : (old new : Store) → ((a : ℕ) (e : Edge) → child new a e ≡ child old a e) → ((k : ℕ) → link_of new k ≡ link_of old k)
    → (link_of new 0 ≡ None → (new.vacant_key ≡ 0) × ((k : ℕ) → link_of new k ≡ None)) → IsTree old → IsTree new
tree_kept old new branches links root tree = record {
  rooted = root;
  reached = λ k above is.
      let p = tree.reached k above (sym (links k) ∙ is) in
      (p.0, leads_on old new (λ a e j h. branches a e ∙ h) 0 p.0 k p.1);
  linked = λ at e k is. links k ∙ tree.linked at e k (sym (branches at e) ∙ is);
  below = λ at e k is. tree.below at e k (sym (branches at e) ∙ is);
  once = λ at d e k f g. tree.once at d e k (sym (branches at d) ∙ f) (sym (branches at e) ∙ g);
}

pub same_tree : (old new : Store) → IsSame old new → IsTree old → IsTree new
same_tree old new same tree =
    tree_kept old new same.branches same.links (λ none.
    let root = tree.rooted (sym (same.links 0) ∙ none) in
    (same.next ∙ root.0, λ k. same.links k ∙ root.1 k)) tree

pub same_grows : (old new : Store) → IsSame old new → Grows old new
same_grows old new same = (λ a e k h. same.branches a e ∙ h, same.numbers)

pub same_back : (old new : Store) → IsSame old new → Grows new old
same_back old new same = (λ a e k h. sym (same.branches a e) ∙ h, same.back)

pub same_alike : (old new : Store) → IsSame old new → IsAlike old new
same_alike old new same = record {
  stay = paths_grown old new (same_grows old new same);
  came = paths_grown new old (same_back old new same);
  tree = same_tree old new same;
}

used_grown : (old new : Store) (k : ℕ) → Grows old new → IsUsed old k → IsUsed new k
used_grown old new k g h = (h.0, h.1, paths_grown old new g k h.0 h.1 h.2)

pub same_used : (at : ℕ) (old new : Store) → IsSame old new → AllUsedBut at old → AllUsedBut at new
same_used at old new same so k above some is = elim (so k above some (sym (same.links k) ∙ is)) [
  | inl h ↦ inl (used_grown old new k (same_grows old new same) h)
  | inr h ↦ inr (h.0, leads_on old new (same_grows old new same).0 k h.0 at h.1)
]

pub all_used_same : (old new : Store) → IsSame old new → AllUsed old → AllUsed new
all_used_same old new same so k above some is = used_grown old new k (same_grows old new same) (so k above some (sym (same.links k) ∙ is))

-- a node came and went
pub same_after : (above k : ℕ) (a b c d : Store) → IsFresh above k a b → IsSame b c → Updates c d k None → d.vacant_key ≡ k → IsSame a d
same_after above k a b c d fresh same out key = record {
  branches = λ x e. elim (cases_eq x k) [
    | inl s ↦ subst (λ y. child d y e ≡ child a y e) (sym s) (child_none d k e out.changed ∙ sym (child_none a k e fresh.vacant))
    | inr s ↦ child_same c d x e (out.others x s) ∙ same.branches x e ∙ child_same a b x e (fresh.updates.others x s)
  ];
  numbers = λ x n h. elim (cases_eq x k) [
    | inl s ↦ absurd (none_held a k n fresh.vacant (subst (λ y. Holds a y n) s h))
    | inr s ↦ held_same c d x n (out.others x s) (same.numbers x n (held_same a b x n (fresh.updates.others x s) h))
  ];
  back = λ x n h. elim (cases_eq x k) [
    | inl s ↦ absurd (none_held d k n out.changed (subst (λ y. Holds d y n) s h))
    | inr s ↦ held_same b a x n (sym (fresh.updates.others x s)) (same.back x n (held_same d c x n (sym (out.others x s)) h))
  ];
  links = λ x. elim (cases_eq x k) [
    | inl s ↦ subst (λ y. link_of d y ≡ link_of a y) (sym s) (link_none d k out.changed ∙ sym (link_none a k fresh.vacant))
    | inr s ↦ link_same c d x (out.others x s) ∙ same.links x ∙ link_same a b x (fresh.updates.others x s)
  ];
  next = key ∙ fresh.key;
}

-- ---- an empty node more

-- an empty node is under a key, and a branch leads to it: the node of the branch has another key
apart_from_empty : (nodes : Store) (at : ℕ) (edge : Edge) (k j : ℕ) → child nodes at edge ≡ Some j → IsEmptyAt nodes k → at ≡ k → ⊥
apart_from_empty nodes at edge k j is empty s = empty.1 edge j (subst (λ x. child nodes x edge ≡ Some j) s is)

nothing_at : (nodes : Store) (k : ℕ) (e : Edge) → ((j : ℕ) → child nodes k e ≡ Some j → ⊥) → child nodes k e ≡ None
nothing_at nodes k e h = by (child nodes k e) refl
  where
    by : (o : Option ℕ) → child nodes k e ≡ o → child nodes k e ≡ None
    by None s = s
    by (Some j) s = absurd (h j s)

-- the nodes of before, the node without its branch, and with it
pub one_more : (at : ℕ) (edge : Edge) (k above : ℕ) (less mid more : Store) → link_of less at ≡ Some above → get less k ≡ None → ((j : ℕ) → (j ≡ k → ⊥) → get mid j ≡ get less j) → IsBranched at edge mid more
    → IsEmptyAt more k → child more at edge ≡ Some k → child less at edge ≡ None → IsOneMore at edge k less more
one_more at edge k above less mid more there vacant same branched empty hung cut = record {
  above = above;
  there = there;
  vacant = link_none less k vacant;
  empty = empty;
  hung = hung;
  cut = cut;
  others = λ a e apart. elim (cases_eq a k) [
    | inl s ↦
        subst (λ x. child more x e ≡ child less x e) (sym s)
        (nothing_at more k e (λ j. empty.1 e j) ∙ sym (child_none less k e vacant))
    | inr s ↦ branched.others a e apart ∙ child_same less mid a e (same a s)
  ];
  numbers = λ a n h. elim (cases_eq a k) [
    | inl s ↦ absurd (none_held less k n vacant (subst (λ x. Holds less x n) s h))
    | inr s ↦ branched.numbers a n (held_same less mid a n (same a s) h)
  ];
  back = λ a n h. elim (cases_eq a k) [
    | inl s ↦ absurd (empty.0 n (subst (λ x. Holds more x n) s h))
    | inr s ↦ held_same mid less a n (sym (same a s)) (branched.back a n h)
  ];
  links = λ j s. branched.links j ∙ link_same less mid j (same j s);
}

pub unbranched : (at : ℕ) (edge : Edge) (old new : Store) → IsBranched at edge old new → IsBranched at edge new old
unbranched at edge old new b = record {
  was = b.was;
  there = b.links at ∙ b.there;
  others = λ a e apart. sym (b.others a e apart);
  numbers = b.back;
  back = b.numbers;
  links = λ k. sym (b.links k);
}

-- a new node gets a branch
pub grown_more : (at : ℕ) (edge : Edge) (k above : ℕ) (less mid more : Store) → link_of less at ≡ Some above → child less at edge ≡ None → IsFresh at k less mid → IsBranched at edge mid more → child more at edge ≡ Some k
    → IsOneMore at edge k less more × (link_of more k ≡ Some at)
grown_more at edge k above less mid more there none fresh branched hung =
    let apart : at ≡ k → ⊥ = λ s. vacant_link less k above fresh.vacant (subst (λ x. link_of less x ≡ Some above) s there) in (
      one_more at edge k above less mid more there fresh.vacant fresh.updates.others branched (
        λ n h. subst (λ xs. IsIn n xs) fresh.bare (held_by mid k n fresh.node fresh.updates.changed (branched.back k n h)),
        λ e j h. nothing e j (sym (child_by mid k e fresh.node fresh.updates.changed) ∙ sym (branched.others k e (λ p. apart (sym p.0))) ∙ h),
      ) hung none,
      branched.links k ∙ link_by mid k fresh.node fresh.updates.changed ∙ ap Some fresh.link,
    )
  where
    nothing : (e : Edge) (j : ℕ) → branch fresh.node e ≡ Some j → ⊥
    nothing e j h = none_some j (sym (ap (λ bs. target bs e) fresh.plain) ∙ h)

-- an empty node loses its branch, and goes
pub pruned_less : (at : ℕ) (edge : Edge) (k : ℕ) (more mid less : Store) → child more at edge ≡ Some k → IsEmptyAt more k → IsBranched at edge more mid → child mid at edge ≡ None → Updates mid less k None → IsOneMore at edge k less more
pruned_less at edge k more mid less hung empty branched cut out =
    let apart = apart_from_empty more at edge k k hung empty in
    one_more at edge k branched.was less mid more
    (link_same mid less at (out.others at apart) ∙ branched.links at ∙ branched.there)
    out.changed (λ j s. sym (out.others j s)) (unbranched at edge more mid branched) empty hung
    (child_same mid less at edge (out.others at apart) ∙ cut)

module _ (at : ℕ) (edge : Edge) (k : ℕ) (less more : Store) (one : IsOneMore at edge k less more) where
  -- a branch leads to the node, or was there
  from_less : (a : ℕ) (e : Edge) (j : ℕ) → child more a e ≡ Some j → ((a ≡ at) × (e ≡ edge) × (j ≡ k)) ⊎ (child less a e ≡ Some j)
  from_less a e j is = elim (branch_cases a at e edge) [
    | inl p ↦
        let there = subst (λ y. child more at y ≡ Some j) p.1 (subst (λ x. child more x e ≡ Some j) p.0 is) in
        inl (p.0, p.1, some_same j k (sym there ∙ one.hung))
    | inr p ↦ inr (sym (one.others a e p) ∙ is)
  ]

  pub more_grows : Grows less more
  more_grows = (
    λ a e j is. elim (branch_cases a at e edge) [
      | inl p ↦
          let there = subst (λ y. child less at y ≡ Some j) p.1 (subst (λ x. child less x e ≡ Some j) p.0 is) in
          absurd (none_some j (sym one.cut ∙ there))
      | inr p ↦ one.others a e p ∙ is
    ],
    one.numbers,
  )

  nothing_below : (j : ℕ) (path : List Edge) (n : ℕ) → j ≡ k → Reaches more j path n → ⊥
  nothing_below j [] n s h = one.empty.0 n (subst (λ x. Holds more x n) s h)
  nothing_below j (e ∷ path) n s h = one.empty.1 e h.0 (subst (λ x. child more x e ≡ Some h.0) s h.1)

  pub paths_less : KeepsPaths more less
  paths_less a [] n h = one.back a n h
  paths_less a (e ∷ path) n h = elim (from_less a e h.0 h.1) [
    | inl p ↦ absurd (nothing_below h.0 path n p.2 h.2)
    | inr f ↦ (h.0, f, paths_less h.0 path n h.2)
  ]

  leads_less : (a : ℕ) (path : List Edge) (j : ℕ) → (j ≡ k → ⊥) → Leads more a path j → Leads less a path j
  leads_less a [] j ne h = h
  leads_less a (e ∷ path) j ne h = elim (from_less a e h.0 h.1) [
    | inl p ↦ absurd (nowhere h.0 path p.2 h.2)
    | inr f ↦ (h.0, f, leads_less h.0 path j ne h.2)
  ]
    where
      nowhere : (x : ℕ) (q : List Edge) → x ≡ k → Leads more x q j → ⊥
      nowhere x [] s g = ne (sym g ∙ s)
      nowhere x (d ∷ q) s g = one.empty.1 d g.0 (subst (λ y. child more y d ≡ Some g.0) s g.1)

  not_above : at ≡ k → ⊥
  not_above s = none_some one.above (sym one.vacant ∙ subst (λ x. link_of less x ≡ Some one.above) s one.there)

  not_vacant : (j above : ℕ) → link_of less j ≡ Some above → j ≡ k → ⊥
  not_vacant j above is s = none_some above (sym one.vacant ∙ subst (λ x. link_of less x ≡ Some above) s is)

  root_there : IsTree less → link_of less 0 ≡ None → ⊥
  root_there tree none = none_some one.above (sym ((tree.rooted none).1 at) ∙ one.there)

  pub tree_more : link_of more k ≡ Some at → IsTree less → IsTree more
  tree_more link tree = record {
    rooted = λ none. elim (cases_eq 0 k) [
      | inl s ↦ absurd (none_some at (sym (subst (λ x. link_of more x ≡ None) s none) ∙ link))
      | inr s ↦ absurd (root_there tree (sym (one.links 0 s) ∙ none))
    ];
    reached = λ j above is. elim (cases_eq j k) [
      | inl s ↦
          let p = tree.reached at one.above one.there in (
            p.0 ++ edge ∷ [],
            subst (λ x. Leads more 0 (p.0 ++ edge ∷ []) x) (sym s)
                (leads_step more 0 p.0 at edge k (leads_on less more more_grows.0 0 p.0 at p.1) one.hung),
          )
      | inr s ↦
          let p = tree.reached j above (sym (one.links j s) ∙ is) in
          (p.0, leads_on less more more_grows.0 0 p.0 j p.1)
    ];
    linked = λ a e j is. elim (from_less a e j is) [
      | inl p ↦ subst (λ x. link_of more j ≡ Some x) (sym p.0) (subst (λ x. link_of more x ≡ Some at) (sym p.2) link)
      | inr f ↦
          let was = tree.linked a e j f in
          one.links j (not_vacant j a was) ∙ was
    ];
    below = λ a e j is root. elim (from_less a e j is) [
      | inl p ↦ root_there tree (subst (λ x. link_of less x ≡ None) (sym p.2 ∙ root) one.vacant)
      | inr f ↦ tree.below a e j f root
    ];
    once = λ a d e j f g. elim (from_less a d j f) [
      | inl p ↦ elim (from_less a e j g) [
        | inl q ↦ p.1 ∙ sym q.1
        | inr q ↦ absurd (not_vacant j a (tree.linked a e j q) p.2)
      ]
      | inr p ↦ elim (from_less a e j g) [
        | inl q ↦ absurd (not_vacant j a (tree.linked a d j p) q.2)
        | inr q ↦ tree.once a d e j p q
      ]
    ];
  }

  pub tree_less : IsTree more → IsTree less
  tree_less tree = record {
    rooted = λ none. elim (cases_eq 0 k) [
      | inl s ↦ absurd (tree.below at edge k one.hung (sym s))
      | inr s ↦
          let all = tree.rooted (one.links 0 s ∙ none) in
          absurd (none_some one.above (sym (all.1 at) ∙ one.links at not_above ∙ one.there))
    ];
    reached = λ j above is.
        let ne = not_vacant j above is in
        let p = tree.reached j above (one.links j ne ∙ is) in
        (p.0, leads_less 0 p.0 j ne p.1);
    linked = λ a e j is.
        let was = tree.linked a e j (more_grows.0 a e j is) in
        let ne : j ≡ k → ⊥ = (λ s. hung_once tree a e j is s) in
        sym (one.links j ne) ∙ was;
    below = λ a e j is. tree.below a e j (more_grows.0 a e j is);
    once = λ a d e j f g. tree.once a d e j (more_grows.0 a d j f) (more_grows.0 a e j g);
  }
    where
      hung_once : IsTree more → (a : ℕ) (e : Edge) (j : ℕ) → child less a e ≡ Some j → j ≡ k → ⊥
      hung_once t a e j is s =
          let there = subst (λ x. child more a e ≡ Some x) s (more_grows.0 a e j is) in
          let above : a ≡ at = some_same a at (sym (t.linked a e k there) ∙ t.linked at edge k one.hung) in
          let step : e ≡ edge = t.once at e edge k (subst (λ x. child more x e ≡ Some k) above there) one.hung in
          none_some j (sym one.cut ∙ subst (λ y. child less at y ≡ Some j) step (subst (λ x. child less x e ≡ Some j) above is))

  pub more_alike : link_of more k ≡ Some at → IsAlike less more
  more_alike link = record { stay = paths_grown less more more_grows; came = paths_less; tree = tree_more link }

  pub less_alike : IsAlike more less
  less_alike = record { stay = paths_less; came = paths_grown less more more_grows; tree = tree_less }

  pub used_more : AllUsedBut at less → AllUsedBut k more
  used_more so j above some is = elim (cases_eq j k) [
    | inl s ↦ inr ([], s)
    | inr s ↦ elim (so j above some (sym (one.links j s) ∙ is)) [
      | inl h ↦ inl (used_grown less more j more_grows h)
      | inr h ↦ inr (h.0 ++ edge ∷ [], leads_step more j h.0 at edge k (leads_on less more more_grows.0 j h.0 at h.1) one.hung)
    ]
  ]

  leads_above : IsTree less → (j : ℕ) (path : List Edge) → (j ≡ k → ⊥) → Leads more j path k → (q : List Edge) × Leads less j q at
  leads_above tree j [] ne h = absurd (ne h)
  leads_above tree j (e ∷ path) ne h = elim (from_less j e h.0 h.1) [
    | inl p ↦ ([], p.0)
    | inr f ↦
        let rest = leads_above tree h.0 path (not_vacant h.0 j (tree.linked j e h.0 f)) h.2 in
        (e ∷ rest.0, (h.0, f, rest.1))
  ]

  pub used_less : IsTree more → AllUsedBut k more → AllUsedBut at less
  used_less tree so j above some is =
      let ne = not_vacant j above is in
      elim (so j above some (one.links j ne ∙ is)) [
        | inl h ↦ inl (h.0, h.1, paths_less j h.0 h.1 h.2)
        | inr h ↦ inr (leads_above (tree_less tree) j h.0 ne h.1)
      ]

-- ---- numbers come and go

-- a node that leads to a number is used, and so is each that leads to it
used_full : (nodes : Store) (k above : ℕ) → IsTree nodes → link_of nodes k ≡ Some above → IsFull nodes k → AllUsedBut k nodes → AllUsed nodes
used_full nodes k above tree link full so j up some is = elim (so j up some is) [
  | inl h ↦ h
  | inr h ↦ let end = here full in (h.0 ++ end.0, end.1, reaches_joined nodes j h.0 k end.0 end.1 h.1 end.2)
]
  where
    here : IsFull nodes k → IsUsed nodes k
    here (inl h) = ([], h.0, h.1)
    here (inr h) = elim (so h.1 k (λ s. tree.below k h.0 h.1 h.2 s) (tree.linked k h.0 h.1 h.2)) [
      | inl u ↦ (h.0 ∷ u.0, u.1, (h.1, h.2, u.2))
      | inr u ↦ absurd (no_cycle nodes tree k above h.0 h.1 u.0 link h.2 u.1)
    ]

last_child : (nodes : Store) (x : ℕ) (e : Edge) (p : List Edge) (to : ℕ) → Leads nodes x (e ∷ p) to → (b : ℕ) × (d : Edge) × (child nodes b d ≡ Some to)
last_child nodes x e [] to h = (x, e, h.1 ∙ ap Some h.2)
last_child nodes x e (d ∷ p) to h = last_child nodes h.0 d p to h.2

-- where only nodes that lead to one may be without use, and no branch leads to that one, none is
pub used_unhung : (nodes : Store) (at : ℕ) → IsTree nodes → ((a : ℕ) (e : Edge) → child nodes a e ≡ Some at → ⊥) → AllUsedBut at nodes → AllUsed nodes
used_unhung nodes at tree none so k above some is = elim (so k above some is) [
  | inl h ↦ h
  | inr h ↦ absurd (nowhere h.0 h.1)
]
  where
    hung : k ≡ at → (p : List Edge) → Leads nodes 0 p k → ⊥
    hung s [] g = some (sym g)
    hung s (e ∷ p) g = let last = last_child nodes 0 e p k g in none last.0 last.1 (last.2 ∙ ap Some s)

    nowhere : (p : List Edge) → Leads nodes k p at → ⊥
    nowhere [] s = let way = tree.reached k above is in hung s way.0 way.1
    nowhere (e ∷ p) g = let last = last_child nodes k e p at g in none last.0 last.1 last.2

-- nor is one where that one isn't there, or has a number or a branch
pub used_unlinked : (nodes : Store) (at : ℕ) → IsTree nodes → link_of nodes at ≡ None → AllUsedBut at nodes → AllUsed nodes
used_unlinked nodes at tree none so = used_unhung nodes at tree (λ a e is. none_some a (sym none ∙ tree.linked a e at is)) so

pub used_filled : (nodes : Store) (at : ℕ) → IsTree nodes → (ContainsKey nodes at → IsFull nodes at) → AllUsedBut at nodes → AllUsed nodes
used_filled nodes at tree full so = by (get nodes at) refl
  where
    by : (o : Option Node) → get nodes at ≡ o → AllUsed nodes
    by None s = used_unlinked nodes at tree (link_none nodes at s) so
    by (Some node) s = used_full nodes at node.link tree (link_by nodes at node s) (full (ap is_some s)) so

-- or where no step leads to it from the node above
pub used_apart : (nodes : Store) (at above : ℕ) → IsTree nodes → link_of nodes at ≡ Some above → ((e : Edge) → child nodes above e ≡ Some at → ⊥) → AllUsedBut at nodes → AllUsed nodes
used_apart nodes at above tree link none so = used_unhung nodes at tree unhung so
  where
    unhung : (a : ℕ) (e : Edge) → child nodes a e ≡ Some at → ⊥
    unhung a e is =
        let same : a ≡ above = some_same a above (sym (tree.linked a e at is) ∙ link) in
        none e (subst (λ x. child nodes x e ≡ Some at) same is)

pub used_all : (nodes : Store) (at : ℕ) → AllUsed nodes → AllUsedBut at nodes
used_all nodes at so k above some is = inl (so k above some is)

-- a node behind a branch that was there
pub used_on : (nodes : Store) (at : ℕ) (edge : Edge) (k : ℕ) → child nodes at edge ≡ Some k → AllUsedBut at nodes → AllUsedBut k nodes
used_on nodes at edge k is so j above some there = elim (so j above some there) [
  | inl h ↦ inl h
  | inr h ↦ inr (h.0 ++ edge ∷ [], leads_step nodes j h.0 at edge k h.1 is)
]

module _ (at : ℕ) (old new : Store) (so : IsRenumbered at old new) where
  pub renumbered_leads : (a : ℕ) (e : Edge) (k : ℕ) → child old a e ≡ Some k → child new a e ≡ Some k
  renumbered_leads a e k h = so.branches a e ∙ h

  pub renumbered_tree : IsTree old → IsTree new
  renumbered_tree tree =
      tree_kept old new so.branches so.links
      (λ none. absurd (none_some so.was (sym ((tree.rooted (sym (so.links 0) ∙ none)).1 at) ∙ so.there))) tree

  pub renumbered_grows : ((n : ℕ) → Holds old at n → Holds new at n) → Grows old new
  renumbered_grows kept = (
    renumbered_leads,
    λ a n h. elim (cases_eq a at) [
      | inl s ↦ subst (λ x. Holds new x n) (sym s) (kept n (subst (λ x. Holds old x n) s h))
      | inr s ↦ so.numbers a n s h
    ],
  )

  pub used_noted : (number : ℕ) → ((n : ℕ) → Holds old at n → Holds new at n) → Holds new at number → AllUsedBut at old → AllUsed new
  used_noted number kept noted all k above some is = elim (all k above some (sym (so.links k) ∙ is)) [
    | inl h ↦ used_grown old new k (renumbered_grows kept) h
    | inr h ↦ (h.0, number, reaches_end new k h.0 at number (leads_on old new renumbered_leads k h.0 at h.1) noted)
  ]

  noted_there : (number : ℕ) → ((n : ℕ) → Holds new at n → Holds old at n ⊎ (n ≡ number)) → (a : ℕ) (p : List Edge) (m : ℕ) → Reaches new a p m → Reaches old a p m ⊎ (Leads old a p at × (m ≡ number))
  noted_there number only a [] m h = elim (cases_eq a at) [
    | inl s ↦ elim (only m (subst (λ x. Holds new x m) s h)) [
      | inl g ↦ inl (subst (λ x. Holds old x m) (sym s) g)
      | inr g ↦ inr (s, g)
    ]
    | inr s ↦ inl (so.back a m s h)
  ]
  noted_there number only a (e ∷ p) m h =
      let is = sym (so.branches a e) ∙ h.1 in
      elim (noted_there number only h.0 p m h.2) [
        | inl g ↦ inl (h.0, is, g)
        | inr g ↦ inr ((h.0, is, g.0), g.1)
      ]

  pub noted_only : (number : ℕ) (path : List Edge) → IsTree old → Leads old 0 path at → ((n : ℕ) → Holds new at n → Holds old at n ⊎ (n ≡ number)) → ComesOnly path number old new
  noted_only number path tree leads only p m h = elim (noted_there number only 0 p m h) [
    | inl g ↦ inl g
    | inr g ↦ inr (one_path old tree at p path g.0 leads, g.1)
  ]

  -- a number that went stood at the node
  forgotten_there : (a : ℕ) (p : List Edge) (m : ℕ) → Reaches old a p m → Reaches new a p m ⊎ Leads new a p at
  forgotten_there a [] m h = elim (cases_eq a at) [
    | inl s ↦ inr s
    | inr s ↦ inl (so.numbers a m s h)
  ]
  forgotten_there a (e ∷ p) m h = elim (forgotten_there h.0 p m h.2) [
    | inl g ↦ inl (h.0, renumbered_leads a e h.0 h.1, g)
    | inr g ↦ inr (h.0, renumbered_leads a e h.0 h.1, g)
  ]

  pub used_forgotten : AllUsed old → AllUsedBut at new
  used_forgotten all k above some is =
      let u = all k above some (sym (so.links k) ∙ is) in
      elim (forgotten_there k u.0 u.1 u.2) [
        | inl g ↦ inl (u.0, u.1, g)
        | inr g ↦ inr (u.0, g)
      ]

  pub renumbered_others : (number : ℕ) → ((n : ℕ) → (n ≡ number → ⊥) → Holds old at n → Holds new at n) → KeepsOthers number old new
  renumbered_others number kept a p m ne h = paths_to old new m renumbered_leads (λ x g. elim (cases_eq x at) [
    | inl s ↦ subst (λ y. Holds new y m) (sym s) (kept m ne (subst (λ y. Holds old y m) s g))
    | inr s ↦ so.numbers x m s g
  ]) a p h

  pub renumbered_fewer : ((n : ℕ) → Holds new at n → Holds old at n) → Grows new old
  renumbered_fewer fewer = (
    λ a e k h. sym (so.branches a e) ∙ h,
    λ a n h. elim (cases_eq a at) [
      | inl s ↦ subst (λ x. Holds old x n) (sym s) (fewer n (subst (λ x. Holds new x n) s h))
      | inr s ↦ so.back a n s h
    ],
  )

-- ---- the root comes

pub fresh_alike : (above k : ℕ) (old new : Store) → IsFresh above k old new → get old 0 ≡ None → IsAlike old new
fresh_alike above k old new fresh none = record {
  stay = paths_grown old new (
    (λ a e j h. elim (cases_eq a k) [
      | inl s ↦ absurd (none_some j (sym (child_none old k e fresh.vacant) ∙ subst (λ x. child old x e ≡ Some j) s h))
      | inr s ↦ child_same old new a e (fresh.updates.others a s) ∙ h
    ]),
    (λ a n h. elim (cases_eq a k) [
      | inl s ↦ absurd (none_held old k n fresh.vacant (subst (λ x. Holds old x n) s h))
      | inr s ↦ held_same old new a n (fresh.updates.others a s) h
    ]),
  );
  came = paths_grown new old (
    (λ a e j h. by a e j h),
    (λ a n h. elim (cases_eq a k) [
      | inl s ↦ absurd (subst (λ xs. IsIn n xs) fresh.bare (held_by new k n fresh.node fresh.updates.changed (subst (λ x. Holds new x n) s h)))
      | inr s ↦ held_same new old a n (sym (fresh.updates.others a s)) h
    ]),
  );
  tree = λ tree. planted tree;
}
  where
    by : (a : ℕ) (e : Edge) (j : ℕ) → child new a e ≡ Some j → child old a e ≡ Some j
    by a e j h = elim (cases_eq a k) [
      | inl s ↦
          absurd (none_some j (sym (ap (λ bs. target bs e) fresh.plain) ∙ sym (child_by new k e fresh.node fresh.updates.changed)
          ∙ subst (λ x. child new x e ≡ Some j) s h))
      | inr s ↦ sym (child_same old new a e (fresh.updates.others a s)) ∙ h
    ]

    planted : IsTree old → IsTree new
    planted t =
        let root = t.rooted (link_none old 0 none) in
        let key : k ≡ 0 = fresh.key ∙ root.0 in
        let no_branch : (a : ℕ) (e : Edge) (j : ℕ) → child new a e ≡ Some j → ⊥ = (λ a e j h.
        let was = there_with old a e j (by a e j h) in none_some was.0 (sym (root.1 a) ∙ was.1)) in
        record {
          rooted = λ gone. absurd (none_some fresh.node.link (sym (subst (λ x. link_of new x ≡ None) (sym key) gone) ∙ link_by new k fresh.node fresh.updates.changed));
          reached = λ j up is. elim (cases_eq j k) [
            | inl s ↦ ([], sym (s ∙ key))
            | inr s ↦ absurd (none_some up (sym (link_same old new j (fresh.updates.others j s) ∙ root.1 j) ∙ is))
          ];
          linked = λ a e j h. absurd (no_branch a e j h);
          below = λ a e j h s. no_branch a e j h;
          once = λ a d e j h g. absurd (no_branch a d j h);
        }

pub fresh_used : (above k : ℕ) (old new : Store) → IsFresh above k old new → get old 0 ≡ None → IsTree old → AllUsed new
fresh_used above k old new fresh none t j up some is =
    let root = t.rooted (link_none old 0 none) in
    elim (cases_eq j k) [
      | inl s ↦ absurd (some (s ∙ fresh.key ∙ root.0))
      | inr s ↦ absurd (none_some up (sym (link_same old new j (fresh.updates.others j s) ∙ root.1 j) ∙ is))
    ]

-- ---- the end of a path

-- a path that goes on leads through the node behind its next step, also where some are taken away
pub step_taken : (nodes fewer : Store) (path : List Edge) (i : ℕ) (d : Edge) (at k n : ℕ) → i < length path → Grows fewer nodes → child nodes at (get_or path i d) ≡ Some k
    → Reaches fewer at (drop i path) n → Reaches fewer k (drop (i + 1) path) n
step_taken nodes fewer path i d at k n lt g c r =
    let next : suc i ≡ i + 1 = omega arith in
    let there = subst (λ p. Reaches fewer at p n) (drop-cons path i d lt) r in
    let same : there.0 ≡ k = some_same there.0 k (sym (g.0 at (get_or path i d) there.0 there.1) ∙ c) in
    subst (λ j. Reaches fewer j (drop (i + 1) path) n) same (subst (λ j. Reaches fewer there.0 (drop j path) n) next there.2)

-- and to nothing where there is none
pub none_taken : (nodes fewer : Store) (path : List Edge) (i : ℕ) (d : Edge) (at n : ℕ) → i < length path → Grows fewer nodes → child nodes at (get_or path i d) ≡ None
    → Reaches fewer at (drop i path) n → ⊥
none_taken nodes fewer path i d at n lt g c r =
    let there = subst (λ p. Reaches fewer at p n) (drop-cons path i d lt) r in
    none_some there.0 (sym c ∙ g.0 at (get_or path i d) there.0 there.1)

-- along a term's path: by its first step, and then by its arguments
pub term_entered : (nodes fewer : Store) (at k : ℕ) (t : Tree) (path : List Edge) (n : ℕ) → Grows fewer nodes → child nodes at (step_of t) ≡ Some k → Reaches fewer at (path_of t ++ path) n
    → Reaches fewer k (steps_of (arguments t) ++ path) n
term_entered nodes fewer at k t path n g c r =
    let there = subst (λ (p : List Edge). Reaches fewer at (p ++ path) n) (path_begins t) r in
    let same : there.0 ≡ k = some_same there.0 k (sym (g.0 at (step_of t) there.0 there.1) ∙ c) in
    subst (λ j. Reaches fewer j (steps_of (arguments t) ++ path) n) same there.2

pub term_barred : (nodes fewer : Store) (at : ℕ) (t : Tree) (path : List Edge) (n : ℕ) → Grows fewer nodes → child nodes at (step_of t) ≡ None → Reaches fewer at (path_of t ++ path) n → ⊥
term_barred nodes fewer at t path n g c r =
    let there = subst (λ (p : List Edge). Reaches fewer at (p ++ path) n) (path_begins t) r in
    none_some there.0 (sym c ∙ g.0 at (step_of t) there.0 there.1)

pub argument_next : (fewer : Store) (k n : ℕ) (t : Tree) (all ts : List Tree) (path : List Edge) → all ≡ t ∷ ts → Reaches fewer k (steps_of all ++ path) n → Reaches fewer k (path_of t ++ (steps_of ts ++ path)) n
argument_next fewer k n t all ts path is r =
    subst (λ (p : List Edge). Reaches fewer k p n) (append_assoc (path_of t) (steps_of ts) path)
    (subst (λ us. Reaches fewer k (steps_of us ++ path) n) is r)

pub arguments_done : (fewer : Store) (k n : ℕ) (ts : List Tree) (path : List Edge) → ts ≡ [] → Reaches fewer k (steps_of ts ++ path) n → Reaches fewer k path n
arguments_done fewer k n ts path is r = subst (λ us. Reaches fewer k (steps_of us ++ path) n) is r

pub ends_whole : (nodes : Store) (path : List Edge) (end : Option ℕ) → EndsFrom nodes 0 path end → Ends nodes path end
ends_whole nodes path None so fewer n g r = so fewer [] n g (subst (λ p. Reaches fewer 0 p n) (sym (append-nil path)) r)
ends_whole nodes path (Some k) so fewer n g r = so fewer [] n g (subst (λ p. Reaches fewer 0 p n) (sym (append-nil path)) r)

-- ---- what a function answers

-- a node more, or want of memory
module _ {E : Type 0} (at : ℕ) (edge : Edge) (old new : Store) where
  pub entered_alike : (r : Result ℕ E) → IfOk r (λ k. IsOneMore at edge k old new) → IfOk r (λ k. link_of new k ≡ Some at) → OnErr r (IsSame old new) → IsAlike old new
  entered_alike (Ok k) more link same = more_alike at edge k old new more link
  entered_alike (Err e) more link same = same_alike old new same

  pub entered_used : (r : Result ℕ E) → IfOk r (λ k. IsOneMore at edge k old new) → IfOk r (λ k. AllUsedBut at old → AllUsedBut k new)
  entered_used (Ok k) more = used_more at edge k old new more
  entered_used (Err e) more = tt

  pub entered_err : (r : Result ℕ E) → OnErr r (IsSame old new) → OnErr r (AllUsedBut at old → AllUsedBut at new)
  entered_err (Ok k) same = tt
  entered_err (Err e) same = same_used at old new same

-- a node that isn't told to be there is not
pub not_there : (nodes : Store) (k : ℕ) (b : Bool) → (ContainsKey nodes k → IsTrue b) → b ≡ false → get nodes k ≡ None
not_there nodes k b h untold = by (get nodes k) refl
  where
    by : (o : Option Node) → get nodes k ≡ o → get nodes k ≡ None
    by None s = s
    by (Some node) s = let bad : true ≡ false = sym (h (ap is_some s)) ∙ untold in cc

pub key_with : (nodes : Store) (at : ℕ) (e : Edge) (k : ℕ) → child nodes at e ≡ Some k → ContainsKey nodes at
key_with nodes at e k is = by (get nodes at) refl
  where
    by : (o : Option Node) → get nodes at ≡ o → ContainsKey nodes at
    by None s = absurd (none_some k (sym (child_none nodes at e s) ∙ is))
    by (Some node) s = ap is_some s

pub key_linked : (nodes : Store) (k above : ℕ) → link_of nodes k ≡ Some above → ContainsKey nodes k
key_linked nodes k above is = by (get nodes k) refl
  where
    by : (o : Option Node) → get nodes k ≡ o → ContainsKey nodes k
    by None s = absurd (none_some above (sym (link_none nodes k s) ∙ is))
    by (Some node) s = ap is_some s

-- ---- no nodes

pub empty_tree : (nodes : Store) → ((k : ℕ) → get nodes k ≡ None) → nodes.vacant_key ≡ 0 → IsTree nodes
empty_tree nodes none key = record {
  rooted = λ gone. (key, λ k. link_none nodes k (none k));
  reached = λ k above is. absurd (vacant_link nodes k above (none k) is);
  linked = λ at e k is. absurd (none_some k (sym (child_none nodes at e (none at)) ∙ is));
  below = λ at e k is root. none_some k (sym (child_none nodes at e (none at)) ∙ is);
  once = λ at d e k f g. absurd (none_some k (sym (child_none nodes at d (none at)) ∙ f));
}

pub empty_used : (nodes : Store) → ((k : ℕ) → get nodes k ≡ None) → AllUsed nodes
empty_used nodes none k above some is = absurd (vacant_link nodes k above (none k) is)
