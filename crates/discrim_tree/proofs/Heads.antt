-- Along the heads of packed terms.
use Rattle.std.proofs.Common.{◌≡◌, ℕ, zero, suc, ◌+◌, ◌<◌, refl, sym, ap, ap₂, ◌∙◌, subst, List, [], ◌∷◌, ◌++◌, map, Some, None, drop, length, slice_get, arith}
use Rattle.std.proofs.lemmas.List.{map-append}
use Rattle.std.proofs.lemmas.Option.{get_or_from_slice_get, slice_get_within}
use Rattle.fol_core.specs.Tree.{Tree, var, elem, app, Trees, none, more}
use Rattle.packed_terms.specs.Heads.{first_head, heads, all_heads}
use Rattle.packed_terms.specs.declared.head.Head.{Head}
use Rattle.discrim_tree.specs.Nodes.{Store, child, Grows, Reaches}
use Rattle.discrim_tree.specs.Paths.{edge_of, path_of, paths_of}
use Rattle.discrim_tree.specs.declared.edge.Edge.{Edge}
use Rattle.discrim_tree.proofs.Finding.{drop_next}
use Rattle.discrim_tree.proofs.NodeSteps.{none_some, some_same}

-- ---- the steps of the heads are those of the path

mutual
  pub heads_are_steps : (t : Tree) → map edge_of (heads t) ≡ path_of t
  heads_are_steps (var x) = refl
  heads_are_steps (elem k) = refl
  heads_are_steps (app f ts) = ap (λ (p : List Edge). edge_of (first_head (app f ts)) ∷ p) (all_steps ts)

  all_steps : (ts : Trees) → map edge_of (all_heads ts) ≡ paths_of ts
  all_steps none = refl
  all_steps (more t ts) = map-append edge_of (heads t) (all_heads ts) ∙ ap₂ (λ (p q : List Edge). p ++ q) (heads_are_steps t) (all_steps ts)

-- ---- a step further

head_next : (hs : List Head) (i : ℕ) (h : Head) → slice_get hs i ≡ Some h → drop i hs ≡ h ∷ drop (i + 1) hs
head_next hs i h is = drop_next hs i h (slice_get_within hs i h is) ∙ ap (λ (g : Head). g ∷ drop (i + 1) hs) (get_or_from_slice_get hs i h h is)

pub head_there : (hs : List Head) (i : ℕ) → i < length hs → slice_get hs i ≡ None → ⊥
head_there [] i lt is = absurd (omega (arith, lt))
head_there (h ∷ hs) zero lt is = none_some h (sym is)
head_there (h ∷ hs) (suc i) lt is = head_there hs i (omega (arith, lt)) is

module _ (nodes fewer : Store) (hs : List Head) (i at n : ℕ) (h : Head) where
  -- a step leads to the node where it leads, unless the branch was taken away
  pub head_taken : (k : ℕ) → slice_get hs i ≡ Some h → Grows fewer nodes → child nodes at (edge_of h) ≡ Some k
      → Reaches fewer at (map edge_of (drop i hs)) n → Reaches fewer k (map edge_of (drop (i + 1) hs)) n
  head_taken k is g c r =
      let there = subst (λ (gs : List Head). Reaches fewer at (map edge_of gs) n) (head_next hs i h is) r in
      let same : there.0 ≡ k = some_same there.0 k (sym (g.0 at (edge_of h) there.0 there.1) ∙ c) in
      subst (λ j. Reaches fewer j (map edge_of (drop (i + 1) hs)) n) same there.2

  -- and to nothing where there is none
  pub head_barred : slice_get hs i ≡ Some h → Grows fewer nodes → child nodes at (edge_of h) ≡ None → Reaches fewer at (map edge_of (drop i hs)) n → ⊥
  head_barred is g c r =
      let there = subst (λ (gs : List Head). Reaches fewer at (map edge_of gs) n) (head_next hs i h is) r in
      none_some there.0 (sym c ∙ g.0 at (edge_of h) there.0 there.1)
