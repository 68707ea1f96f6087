-- Steps of unpacking.
use Rattle.std.proofs.Common.{◌≡◌, ℕ, zero, suc, ◌+◌, ◌-◌, ◌<◌, refl, sym, ap, ap₂, ◌∙◌, List, [], ◌∷◌, ◌++◌, Some, None, take, drop, slice_get, arith, append_assoc}
use Rattle.std.proofs.lemmas.List.{reverse-append}
use Rattle.fol_core.specs.Tree.{Tree}
use Rattle.fol_core.specs.TermView.{tree_of, tree_list}
use Rattle.fol_core.specs.declared.term.Term.{Term}
use Rattle.packed_terms.specs.Building.{built, from_top, with_head}
use Rattle.packed_terms.specs.declared.head.Head.{Head}

-- ---- heads, from the last one to the first

next_built : (hs : List Head) (i : ℕ) (h : Head) → slice_get hs i ≡ Some h → built (drop i hs) ≡ with_head h (built (drop (suc i) hs))
next_built [] i h is = cc
next_built (g ∷ hs) zero h is = ap (λ (f : Head). with_head f (built hs)) (cc)
next_built (g ∷ hs) (suc i) h is = next_built hs i h is

none_built : (hs : List Head) (i : ℕ) → slice_get hs i ≡ None → built (drop i hs) ≡ built (drop (suc i) hs)
none_built [] zero is = refl
none_built [] (suc i) is = refl
none_built (g ∷ hs) zero is = cc
none_built (g ∷ hs) (suc i) is = none_built hs i is

pub head_built : (hs : List Head) (i j : ℕ) (h : Head) (old new : List Tree) → i ≡ suc j → old ≡ built (drop i hs) → slice_get hs j ≡ Some h → new ≡ with_head h old → new ≡ built (drop j hs)
head_built hs i j h old new one was is so = so ∙ ap (with_head h) (was ∙ ap (λ k. built (drop k hs)) one) ∙ sym (next_built hs j h is)

pub head_missing : (hs : List Head) (i j : ℕ) (old : List Tree) → i ≡ suc j → old ≡ built (drop i hs) → slice_get hs j ≡ None → old ≡ built (drop j hs)
head_missing hs i j old one was is = was ∙ ap (λ k. built (drop k hs)) one ∙ sym (none_built hs j is)

-- ---- terms from the top

pub from_top_more : (ts : List Term) (t : Term) → from_top (ts ++ t ∷ []) ≡ tree_of t ∷ from_top ts
from_top_more ts t = ap tree_list (reverse-append ts (t ∷ []))

pub taken_next : (count i : ℕ) → i < count → (done made : List Tree) (t : Tree) (old new all : List Tree) → old ≡ t ∷ new → made ≡ done ++ t ∷ []
    → done ++ take (count - i) old ≡ all → made ++ take (count - (i + 1)) new ≡ all
taken_next count i lt done made t old new all top one so =
    let less : count - i ≡ suc (count - (i + 1)) = omega arith in
    ap (λ (us : List Tree). us ++ take (count - (i + 1)) new) one
    ∙ append_assoc done (t ∷ []) (take (count - (i + 1)) new)
    ∙ ap₂ (λ (n : ℕ) (us : List Tree). done ++ take n us) (sym less) (sym top)
    ∙ so

pub left_next : (count i : ℕ) → i < count → (t : Tree) (old new all : List Tree) → old ≡ t ∷ new → drop (count - i) old ≡ all → drop (count - (i + 1)) new ≡ all
left_next count i lt t old new all top so =
    let less : count - i ≡ suc (count - (i + 1)) = omega arith in
    ap₂ (λ (n : ℕ) (us : List Tree). drop n us) (sym less) (sym top) ∙ so
