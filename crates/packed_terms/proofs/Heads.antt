-- Terms are built of their heads.
use Rattle.std.proofs.Common.{◌≡◌, refl, sym, ap, ap₂, ◌∙◌, List, [], ◌∷◌, ◌++◌, length, take, drop, append_assoc, append-nil}
use Rattle.std.proofs.Math.Seq.{take-append_seam, drop-append_seam}
use Rattle.fol_core.specs.Tree.{Tree, var, elem, app, Trees, none, more, list_of, trees_of}
use Rattle.packed_terms.specs.Heads.{heads, all_heads}
use Rattle.packed_terms.specs.Building.{built, term_of, first_of, AreHeads}
use Rattle.packed_terms.specs.declared.head.Head.{Head}

pub list_back : (ts : List Tree) → list_of (trees_of ts) ≡ ts
list_back [] = refl
list_back (t ∷ ts) = ap (λ us. t ∷ us) (list_back ts)

trees_back : (ts : Trees) → trees_of (list_of ts) ≡ ts
trees_back none = refl
trees_back (more t ts) = ap (λ us. more t us) (trees_back ts)

-- a term's heads come to the terms as the term
mutual
  pub heads_built : (t : Tree) (hs : List Head) → built (heads t ++ hs) ≡ t ∷ built hs
  heads_built (var x) hs = refl
  heads_built (elem k) hs = refl
  heads_built (app f ts) hs =
      let n = length (list_of ts) in
      ap (λ (us : List Tree). app f (trees_of (take n us)) ∷ drop n us) (all_built ts hs)
      ∙ ap₂ (λ (us vs : List Tree). app f (trees_of us) ∷ vs) (take-append_seam (list_of ts) (built hs)) (drop-append_seam (list_of ts) (built hs))
      ∙ ap (λ us. app f us ∷ built hs) (trees_back ts)

  all_built : (ts : Trees) (hs : List Head) → built (all_heads ts ++ hs) ≡ list_of ts ++ built hs
  all_built none hs = refl
  all_built (more t ts) hs =
      ap built (append_assoc (heads t) (all_heads ts) hs)
      ∙ heads_built t (all_heads ts ++ hs)
      ∙ ap (λ us. t ∷ us) (all_built ts hs)

pub term_back : (t : Tree) → term_of (heads t) ≡ t
term_back t = ap term_of (sym (append-nil (heads t))) ∙ ap first_of (heads_built t [])

-- what are the heads of a term are just those of one term, and it's that
pub term_told : (t : Tree) (hs : List Head) → hs ≡ heads t → term_of hs ≡ t
term_told t hs is = ap term_of is ∙ term_back t

pub are_told : (t : Tree) (hs : List Head) → hs ≡ heads t → AreHeads hs
are_told t hs is = is ∙ ap heads (sym (term_told t hs is))
