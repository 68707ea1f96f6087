-- The terms of terms that may be replaced, one term after the other.
use Rattle.std.proofs.Common.{◌≡◌, ℕ, ◌+◌, ◌<◌, List, [], ◌∷◌, ◌++◌, length, get_or, flat_map, take, sym, ap, ◌∙◌, append_assoc}
use Rattle.std.proofs.lemmas.Grind.{flat_map-append}
use Rattle.std.proofs.lemmas.List.{append-nil, map-append, take_more}
use Rattle.fol_core.specs.Tree.{Tree, trees_of}
use Rattle.fol_core.specs.TermView.{tree_of, tree_list}
use Rattle.fol_core.specs.declared.term.Term.{Term}
use Rattle.paramod.specs.Partners.{terms_in, terms_among}

among_more : (ts : List Tree) (t : Tree) → terms_among (trees_of (ts ++ t ∷ [])) ≡ terms_among (trees_of ts) ++ terms_in t
among_more [] t = append-nil (terms_in t)
among_more (s ∷ ts) t = ap (λ us. terms_in s ++ us) (among_more ts t) ∙ sym (append_assoc (terms_in s) (terms_among (trees_of ts)) (terms_in t))

-- what comes of one term more
pub among_next : {A : Type 0} (f : Tree → List A) (ts : List Term) (i : ℕ) (t : Term) (old made new : List A) → i < length ts → t ≡ get_or ts i t
    → made ≡ old ++ flat_map f (terms_among (trees_of (tree_list (take i ts)))) → new ≡ made ++ flat_map f (terms_in (tree_of t))
    → new ≡ old ++ flat_map f (terms_among (trees_of (tree_list (take (i + 1) ts))))
among_next f ts i t old made new lt is was e =
    let first = terms_among (trees_of (tree_list (take i ts))) in
    let next : terms_among (trees_of (tree_list (take (i + 1) ts))) ≡ terms_among (trees_of (tree_list (take i ts))) ++ terms_in (tree_of t) =
    ap (λ us. terms_among (trees_of (tree_list us))) (take_more ts i t lt ∙ ap (λ u. take i ts ++ u ∷ []) (sym is)) ∙ ap (λ us. terms_among (trees_of us)) (map-append tree_of (take i ts) (t ∷ []))
    ∙ among_more (tree_list (take i ts)) (tree_of t) in
    e ∙ ap (λ ys. ys ++ flat_map f (terms_in (tree_of t))) was ∙ append_assoc old (flat_map f first) (flat_map f (terms_in (tree_of t)))
    ∙ ap (λ ys. old ++ ys) (sym (flat_map-append f first (terms_in (tree_of t))) ∙ ap (flat_map f) (sym next))
