-- Paths, as they grow.
use Rattle.std.proofs.Common.{◌≡◌, ℕ, suc, ◌+◌, ◌<◌, refl, sym, ap, ap₂, ◌∙◌, List, [], ◌∷◌, ◌++◌, drop, length, get_or, arith, append_assoc, append-nil, drop-cons}
use Rattle.fol_core.specs.Tree.{Tree, var, elem, app, Trees, none, more, list_of, trees_of}
use Rattle.fol_core.specs.TermView.{tree_of, tree_list}
use Rattle.fol_core.specs.declared.term.Term.{Term}
use Rattle.discrim_tree.specs.Paths.{step_of, arguments, steps_of, path_of, paths_of}
use Rattle.discrim_tree.specs.declared.edge.Edge.{Edge}

pub list_back : (ts : List Tree) → list_of (trees_of ts) ≡ ts
list_back [] = refl
list_back (t ∷ ts) = ap (λ us. t ∷ us) (list_back ts)

paths_listed : (ts : Trees) → paths_of ts ≡ steps_of (list_of ts)
paths_listed none = refl
paths_listed (more t ts) = ap (λ p. path_of t ++ p) (paths_listed ts)

-- a path is the first step and then those of the arguments
pub path_begins : (t : Tree) → path_of t ≡ step_of t ∷ steps_of (arguments t)
path_begins (var x) = refl
path_begins (elem k) = refl
path_begins (app f ts) = ap (λ p. step_of (app f ts) ∷ p) (paths_listed ts)

steps_append : (ts us : List Tree) → steps_of (ts ++ us) ≡ steps_of ts ++ steps_of us
steps_append [] us = refl
steps_append (t ∷ ts) us = ap (λ p. path_of t ++ p) (steps_append ts us) ∙ sym (append_assoc (path_of t) (steps_of ts) (steps_of us))

-- the steps of terms are the first one, and then those of its arguments and of the others
pub steps_begin : (t : Tree) (ts : List Tree) (path : List Edge) → steps_of (t ∷ ts) ++ path ≡ step_of t ∷ (steps_of (arguments t ++ ts) ++ path)
steps_begin t ts path =
    ap (λ p. (p ++ steps_of ts) ++ path) (path_begins t)
    ∙ ap (λ p. step_of t ∷ (p ++ path)) (sym (steps_append (arguments t) ts))

-- a step more is the term's first, and its arguments are left
pub step_added : (path new : List Edge) (t : Tree) (ts : List Tree) → new ≡ path ++ step_of t ∷ [] → ts ≡ arguments t → new ++ steps_of ts ≡ path ++ path_of t
step_added path new t ts is parts =
    ap₂ (λ p us. p ++ steps_of us) is parts ∙ append_assoc path (step_of t ∷ []) (steps_of (arguments t)) ∙ ap (λ p. path ++ p) (sym (path_begins t))

-- a term without arguments has one step
pub leaf_added : (path new : List Edge) (t : Tree) → new ≡ path ++ step_of t ∷ [] → [] ≡ arguments t → new ≡ path ++ path_of t
leaf_added path new t is plain = sym (append-nil new) ∙ step_added path new t [] is plain

-- an argument more is added, and one less is left
pub term_added : (path new end : List Edge) (t : Tree) (all rest : List Tree) → path ++ steps_of all ≡ end → all ≡ t ∷ rest → new ≡ path ++ path_of t → new ++ steps_of rest ≡ end
term_added path new end t all rest so first is =
    ap (λ p. p ++ steps_of rest) is ∙ append_assoc path (path_of t) (steps_of rest) ∙ ap (λ us. path ++ steps_of us) (sym first) ∙ so

-- none is left
pub all_added : (path end : List Edge) (left : List Tree) → path ++ steps_of left ≡ end → left ≡ [] → path ≡ end
all_added path end left so ended = sym (append-nil path) ∙ ap (λ us. path ++ steps_of us) (sym ended) ∙ so

pub next_tree : (ts : List Term) (i : ℕ) (t : Term) → i < length ts → t ≡ get_or ts i t → tree_list (drop i ts) ≡ tree_of t ∷ tree_list (drop (i + 1) ts)
next_tree ts i t h is =
    let next : i + 1 ≡ suc i = omega arith in
    ap tree_list (drop-cons ts i t h ∙ ap₂ (λ (y : Term) (k : ℕ). y ∷ drop k ts) (sym is) (sym next))
