-- Terms below others, and their paths.
use Rattle.std.proofs.Common.{◌≡◌, ℕ, zero, suc, ◌+◌, ◌-◌, ◌<◌, ◌≤◌, Bool, true, if◌then◌else◌, List, [], ◌∷◌, ◌++◌, length, get_or, map, flat_map, take, Option, Some, None, refl, sym, ap, ap₂, ◌∙◌, arith, add-zero, append_assoc}
use Rattle.std.specs.Option.{option_and_then}
use Rattle.std.proofs.lemmas.List.{append-nil, map-append, take_all, take_at, take_more, length-take, length-map}
use Rattle.std.proofs.lemmas.Grind.{flat_map-append}
use Rattle.fol_core.specs.Tree.{Tree, app, Trees, trees_of, nodes, nodes_of}
use Rattle.fol_core.specs.TermView.{tree_of, tree_list}
use Rattle.fol_core.specs.declared.term.Term.{Term}
use Rattle.substitutions.specs.Paths.{part_at, subterm_at}
use Rattle.substitutions.proofs.PathLemmas.{argument_item}
use Rattle.derivation.specs.Equations.{below, left_of}
use Rattle.prover_steps.specs.Concluded.{Conclusion}
use Rattle.prover_steps.specs.Equalities.{paths_of, paths_from, paths_below, into_paths, is_oriented}
use Rattle.resolution.proofs.Going.{flat_mapped, flat_same}

-- below a subterm
one_below : (t : Tree) (k : ℕ) → subterm_at t (k ∷ []) ≡ part_at t k
one_below t k = by (part_at t k)
  where
    by : (o : Option Tree) → option_and_then (λ u. Some u) o ≡ o
    by None = refl
    by (Some u) = refl

pub step_below : (t : Tree) (path : List ℕ) (k : ℕ) (u : Tree) → subterm_at t path ≡ Some u → subterm_at t (path ++ k ∷ []) ≡ part_at u k
step_below t [] k u is = one_below t k ∙ ap (λ (o : Option Tree). option_and_then (λ v. part_at v k) o) is
step_below t (j ∷ path) k u is = by (part_at t j) is (λ v. step_below v path k u)
  where
    by : (o : Option Tree) → option_and_then (λ v. subterm_at v path) o ≡ Some u → ((v : Tree) → subterm_at v path ≡ Some u → subterm_at v (path ++ k ∷ []) ≡ part_at u k)
        → option_and_then (λ v. subterm_at v (path ++ k ∷ [])) o ≡ part_at u k
    by None is rest = cc
    by (Some v) is rest = rest v is

-- an argument
pub argument_below : (t : Tree) (path : List ℕ) (f : ℕ) (ts : List Term) (i : ℕ) (d : Term) → i < length ts → d ≡ get_or ts i d → subterm_at t path ≡ Some (app f (trees_of (tree_list ts)))
    → subterm_at t (path ++ (i + 1) ∷ []) ≡ Some (tree_of d)
argument_below t path f ts i d lt is there =
    let back : (i + 1) - 1 ≡ i = omega arith in
    step_below t path (i + 1) (app f (trees_of (tree_list ts))) there ∙ argument_item ts (i + 1) d (omega arith) (omega arith) ∙ ap (λ n. Some (tree_of (get_or ts n d))) back
    ∙ ap (λ r. Some (tree_of r)) (sym is)

-- a path that isn't empty
pub below_is : (t : Tree) (path : List ℕ) → 0 < length path → below t path ≡ subterm_at t path
below_is t [] h = absurd (omega arith)
below_is t (k ∷ path) h = refl

-- the paths below one argument more
paths_more : (k : ℕ) (ts : List Tree) (t : Tree) → paths_from k (trees_of (ts ++ t ∷ [])) ≡ paths_from k (trees_of ts) ++ map (λ path. (k + length ts) ∷ path) (paths_of t)
paths_more k [] t = append-nil (map (λ path. k ∷ path) (paths_of t)) ∙ ap (λ n. map (λ path. n ∷ path) (paths_of t)) (sym (add-zero k))
paths_more k (s ∷ ts) t =
    let at : suc k + length ts ≡ k + suc (length ts) = omega arith in
    ap (λ ps. map (λ path. k ∷ path) (paths_of s) ++ ps) (paths_more (suc k) ts t ∙ ap (λ n. paths_from (suc k) (trees_of ts) ++ map (λ path. n ∷ path) (paths_of t)) at)
    ∙ sym (append_assoc (map (λ path. k ∷ path) (paths_of s)) (paths_from (suc k) (trees_of ts)) (map (λ path. (k + suc (length ts)) ∷ path) (paths_of t)))

-- those of the first arguments
abbrev pub first_paths : List Term → ℕ → List (List ℕ)
first_paths ts i = paths_from 1 (trees_of (tree_list (take i ts)))

pub paths_next : (ts : List Term) (i : ℕ) (t : Term) → i < length ts → t ≡ get_or ts i t → first_paths ts (i + 1) ≡ first_paths ts i ++ map (λ path. (i + 1) ∷ path) (paths_of (tree_of t))
paths_next ts i t lt is =
    let count : 1 + length (tree_list (take i ts)) ≡ i + 1 = omega (arith, length-map (take i ts) tree_of, length-take i ts) in
    ap (λ us. paths_from 1 (trees_of (tree_list us))) (take_more ts i t lt ∙ ap (λ u. take i ts ++ u ∷ []) (sym is)) ∙ ap (λ us. paths_from 1 (trees_of us)) (map-append tree_of (take i ts) (t ∷ []))
    ∙ paths_more 1 (tree_list (take i ts)) (tree_of t) ∙ ap (λ n. first_paths ts i ++ map (λ path. n ∷ path) (paths_of (tree_of t))) count

-- what comes of one argument more
pub argument_added : (f : List ℕ → List Conclusion) (path : List ℕ) (ts : List Term) (i : ℕ) (t : Term) (old made new : List Conclusion) → i < length ts → t ≡ get_or ts i t
    → made ≡ old ++ flat_map (λ rest. f (path ++ rest)) (first_paths ts i) → new ≡ made ++ flat_map (λ rest. f ((path ++ (i + 1) ∷ []) ++ rest)) (paths_of (tree_of t))
    → new ≡ old ++ flat_map (λ rest. f (path ++ rest)) (first_paths ts (i + 1))
argument_added f path ts i t old made new lt is was e =
    let g : List ℕ → List Conclusion = λ rest. f (path ++ rest) in
    let here = map (λ (rest : List ℕ). (i + 1) ∷ rest) (paths_of (tree_of t)) in
    let more : flat_map (λ rest. f ((path ++ (i + 1) ∷ []) ++ rest)) (paths_of (tree_of t)) ≡ flat_map g here =
    flat_same (λ rest. f ((path ++ (i + 1) ∷ []) ++ rest)) (λ rest. f (path ++ (i + 1) ∷ rest)) (paths_of (tree_of t)) (λ rest. ap f (append_assoc path ((i + 1) ∷ []) rest))
    ∙ sym (flat_mapped g (λ (rest : List ℕ). (i + 1) ∷ rest) (paths_of (tree_of t))) in
    e ∙ ap₂ (λ x y. x ++ y) was more ∙ append_assoc old (flat_map g (first_paths ts i)) (flat_map g here)
    ∙ ap (λ ns. old ++ ns) (sym (flat_map-append g (first_paths ts i) here) ∙ ap (flat_map g) (sym (paths_next ts i t lt is)))

pub arguments_all : (f : List ℕ → List Conclusion) (path : List ℕ) (ts : List Term) (i : ℕ) (old made : List Conclusion) → length ts ≤ i
    → made ≡ old ++ flat_map (λ rest. f (path ++ rest)) (first_paths ts i) → made ≡ old ++ flat_map (λ rest. f (path ++ rest)) (paths_from 1 (trees_of (tree_list ts)))
arguments_all f path ts i old made end was = was ∙ ap (λ us. old ++ flat_map (λ rest. f (path ++ rest)) (paths_from 1 (trees_of (tree_list us)))) (take_all i ts end)

-- what comes of a term: of itself, and of its arguments
pub from_leaf : (f : List ℕ → List Conclusion) (path : List ℕ) (old new : List Conclusion) → new ≡ old ++ f path → new ≡ old ++ flat_map (λ rest. f (path ++ rest)) ([] ∷ [])
from_leaf f path old new e = e ∙ ap (λ ns. old ++ ns) (ap f (sym (append-nil path)) ∙ sym (append-nil (f (path ++ []))))

pub from_term : (f : List ℕ → List Conclusion) (path : List ℕ) (ts : Trees) (old new : List Conclusion) → new ≡ (old ++ f path) ++ flat_map (λ rest. f (path ++ rest)) (paths_from 1 ts)
    → new ≡ old ++ flat_map (λ rest. f (path ++ rest)) ([] ∷ paths_from 1 ts)
from_term f path ts old new e =
    e ∙ append_assoc old (f path) (flat_map (λ rest. f (path ++ rest)) (paths_from 1 ts)) ∙ ap (λ p. old ++ (f p ++ flat_map (λ rest. f (path ++ rest)) (paths_from 1 ts))) (sym (append-nil path))

-- the same, by the path as it was made longer
pub into_argument : (t : Tree) (path before pushed : List ℕ) (f : ℕ) (ts : List Term) (i : ℕ) (d : Term) → i < length ts → d ≡ get_or ts i d → before ≡ path → pushed ≡ before ++ (i + 1) ∷ []
    → subterm_at t path ≡ Some (app f (trees_of (tree_list ts))) → subterm_at t pushed ≡ Some (tree_of d)
into_argument t path before pushed f ts i d lt is same longer there =
    ap (subterm_at t) (longer ∙ ap (λ p. p ++ (i + 1) ∷ []) same) ∙ argument_below t path f ts i d lt is there

pub argument_made : (f : List ℕ → List Conclusion) (path before pushed : List ℕ) (ts : List Term) (i : ℕ) (t : Term) (old made new : List Conclusion) → i < length ts → t ≡ get_or ts i t
    → before ≡ path → pushed ≡ before ++ (i + 1) ∷ [] → made ≡ old ++ flat_map (λ rest. f (path ++ rest)) (first_paths ts i) → new ≡ made ++ flat_map (λ rest. f (pushed ++ rest)) (paths_of (tree_of t))
    → new ≡ old ++ flat_map (λ rest. f (path ++ rest)) (first_paths ts (i + 1))
argument_made f path before pushed ts i t old made new lt is same longer was e =
    argument_added f path ts i t old made new lt is was (e ∙ ap (λ p. made ++ flat_map (λ rest. f (p ++ rest)) (paths_of (tree_of t))) (longer ∙ ap (λ p. p ++ (i + 1) ∷ []) same))

-- an oriented equation
pub into_oriented : (greater : Tree → Tree → Bool) (f : List ℕ → List Conclusion) (atom : Tree) (old new : List Conclusion) → is_oriented greater atom ≡ true
    → new ≡ old ++ flat_map (λ rest. f (1 ∷ rest)) (paths_of (left_of atom)) → new ≡ old ++ flat_map f (into_paths greater atom)
into_oriented greater f atom old new oriented e =
    e ∙ ap (λ ns. old ++ ns)
    (sym (flat_mapped f (λ (rest : List ℕ). 1 ∷ rest) (paths_of (left_of atom)))
    ∙ ap (λ b. flat_map f (if b then map (λ (rest : List ℕ). 1 ∷ rest) (paths_of (left_of atom)) else paths_below atom)) (sym oriented))

-- a path that is shorter again
pub popped : (before pushed after : List ℕ) (k n : ℕ) → pushed ≡ before ++ k ∷ [] → after ≡ take n pushed → n ≡ length before → after ≡ before
popped before pushed after k n longer taken e = taken ∙ ap (take n) longer ∙ take_at before (k ∷ []) n (sym e)

-- an argument has no more nodes than all together
pub argument_nodes : (ts : List Term) (i : ℕ) (t : Term) → i < length ts → t ≡ get_or ts i t → nodes (tree_of t) ≤ nodes_of (trees_of (tree_list ts))
argument_nodes [] i t lt is = absurd (omega arith)
argument_nodes (u ∷ ts) zero t lt is = omega (arith, ap (λ r. nodes (tree_of r)) is)
argument_nodes (u ∷ ts) (suc i) t lt is = omega (arith, argument_nodes ts i t (omega arith) is)
