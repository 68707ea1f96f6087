-- How great terms are, by what is kept of their arguments.
use Rattle.std.proofs.Common.{◌≡◌, ℕ, ◌+◌, ◌<◌, ◌≤◌, max, refl, sym, ap, ap₂, ◌∙◌, List, [], ◌∷◌, ◌++◌, length, map, take, arith, inl, inr, slice_index_or}
use Rattle.std.specs.List.{sum_by}
use Rattle.std.proofs.lemmas.List.{take_all, take_more}
use Rattle.std.proofs.lemmas.List.Sums.{sum_by-cons, sum_by_push}
use Rattle.clause_limits.specs.Sizes.{measured, measured_all, beside, under_symbol}
use Rattle.clause_limits.proofs.Beside.{measured_push, measured_under}
use Rattle.fol_core.proofs.Putting.{put_made}
use Rattle.fol_core.specs.Sizes.{size_of, sizes_of, depth_of, depths_of, saturated}
use Rattle.fol_core.specs.Substitutions.{Substitution, substitute, substitute_all}
use Rattle.fol_core.specs.TermView.{tree_of, tree_list}
use Rattle.fol_core.specs.declared.term.Term.{Term}
use Rattle.fol_core.specs.Tree.{Tree, app, trees_of}
use Rattle.term_unifiers.proofs.Entering.{made_next}
use Rattle.term_unifiers.specs.Classes.{In, arguments_of}
use Rattle.term_unifiers.specs.Measures.{IsMeasured, measure_at, greatest, size_at, depth_at, IsAbove}
use Rattle.term_unifiers.specs.Merging.{nth}
use Rattle.term_unifiers.specs.Shapes.{Shape, variable, element, application, seen}
use Rattle.clause_limits.specs.declared.measured.Measure.{Measure}

saturated_more : (a b s t : ℕ) → a ≡ saturated b → saturated s ≡ saturated t → saturated (a + s) ≡ saturated (b + t)
saturated_more a b s t e f = omega (arith, e, f)

saturated_max : (a b s t : ℕ) → a ≡ saturated b → saturated s ≡ saturated t → saturated (max a s) ≡ saturated (max b t)
saturated_max a b s t e f = omega (arith, e, f)

saturated_one : (s t : ℕ) → saturated s ≡ saturated t → saturated (s + 1) ≡ saturated (t + 1)
saturated_one s t f = omega (arith, f)

sizes : (terms : Substitution) (links : List ℕ) (measures : List Measure) (ks : List ℕ) → ((k : ℕ) → In k ks → IsMeasured (terms (nth links k)) (measure_at measures (nth links k)))
    → saturated (sum_by (size_at links measures) ks) ≡ saturated (sizes_of (trees_of (map (λ k. terms (nth links k)) ks)))
sizes terms links measures [] h = refl
sizes terms links measures (k ∷ ks) h =
    ap saturated (sum_by-cons (size_at links measures) k ks)
    ∙ saturated_more (size_at links measures k) (size_of (terms (nth links k))) (sum_by (size_at links measures) ks) (sizes_of (trees_of (map (λ k. terms (nth links k)) ks))) (h k (inl refl)).sized (sizes terms links measures ks (λ j i. h j (inr i)))

depths : (terms : Substitution) (links : List ℕ) (measures : List Measure) (ks : List ℕ) → ((k : ℕ) → In k ks → IsMeasured (terms (nth links k)) (measure_at measures (nth links k)))
    → saturated (greatest (depth_at links measures) ks) ≡ saturated (depths_of (trees_of (map (λ k. terms (nth links k)) ks)))
depths terms links measures [] h = refl
depths terms links measures (k ∷ ks) h =
    saturated_max (depth_at links measures k) (depth_of (terms (nth links k))) (greatest (depth_at links measures) ks) (depths_of (trees_of (map (λ k. terms (nth links k)) ks))) (h k (inl refl)).deep (depths terms links measures ks (λ j i. h j (inr i)))

-- a term by its arguments
pub measured_above : (terms : Substitution) (links : List ℕ) (measures : List Measure) (s : Shape) (m : Measure) → ((k : ℕ) → In k (arguments_of s) → IsMeasured (terms (nth links k)) (measure_at measures (nth links k))) → IsAbove links measures (arguments_of s) m
    → IsMeasured (seen (λ k. terms (nth links k)) s) m
measured_above terms links measures (variable x) m h is = record { sized = is.sized; deep = is.deep }
measured_above terms links measures (element k) m h is = record { sized = is.sized; deep = is.deep }
measured_above terms links measures (application f ks) m h is = record {
  sized = is.sized ∙ saturated_one (sum_by (size_at links measures) ks) (sizes_of (trees_of (map (λ k. terms (nth links k)) ks))) (sizes terms links measures ks h);
  deep = is.deep ∙ saturated_one (greatest (depth_at links measures) ks) (depths_of (trees_of (map (λ k. terms (nth links k)) ks))) (depths terms links measures ks h);
}

greatest_push : {X : Type 0} (f : X → ℕ) (xs : List X) (x : X) → greatest f (xs ++ x ∷ []) ≡ max (greatest f xs) (f x)
greatest_push f [] x = omega arith
greatest_push f (y ∷ xs) x = let e = greatest_push f xs x in omega (arith, e)

-- an item more
more_items : {X : Type 0} (xs : List X) (i : ℕ) (x : X) → i < length xs → x ≡ slice_index_or xs i x → take (i + 1) xs ≡ take i xs ++ x ∷ []
more_items xs i x h at = take_more xs i x h ∙ ap (λ y. take i xs ++ y ∷ []) (sym at)

pub sum_next : {X : Type 0} (f : X → ℕ) (xs : List X) (i : ℕ) (x : X) (s m : ℕ) → i < length xs → x ≡ slice_index_or xs i x → s ≡ saturated (sum_by f (take i xs) + 1) → saturated m ≡ saturated (f x) → saturated (s + m) ≡ saturated (sum_by f (take (i + 1) xs) + 1)
sum_next f xs i x s m h at e g =
    let sum : sum_by f (take (i + 1) xs) ≡ sum_by f (take i xs) + f x = ap (sum_by f) (more_items xs i x h at) ∙ sum_by_push f (take i xs) x in
    omega (arith, e, g, sum)

pub greatest_next : {X : Type 0} (f : X → ℕ) (xs : List X) (i : ℕ) (x : X) (d m : ℕ) → i < length xs → x ≡ slice_index_or xs i x → saturated d ≡ saturated (greatest f (take i xs)) → saturated m ≡ saturated (f x) → saturated (max d m) ≡ saturated (greatest f (take (i + 1) xs))
greatest_next f xs i x d m h at e g =
    let all : greatest f (take (i + 1) xs) ≡ max (greatest f (take i xs)) (f x) = ap (greatest f) (more_items xs i x h at) ∙ greatest_push f (take i xs) x in
    omega (arith, e, g, all)

-- a term's arguments with terms put in
sizes_put : (s : Substitution) (ts : List Term) → sum_by (λ t. size_of (substitute s (tree_of t))) ts ≡ sizes_of (substitute_all s (trees_of (tree_list ts)))
sizes_put s [] = refl
sizes_put s (t ∷ ts) = sum_by-cons (λ t. size_of (substitute s (tree_of t))) t ts ∙ ap (λ n. size_of (substitute s (tree_of t)) + n) (sizes_put s ts)

depths_put : (s : Substitution) (ts : List Term) → greatest (λ t. depth_of (substitute s (tree_of t))) ts ≡ depths_of (substitute_all s (trees_of (tree_list ts)))
depths_put s [] = refl
depths_put s (t ∷ ts) = ap (max (depth_of (substitute s (tree_of t)))) (depths_put s ts)

pub size_made : (s : Substitution) (f : ℕ) (xs ts : List Term) (us : List Tree) (i n : ℕ) → n ≡ saturated (sum_by (λ t. size_of (substitute s (tree_of t))) (take i xs) + 1) → length xs ≤ i → xs ≡ ts → tree_list ts ≡ us → n ≡ saturated (size_of (substitute s (app f (trees_of us))))
size_made s f xs ts us i n e h same view =
    e ∙ ap (λ l. saturated (sum_by (λ t. size_of (substitute s (tree_of t))) l + 1)) (take_all i xs h ∙ same) ∙ ap (λ k. saturated (k + 1)) (sizes_put s ts) ∙ ap (λ l. saturated (size_of (substitute s (app f (trees_of l))))) view

pub depth_made : (s : Substitution) (f : ℕ) (xs ts : List Term) (us : List Tree) (i n : ℕ) → saturated n ≡ saturated (greatest (λ t. depth_of (substitute s (tree_of t))) (take i xs)) → length xs ≤ i → xs ≡ ts → tree_list ts ≡ us → saturated (n + 1) ≡ saturated (depth_of (substitute s (app f (trees_of us))))
depth_made s f xs ts us i n e h same view =
    saturated_one n (greatest (λ t. depth_of (substitute s (tree_of t))) (take i xs)) e
    ∙ ap (λ l. saturated (greatest (λ t. depth_of (substitute s (tree_of t))) l + 1)) (take_all i xs h ∙ same) ∙ ap (λ k. saturated (k + 1)) (depths_put s ts) ∙ ap (λ l. saturated (depth_of (substitute s (app f (trees_of l))))) view

abbrev measure_of : ℕ → ℕ → Measure
measure_of s d = record { size = s; depth = d }

-- what is kept of a class is how large its term is
pub is_measured : (t : Tree) (m : Measure) → IsMeasured t m → m ≡ measured t
is_measured t m is = ap₂ measure_of is.sized is.deep

-- a term's arguments so far, and one more
pub measured_next : (s : Substitution) (ts : List Term) (i : ℕ) (t : Term) (m n k : Measure) → i < length ts → t ≡ slice_index_or ts i t → m ≡ measured_all (trees_of (map (λ t. substitute s (tree_of t)) (take i ts)))
    → n ≡ measured (substitute s (tree_of t)) → k ≡ beside m n → k ≡ measured_all (trees_of (map (λ t. substitute s (tree_of t)) (take (i + 1) ts)))
measured_next s ts i t m n k h at before one is =
    is ∙ ap₂ beside before one ∙ measured_push (map (λ t. substitute s (tree_of t)) (take i ts)) (substitute s (tree_of t))
    ∙ ap (λ us. measured_all (trees_of us)) (made_next (substitute s) ts i t h at)

-- all of them, under their symbol
pub measured_made : (s : Substitution) (f : ℕ) (xs ts : List Term) (us : List Tree) (i : ℕ) (m n : Measure) → m ≡ measured_all (trees_of (map (λ t. substitute s (tree_of t)) (take i xs))) → n ≡ under_symbol m → length xs ≤ i → xs ≡ ts → tree_list ts ≡ us
    → n ≡ measured (substitute s (app f (trees_of us)))
measured_made s f xs ts us i m n before is h same view =
    is ∙ ap under_symbol (before ∙ ap measured_all (put_made s xs i (map (λ t. substitute s (tree_of t)) (take i xs)) h refl))
    ∙ measured_under f (substitute_all s (trees_of (tree_list xs)))
    ∙ ap (λ l. measured (app f (substitute_all s (trees_of (tree_list l))))) same ∙ ap (λ l. measured (app f (substitute_all s (trees_of l)))) view
