-- Numbers that are added, one after the other, and with them all that are asked for.
use Rattle.std.proofs.Common.{◌≡◌, ◌⊎◌, inl, inr, ℕ, ◌+◌, ◌<◌, ◌≤◌, ◌==◌, Bool, true, false, ◌||◌, if◌then◌else◌, List, [], ◌∷◌, ◌++◌, length, get_or, flat_map, take, refl, sym, ap, ap₂, ◌∙◌, subst, append_assoc}
use Rattle.std.proofs.lemmas.List.{take_all, append-nil}
use Rattle.fol_core.specs.Tree.{Tree, elem, app, Trees, trees_of}
use Rattle.fol_core.specs.TermView.{tree_of, tree_list}
use Rattle.fol_core.specs.declared.term.Term.{Term}
use Rattle.clause_index.specs.Numbered.{AddsAll, is_numbered}
use Rattle.clause_index.proofs.Numbers.{either_false}
use Rattle.discrim_tree.specs.Nodes.{IsIn}
use Rattle.prover_steps.specs.Clashing.{Held}
use Rattle.resolution.proofs.Going.{flat_added}
use Rattle.paramod.specs.Partners.{terms_in, terms_among}
use Rattle.paramod.proofs.Walking.{among_next}

-- numbers of two lists
in_front : (n : ℕ) (xs ys : List ℕ) → IsIn n xs → IsIn n (xs ++ ys)
in_front n [] ys there = absurd there
in_front n (x ∷ xs) ys (inl same) = inl same
in_front n (x ∷ xs) ys (inr behind) = inr (in_front n xs ys behind)

in_back : (n : ℕ) (xs ys : List ℕ) → IsIn n ys → IsIn n (xs ++ ys)
in_back n [] ys there = there
in_back n (x ∷ xs) ys there = inr (in_back n xs ys there)

in_either : (n : ℕ) (xs ys : List ℕ) → IsIn n (xs ++ ys) → IsIn n xs ⊎ IsIn n ys
in_either n [] ys there = inr there
in_either n (x ∷ xs) ys (inl same) = inl (inl same)
in_either n (x ∷ xs) ys (inr behind) = by (in_either n xs ys behind)
  where
    by : IsIn n xs ⊎ IsIn n ys → IsIn n (x ∷ xs) ⊎ IsIn n ys
    by (inl there) = inl (inr there)
    by (inr there) = inr there

-- nothing is asked for
pub none_asked : (old : List ℕ) → AddsAll old [] old
none_asked old = record { added = []; behind = sym (append-nil old); all = λ n there. there }

pub unasked : (test : Bool) (old wanted : List ℕ) → test ≡ false → AddsAll old (if test then wanted else []) old
unasked test old wanted e = subst (λ (b : Bool). AddsAll old (if b then wanted else []) old) (sym e) (none_asked old)

pub asked : (test : Bool) (old wanted new : List ℕ) → test ≡ true → AddsAll old wanted new → AddsAll old (if test then wanted else []) new
asked test old wanted new e adds = subst (λ (b : Bool). AddsAll old (if b then wanted else []) new) (sym e) adds

-- some numbers, and then others
pub both_asked : (old mid new first second : List ℕ) → AddsAll old first mid → AddsAll mid second new → AddsAll old (first ++ second) new
both_asked old mid new first second a b =
    record {
      added = a.added ++ b.added;
      behind = b.behind ∙ ap (λ ns. ns ++ b.added) a.behind ∙ append_assoc old a.added b.added;
      all = λ n there. by n (in_either n first second there);
    }
  where
    by : (n : ℕ) → IsIn n first ⊎ IsIn n second → IsIn n (a.added ++ b.added)
    by n (inl there) = in_front n a.added b.added (a.all n there)
    by n (inr there) = in_back n a.added b.added (b.all n there)

-- those for one element more
pub next_asked : {X : Type 0} (f : X → List ℕ) (xs : List X) (i : ℕ) (x : X) (old mid new : List ℕ) → i < length xs → x ≡ get_or xs i x
    → AddsAll old (flat_map f (take i xs)) mid → AddsAll mid (f x) new → AddsAll old (flat_map f (take (i + 1) xs)) new
next_asked f xs i x old mid new lt is was adds =
    let first = flat_map f (take i xs) in
    subst (λ (ns : List ℕ). AddsAll old ns new) (flat_added f xs i x [] first (first ++ f x) lt is refl refl) (both_asked old mid new first (f x) was adds)

pub each_asked : {X : Type 0} (f : X → List ℕ) (xs : List X) (i : ℕ) (old new : List ℕ) → length xs ≤ i → AddsAll old (flat_map f (take i xs)) new → AddsAll old (flat_map f xs) new
each_asked {X} f xs i old new end was = subst (λ (ys : List X). AddsAll old (flat_map f ys) new) (take_all i xs end) was

-- those for one term more, and those in it
pub next_term : (f : Tree → List ℕ) (ts : List Term) (i : ℕ) (t : Term) (old mid new : List ℕ) → i < length ts → t ≡ get_or ts i t
    → AddsAll old (flat_map f (terms_among (trees_of (tree_list (take i ts))))) mid → AddsAll mid (flat_map f (terms_in (tree_of t))) new
    → AddsAll old (flat_map f (terms_among (trees_of (tree_list (take (i + 1) ts))))) new
next_term f ts i t old mid new lt is was adds =
    let first = flat_map f (terms_among (trees_of (tree_list (take i ts)))) in
    let more = flat_map f (terms_in (tree_of t)) in
    subst (λ (ns : List ℕ). AddsAll old ns new) (among_next f ts i t [] first (first ++ more) lt is refl refl) (both_asked old mid new first more was adds)

pub each_term : (f : Tree → List ℕ) (ts : List Term) (i : ℕ) (old new : List ℕ) → length ts ≤ i → AddsAll old (flat_map f (terms_among (trees_of (tree_list (take i ts))))) new
    → AddsAll old (flat_map f (terms_among (trees_of (tree_list ts)))) new
each_term f ts i old new end was = subst (λ (us : List Term). AddsAll old (flat_map f (terms_among (trees_of (tree_list us)))) new) (take_all i ts end) was

-- a term, with those in it
pub of_element : (f : Tree → List ℕ) (t : Tree) (k : ℕ) (old new : List ℕ) → t ≡ elem k → AddsAll old (f t) new → AddsAll old (flat_map f (terms_in t)) new
of_element f t k old new is adds =
    subst (λ (u : Tree). AddsAll old (flat_map f (terms_in u)) new) (sym is)
    (subst (λ (ns : List ℕ). AddsAll old ns new) (ap f is ∙ sym (append-nil (f (elem k)))) adds)

pub of_application : (f : Tree → List ℕ) (t : Tree) (g : ℕ) (ts : Trees) (old mid new : List ℕ) → app g ts ≡ t → AddsAll old (f t) mid → AddsAll mid (flat_map f (terms_among ts)) new
    → AddsAll old (flat_map f (terms_in t)) new
of_application f t g ts old mid new is here rest =
    subst (λ (u : Tree). AddsAll old (flat_map f (terms_in u)) new) is
    (both_asked old mid new (f (app g ts)) (flat_map f (terms_among ts)) (subst (λ (u : Tree). AddsAll old (f u) mid) (sym is) here) rest)

-- all that are asked for are there
pub all_there : (wanted new : List ℕ) → AddsAll [] wanted new → (n : ℕ) → IsIn n wanted → IsIn n new
all_there wanted new adds n there = subst (λ (ns : List ℕ). IsIn n ns) (sym adds.behind) (adds.all n there)

-- a clause that has none of some numbers has none of fewer
one_unlike : (ns : List ℕ) (d : Held) (m : ℕ) → IsIn m ns → is_numbered ns d ≡ false → (d.number == m) ≡ false
one_unlike [] d m there out = absurd there
one_unlike (k ∷ ns) d m (inl same) out = ap (λ j. d.number == j) same ∙ (either_false (d.number == k) (is_numbered ns d) out).0
one_unlike (k ∷ ns) d m (inr behind) out = one_unlike ns d m behind (either_false (d.number == k) (is_numbered ns d) out).1

pub none_of_fewer : (ms ns : List ℕ) (d : Held) → ((n : ℕ) → IsIn n ms → IsIn n ns) → is_numbered ns d ≡ false → is_numbered ms d ≡ false
none_of_fewer [] ns d all out = refl
none_of_fewer (m ∷ ms) ns d all out = ap₂ (λ (b e : Bool). b || e) (one_unlike ns d m (all m (inl refl)) out) (none_of_fewer ms ns d (λ n there. all n (inr there)) out)
