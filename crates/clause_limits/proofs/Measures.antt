-- How large terms are, argument by argument.
use Rattle.std.proofs.Common.{◌≡◌, ℕ, ◌+◌, ◌-◌, ◌<◌, ◌≤◌, Bool, true, false, nat_lt, ◌||◌, length, List, get_or, drop, ◌∷◌, sym, ap, ◌∙◌, arith}
use Rattle.std.proofs.lemmas.Bool.{lt-ltb, ltb-true, le-ltb, ltb-false}
use Rattle.std.proofs.lemmas.List.{drop_all, drop_more}
use Rattle.clause_limits.proofs.Maxima.{lt_max}
use Rattle.fol_core.specs.ClauseView.{literal_of}
use Rattle.fol_core.specs.Sizes.{size_of, sizes_of, depth_of, depths_of}
use Rattle.fol_core.specs.TermView.{tree_of, tree_list}
use Rattle.fol_core.specs.Tree.{trees_of}
use Rattle.fol_core.specs.declared.clause.Literal.{Literal}
use Rattle.fol_core.specs.declared.term.Term.{Term}
use Rattle.clause_limits.specs.Sizes.{clause_size, clause_depth}
use Rattle.std.specs.Prelude.{map}

-- the items of a list from a place on
pub next_item : {X : Type 0} (xs : List X) (i : ℕ) (x : X) → i < length xs → x ≡ get_or xs i x → drop i xs ≡ x ∷ drop (i + 1) xs
next_item xs i x h is = drop_more xs i x h ∙ ap (λ u. u ∷ drop (i + 1) xs) (sym is)

-- whether one of the terms from a place on has more levels
abbrev pub deeper_from : ℕ → List Term → ℕ → Bool
deeper_from n ts i = nat_lt n (depths_of (trees_of (tree_list (drop i ts))))

deeper_step : (n : ℕ) (ts : List Term) (i : ℕ) (t : Term) → i < length ts → t ≡ get_or ts i t → deeper_from n ts i ≡ (nat_lt n (depth_of (tree_of t)) || deeper_from n ts (i + 1))
deeper_step n ts i t h is = ap (λ us. nat_lt n (depths_of (trees_of (tree_list us)))) (next_item ts i t h is) ∙ lt_max n (depth_of (tree_of t)) (depths_of (trees_of (tree_list (drop (i + 1) ts))))

pub deeper_here : (n : ℕ) (ts : List Term) (i : ℕ) (t : Term) → i < length ts → t ≡ get_or ts i t → nat_lt n (depth_of (tree_of t)) ≡ true → deeper_from n ts i ≡ true
deeper_here n ts i t h is e = deeper_step n ts i t h is ∙ ap (λ b. b || deeper_from n ts (i + 1)) e

pub deeper_behind : (n : ℕ) (ts : List Term) (i : ℕ) (t : Term) → i < length ts → t ≡ get_or ts i t → nat_lt n (depth_of (tree_of t)) ≡ false → deeper_from n ts i ≡ deeper_from n ts (i + 1)
deeper_behind n ts i t h is e = deeper_step n ts i t h is ∙ ap (λ b. b || deeper_from n ts (i + 1)) e

pub deeper_end : (n : ℕ) (ts : List Term) (i : ℕ) → length ts ≤ i → deeper_from n ts i ≡ false
deeper_end n ts i h = ap (λ us. nat_lt n (depths_of (trees_of (tree_list us)))) (drop_all i ts h) ∙ le-ltb n 0 (omega arith)

-- one level around them
pub deeper_around : (n : ℕ) (ts : List Term) (b : Bool) → (n ≡ 0 → ⊥) → deeper_from (n - 1) ts 0 ≡ b → nat_lt n (depths_of (trees_of (tree_list ts)) + 1) ≡ b
deeper_around n ts true above h = let k : n - 1 < depths_of (trees_of (tree_list ts)) = ltb-true (n - 1) _ h in lt-ltb n _ (omega (arith, k))
deeper_around n ts false above h = let k : depths_of (trees_of (tree_list ts)) ≤ n - 1 = ltb-false (n - 1) _ h in le-ltb n _ (omega (arith, k, above))

pub all_deep : (t : ℕ) → nat_lt 0 (t + 1) ≡ true
all_deep t = lt-ltb 0 (t + 1) (omega arith)

-- literals likewise
abbrev pub clause_deeper_from : ℕ → List Literal → ℕ → Bool
clause_deeper_from n ls i = nat_lt n (clause_depth (map literal_of (drop i ls)))

clause_deeper_step : (n : ℕ) (ls : List Literal) (i : ℕ) (l : Literal) → i < length ls → l ≡ get_or ls i l → clause_deeper_from n ls i ≡ (nat_lt n (depth_of (tree_of l.atom)) || clause_deeper_from n ls (i + 1))
clause_deeper_step n ls i l h is = ap (λ ks. nat_lt n (clause_depth (map literal_of ks))) (next_item ls i l h is) ∙ lt_max n (depth_of (tree_of l.atom)) (clause_depth (map literal_of (drop (i + 1) ls)))

pub clause_deeper_here : (n : ℕ) (ls : List Literal) (i : ℕ) (l : Literal) → i < length ls → l ≡ get_or ls i l → nat_lt n (depth_of (tree_of l.atom)) ≡ true → clause_deeper_from n ls i ≡ true
clause_deeper_here n ls i l h is e = clause_deeper_step n ls i l h is ∙ ap (λ b. b || clause_deeper_from n ls (i + 1)) e

pub clause_deeper_behind : (n : ℕ) (ls : List Literal) (i : ℕ) (l : Literal) → i < length ls → l ≡ get_or ls i l → nat_lt n (depth_of (tree_of l.atom)) ≡ false → clause_deeper_from n ls i ≡ clause_deeper_from n ls (i + 1)
clause_deeper_behind n ls i l h is e = clause_deeper_step n ls i l h is ∙ ap (λ b. b || clause_deeper_from n ls (i + 1)) e

pub clause_deeper_end : (n : ℕ) (ls : List Literal) (i : ℕ) → length ls ≤ i → clause_deeper_from n ls i ≡ false
clause_deeper_end n ls i h = ap (λ ks. nat_lt n (clause_depth (map literal_of ks))) (drop_all i ls h) ∙ le-ltb n 0 (omega arith)

-- how large the terms are from a place on
abbrev pub sizes_from : List Term → ℕ → ℕ
sizes_from ts i = sizes_of (trees_of (tree_list (drop i ts)))

pub sizes_next : (ts : List Term) (i : ℕ) (t : Term) → i < length ts → t ≡ get_or ts i t → sizes_from ts i ≡ size_of (tree_of t) + sizes_from ts (i + 1)
sizes_next ts i t h is = ap (λ us. sizes_of (trees_of (tree_list us))) (next_item ts i t h is)

pub sizes_end : (ts : List Term) (i : ℕ) → length ts ≤ i → sizes_from ts i ≡ 0
sizes_end ts i h = ap (λ us. sizes_of (trees_of (tree_list us))) (drop_all i ts h)

abbrev pub clause_sizes_from : List Literal → ℕ → ℕ
clause_sizes_from ls i = clause_size (map literal_of (drop i ls))

pub clause_sizes_next : (ls : List Literal) (i : ℕ) (l : Literal) → i < length ls → l ≡ get_or ls i l → clause_sizes_from ls i ≡ size_of (tree_of l.atom) + clause_sizes_from ls (i + 1)
clause_sizes_next ls i l h is = ap (λ ks. clause_size (map literal_of ks)) (next_item ls i l h is)

pub clause_sizes_end : (ls : List Literal) (i : ℕ) → length ls ≤ i → clause_sizes_from ls i ≡ 0
clause_sizes_end ls i h = ap (λ ks. clause_size (map literal_of ks)) (drop_all i ls h)
