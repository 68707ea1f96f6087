-- Terms are weighed one after the other, and their weights listed.
use Rattle.std.proofs.Common.{◌≡◌, ℕ, zero, suc, ◌+◌, ◌<◌, ◌≤◌, List, [], ◌∷◌, ◌++◌, map, take, drop, get_or, length, min, None, Some, unwrap_or, refl, sym, ap, ap₂, ◌∙◌, append_assoc, arith}
use Rattle.std.proofs.lemmas.List.{map-append, take_more, drop_all}
use Rattle.fol_core.specs.ClauseView.{literal_of}
use Rattle.fol_core.specs.Sizes.{size_of}
use Rattle.fol_core.specs.TermView.{tree_of, tree_list}
use Rattle.fol_core.specs.Tree.{Tree, app, Trees, trees_of}
use Rattle.fol_core.specs.declared.clause.Literal.{Literal}
use Rattle.fol_core.specs.declared.term.Term.{Term}
use Rattle.prover_steps.specs.Searching.{clause_size}
use Rattle.weights.specs.Parts.{below, parts, part_weights, parts_of, weights_below, IsWeighedAs}
use Rattle.weights.specs.Weighing.{WeightRow, weight_within, term_weight, sum_of_atoms, atoms_weight}
use Rattle.weights.specs.WeighingLaws.{first_weight, sum_of_weights}
use Rattle.weights.proofs.Items.{next}
use Rattle.weights.proofs.Listed.{parts_from, parts_end}
use Rattle.weights.proofs.Weights.{weights_follow}

-- a term's own weight, behind those below it
pub own_weight : (rs : List WeightRow) (t : Tree) (n : ℕ) (old mid new : List ℕ) → n ≡ term_weight rs t → mid ≡ old ++ weights_below rs t → new ≡ mid ++ n ∷ [] → IsWeighedAs rs t n old new
own_weight rs t n old mid new is listed pushed = record {
  weight = is;
  listed =
      pushed ∙ ap₂ (λ ks m. ks ++ m ∷ []) listed is ∙ append_assoc old (weights_below rs t) (term_weight rs t ∷ [])
      ∙ ap (λ ks. old ++ ks) (sym (map-append (term_weight rs) (below t) (t ∷ [])));
}

-- what an application weighs, by a rule or by its arguments
pub by_rule : (rs : List WeightRow) (f : ℕ) (ts : Trees) (n : ℕ) → first_weight rs rs (app f ts) ≡ Some n → n ≡ term_weight rs (app f ts)
by_rule rs f ts n h = sym (weights_follow rs f ts ∙ ap (λ o. unwrap_or o (weight_within (1 + sum_of_weights rs ts))) h)

one_more : (s m : ℕ) → s ≡ weight_within m → min (s + 1) 2147483647 ≡ weight_within (1 + m)
one_more s m h = omega arith

pub by_arguments : (rs : List WeightRow) (f : ℕ) (ts : Trees) (s n : ℕ) → first_weight rs rs (app f ts) ≡ None → s ≡ weight_within (sum_of_weights rs ts) → n ≡ min (s + 1) 2147483647 → n ≡ term_weight rs (app f ts)
by_arguments rs f ts s n h e is = is ∙ one_more s (sum_of_weights rs ts) e ∙ sym (weights_follow rs f ts ∙ ap (λ o. unwrap_or o (weight_within (1 + sum_of_weights rs ts))) h)

-- the weights behind those that were listed before
pub behind : (ks ls ms : List ℕ) → ms ≡ ks ++ ls → drop (length ks) ms ≡ ls
behind ks ls ms e = ap (drop (length ks)) e ∙ back ks
  where
    back : (js : List ℕ) → drop (length js) (js ++ ls) ≡ ls
    back [] = refl
    back (j ∷ js) = back js

-- what is to be listed from one term on
abbrev pub listed_from : List WeightRow → List ℕ → List Term → ℕ → List ℕ
listed_from rs ks ts i = ks ++ map (term_weight rs) (parts_from ts i)

pub listed_next : (rs : List WeightRow) (ts : List Term) (i : ℕ) (t : Term) (ks new : List ℕ) → i < length ts → t ≡ get_or ts i t → new ≡ ks ++ part_weights rs (tree_of t) → listed_from rs ks ts i ≡ listed_from rs new ts (i + 1)
listed_next rs ts i t ks new h is e =
    ap (λ us. ks ++ map (term_weight rs) (parts_of (trees_of (tree_list us)))) (next ts i t h is) ∙ ap (λ js. ks ++ js) (map-append (term_weight rs) (parts (tree_of t)) (parts_from ts (i + 1)))
    ∙ sym (append_assoc ks (part_weights rs (tree_of t)) (map (term_weight rs) (parts_from ts (i + 1)))) ∙ ap (λ js. js ++ map (term_weight rs) (parts_from ts (i + 1))) (sym e)

nothing_more : (ks : List ℕ) → ks ++ [] ≡ ks
nothing_more [] = refl
nothing_more (k ∷ ks) = ap (λ js. k ∷ js) (nothing_more ks)

pub listed_end : (rs : List WeightRow) (ts : List Term) (i : ℕ) (ks : List ℕ) → length ts ≤ i → listed_from rs ks ts i ≡ ks
listed_end rs ts i ks h = ap (λ ps. ks ++ map (term_weight rs) ps) (parts_end ts i h) ∙ nothing_more ks

-- what the terms from one on weigh, with a sum so far
abbrev pub sum_from : List WeightRow → ℕ → List Term → ℕ → ℕ
sum_from rs s ts i = weight_within (s + sum_of_weights rs (trees_of (tree_list (drop i ts))))

adds : (s n w rest : ℕ) → w ≡ min (min (n + s) 18446744073709551615) 2147483647 → weight_within (s + (n + rest)) ≡ weight_within (w + rest)
adds s n w rest e = omega arith

pub sum_next : (rs : List WeightRow) (ts : List Term) (i : ℕ) (t : Term) (s n w : ℕ) → i < length ts → t ≡ get_or ts i t → n ≡ term_weight rs (tree_of t) → w ≡ min (min (n + s) 18446744073709551615) 2147483647
    → sum_from rs s ts i ≡ sum_from rs w ts (i + 1)
sum_next rs ts i t s n w h is weighs e =
    ap (λ us. weight_within (s + sum_of_weights rs (trees_of (tree_list us)))) (next ts i t h is) ∙ ap (λ m. weight_within (s + (m + sum_of_weights rs (trees_of (tree_list (drop (i + 1) ts)))))) (sym weighs)
    ∙ adds s n w (sum_of_weights rs (trees_of (tree_list (drop (i + 1) ts)))) e

kept : (s m : ℕ) → s ≤ 2147483647 → m ≡ 0 → weight_within (s + m) ≡ s
kept s m h e = omega arith

pub sum_end : (rs : List WeightRow) (ts : List Term) (i s : ℕ) → length ts ≤ i → s ≤ 2147483647 → sum_from rs s ts i ≡ s
sum_end rs ts i s h most = kept s (sum_of_weights rs (trees_of (tree_list (drop i ts)))) most (ap (λ us. sum_of_weights rs (trees_of (tree_list us))) (drop_all i ts h))

-- one literal more
atoms_more : (rs : List WeightRow) (ls : List Literal) (l : Literal) → sum_of_atoms rs (map literal_of (ls ++ l ∷ [])) ≡ sum_of_atoms rs (map literal_of ls) + term_weight rs (tree_of l.atom)
atoms_more rs [] l = omega arith
atoms_more rs (k ∷ ls) l = let rest = atoms_more rs ls l in omega (arith, rest)

sums : (a b m n w : ℕ) → a ≡ weight_within b → m ≡ n → w ≡ min (min (m + a) 18446744073709551615) 2147483647 → w ≡ weight_within (b + n)
sums a b m n w h k e = omega arith

pub next_atom : (rs : List WeightRow) (ls : List Literal) (i : ℕ) (l : Literal) (s n w : ℕ) → i < length ls → l ≡ get_or ls i l → s ≡ atoms_weight rs (map literal_of (take i ls)) → n ≡ term_weight rs (tree_of l.atom)
    → w ≡ min (min (n + s) 18446744073709551615) 2147483647 → w ≡ atoms_weight rs (map literal_of (take (i + 1) ls))
next_atom rs ls i l s n w lt at are is e =
    sums s (sum_of_atoms rs (map literal_of (take i ls))) n (term_weight rs (tree_of l.atom)) w are is e ∙ ap weight_within (sym (atoms_more rs (take i ls) l))
    ∙ ap (λ ks. atoms_weight rs (map literal_of ks)) (sym (take_more ls i l lt ∙ ap (λ k. take i ls ++ k ∷ []) (sym at)))

-- an atom is no larger than its clause
pub atom_size : (ls : List Literal) (i : ℕ) (l : Literal) → i < length ls → l ≡ get_or ls i l → size_of (tree_of l.atom) ≤ clause_size (map literal_of ls)
atom_size [] i l h is = absurd (omega arith)
atom_size (k ∷ ls) zero l h is = let same : size_of (tree_of l.atom) ≡ size_of (tree_of k.atom) = ap (λ j. size_of (tree_of j.atom)) is in omega (arith, same)
atom_size (k ∷ ls) (suc i) l h is = let rest = atom_size ls i l (omega arith) is in omega (arith, rest)
