-- Symbols and variables are counted, one term after the other.
use Rattle.std.proofs.Common.{◌≡◌, ℕ, ◌+◌, ◌<◌, ◌≤◌, ◌==◌, IsTrue, List, [], ◌∷◌, ◌++◌, map, take, get_or, length, sym, ap, ◌∙◌, arith}
use Rattle.std.proofs.lemmas.Bool.{eqb-true}
use Rattle.std.proofs.lemmas.List.{take_more, take_all}
use Rattle.fol_core.specs.ClauseView.{literal_of}
use Rattle.fol_core.specs.Literals.{ClauseTree}
use Rattle.fol_core.specs.Sizes.{size_of, sizes_of}
use Rattle.fol_core.specs.TermView.{tree_of, tree_list}
use Rattle.fol_core.specs.Tree.{trees_of}
use Rattle.fol_core.specs.declared.clause.Literal.{Literal}
use Rattle.fol_core.specs.declared.term.Term.{Term}
use Rattle.prover_steps.specs.Searching.{clause_size}
use Rattle.weights.specs.Rows.{weight_row}
use Rattle.weights.specs.Weighing.{weight_within, atoms_weight}
use Rattle.weights.specs.declared.patterns.PatternWeight.{PatternWeight}
use Rattle.weights.proofs.Symbols.{symbols_weigh}

-- no rules, and so many symbols and variables
pub without_rules : (ps : List PatternWeight) (c : ClauseTree) (n : ℕ) → IsTrue (length ps == 0) → n ≡ weight_within (clause_size c) → n ≡ atoms_weight (map weight_row ps) c
without_rules [] c n h e = e ∙ sym (symbols_weigh c)
without_rules (p ∷ ps) c n h e = absurd (omega (arith, eqb-true (length (p ∷ ps)) 0 h))

-- a weight with those of the first arguments
abbrev pub with_arguments : ℕ → List Term → ℕ → ℕ
with_arguments before ts i = weight_within (before + sizes_of (trees_of (tree_list (take i ts))))

sizes_more : (ts : List Term) (t : Term) → sizes_of (trees_of (tree_list (ts ++ t ∷ []))) ≡ sizes_of (trees_of (tree_list ts)) + size_of (tree_of t)
sizes_more [] t = omega arith
sizes_more (s ∷ ts) t = let rest = sizes_more ts t in omega (arith, rest)

counts : (k m n s w : ℕ) → s ≡ weight_within (k + m) → w ≡ weight_within (s + n) → w ≡ weight_within (k + (m + n))
counts k m n s w h e = omega arith

joins : (m n s w : ℕ) → s ≡ weight_within m → w ≡ weight_within (s + n) → w ≡ weight_within (m + n)
joins m n s w h e = omega arith

pub next_argument : (before : ℕ) (ts : List Term) (i : ℕ) (t : Term) (s w : ℕ) → i < length ts → t ≡ get_or ts i t → s ≡ with_arguments before ts i → w ≡ weight_within (s + size_of (tree_of t)) → w ≡ with_arguments before ts (i + 1)
next_argument before ts i t s w lt at h e =
    counts before (sizes_of (trees_of (tree_list (take i ts)))) (size_of (tree_of t)) s w h e ∙ ap (λ n. weight_within (before + n)) (sym (sizes_more (take i ts) t))
    ∙ ap (λ us. weight_within (before + sizes_of (trees_of (tree_list us)))) (sym (take_more ts i t lt ∙ ap (λ u. take i ts ++ u ∷ []) (sym at)))

pub all_arguments : (before : ℕ) (ts : List Term) (i : ℕ) → length ts ≤ i → with_arguments before ts i ≡ weight_within (before + sizes_of (trees_of (tree_list ts)))
all_arguments before ts i h = ap (λ us. weight_within (before + sizes_of (trees_of (tree_list us)))) (take_all i ts h)

-- what the first literals weigh
abbrev pub of_literals : List Literal → ℕ → ℕ
of_literals ls i = weight_within (clause_size (map literal_of (take i ls)))

literals_more : (ls : List Literal) (l : Literal) → clause_size (map literal_of (ls ++ l ∷ [])) ≡ clause_size (map literal_of ls) + size_of (tree_of l.atom)
literals_more [] l = omega arith
literals_more (k ∷ ls) l = let rest = literals_more ls l in omega (arith, rest)

pub next_literal : (ls : List Literal) (i : ℕ) (l : Literal) (s w : ℕ) → i < length ls → l ≡ get_or ls i l → s ≡ of_literals ls i → w ≡ weight_within (s + size_of (tree_of l.atom)) → w ≡ of_literals ls (i + 1)
next_literal ls i l s w lt at h e =
    joins (clause_size (map literal_of (take i ls))) (size_of (tree_of l.atom)) s w h e ∙ ap weight_within (sym (literals_more (take i ls) l))
    ∙ ap (λ ks. weight_within (clause_size (map literal_of ks))) (sym (take_more ls i l lt ∙ ap (λ k. take i ls ++ k ∷ []) (sym at)))

pub all_literals : (ls : List Literal) (i : ℕ) → length ls ≤ i → of_literals ls i ≡ weight_within (clause_size (map literal_of ls))
all_literals ls i h = ap (λ ks. weight_within (clause_size (map literal_of ks))) (take_all i ls h)
