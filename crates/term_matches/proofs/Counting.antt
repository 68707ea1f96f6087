-- Variables are counted, one term after the other.
use Rattle.std.proofs.Common.{◌≡◌, ℕ, zero, suc, ◌+◌, ◌<◌, ◌≤◌, List, [], ◌∷◌, ◌++◌, length, get_or, take, sym, ap, ap₂, ◌∙◌, arith}
use Rattle.std.proofs.lemmas.List.{take_more, take_all}
use Rattle.fol_core.specs.TermView.{tree_of, tree_list}
use Rattle.fol_core.specs.Sizes.{size_of, sizes_of}
use Rattle.fol_core.specs.Tree.{Tree, var, elem, app, Trees, none, more, trees_of}
use Rattle.fol_core.specs.declared.term.Term.{Term}
use Rattle.term_matches.specs.Occurrences.{occurrences, occurrences_of, met, met_all}

-- in the first terms
abbrev pub counted : List Term → ℕ → ℕ
counted ts i = occurrences_of (trees_of (tree_list (take i ts)))

counted_more : (ts : List Term) (t : Term) → occurrences_of (trees_of (tree_list (ts ++ t ∷ []))) ≡ occurrences_of (trees_of (tree_list ts)) + occurrences (tree_of t)
counted_more [] t = omega arith
counted_more (s ∷ ts) t = let rest = counted_more ts t in omega (arith, rest)

pub counted_next : (ts : List Term) (i : ℕ) (t : Term) → i < length ts → t ≡ get_or ts i t → counted ts (i + 1) ≡ counted ts i + occurrences (tree_of t)
counted_next ts i t h is = ap (λ us. occurrences_of (trees_of (tree_list us))) (take_more ts i t h ∙ ap (λ u. take i ts ++ u ∷ []) (sym is)) ∙ counted_more (take i ts) t

pub counted_all : (ts : List Term) (i : ℕ) → length ts ≤ i → counted ts i ≡ occurrences_of (trees_of (tree_list ts))
counted_all ts i h = ap (λ us. occurrences_of (trees_of (tree_list us))) (take_all i ts h)

-- those of the first terms that meet a term
abbrev pub met_first : List Term → List Term → ℕ → ℕ
met_first ls rs i = met_all (trees_of (tree_list (take i ls))) (trees_of (tree_list (take i rs)))

next_met : (ls rs : List Term) (i : ℕ) (l r : Term) → i < length ls → i < length rs → l ≡ get_or ls i l → r ≡ get_or rs i r → met_first ls rs (suc i) ≡ met_first ls rs i + met (tree_of l) (tree_of r)
next_met [] rs i l r h k is was = absurd (omega (arith, h))
next_met (a ∷ ls) [] i l r h k is was = absurd (omega (arith, k))
next_met (a ∷ ls) (b ∷ rs) zero l r h k is was = let same : met (tree_of l) (tree_of r) ≡ met (tree_of a) (tree_of b) = ap₂ (λ u v. met (tree_of u) (tree_of v)) is was in omega (arith, same)
next_met (a ∷ ls) (b ∷ rs) (suc i) l r h k is was = let rest = next_met ls rs i l r (omega (arith, h)) (omega (arith, k)) is was in omega (arith, rest)

met_next : (ls rs : List Term) (i : ℕ) (l r : Term) → i < length ls → i < length rs → l ≡ get_or ls i l → r ≡ get_or rs i r → met_first ls rs (i + 1) ≡ met_first ls rs i + met (tree_of l) (tree_of r)
met_next ls rs i l r h k is was = let one : i + 1 ≡ suc i = omega arith in ap (met_first ls rs) one ∙ next_met ls rs i l r h k is was

-- no more in the first terms than in all
met_within : (ls rs : List Term) (i : ℕ) → met_first ls rs i ≤ met_all (trees_of (tree_list ls)) (trees_of (tree_list rs))
met_within [] rs zero = omega arith
met_within [] rs (suc i) = omega arith
met_within (l ∷ ls) rs zero = omega arith
met_within (l ∷ ls) [] (suc i) = omega arith
met_within (l ∷ ls) (r ∷ rs) (suc i) = let rest = met_within ls rs i in omega (arith, rest)

-- so many bindings at most with those of one term more, and of all
pub few_next : (ls rs : List Term) (i : ℕ) (l r : Term) (old before new : ℕ) → i < length ls → i < length rs → l ≡ get_or ls i l → r ≡ get_or rs i r
    → before ≤ old + met_first ls rs i → new ≤ before + met (tree_of l) (tree_of r) → new ≤ old + met_first ls rs (i + 1)
few_next ls rs i l r old before new h k is was few added = let next = met_next ls rs i l r h k is was in omega (arith, next, few, added)

pub few_all : (ls rs : List Term) (i old new : ℕ) → new ≤ old + met_first ls rs i → new ≤ old + met_all (trees_of (tree_list ls)) (trees_of (tree_list rs))
few_all ls rs i old new few = let all = met_within ls rs i in omega (arith, all, few)

pub full_next : (ls rs : List Term) (i : ℕ) (l r : Term) (old before room : ℕ) → i < length ls → i < length rs → l ≡ get_or ls i l → r ≡ get_or rs i r
    → before ≤ old + met_first ls rs i → room < before + met (tree_of l) (tree_of r) → room < old + met_all (trees_of (tree_list ls)) (trees_of (tree_list rs))
full_next ls rs i l r old before room h k is was few full =
    let next = met_next ls rs i l r h k is was in
    let all = met_within ls rs (i + 1) in
    omega (arith, next, all, few, full)

-- no more meet a term than there are, and than the others have symbols and variables
mutual
  pub met_few : (s t : Tree) → met s t ≤ occurrences s
  met_few (var x) t = omega arith
  met_few (elem k) t = omega arith
  met_few (app f ss) (var x) = omega arith
  met_few (app f ss) (elem k) = omega arith
  met_few (app f ss) (app g ts) = all_met_few ss ts

  all_met_few : (ss ts : Trees) → met_all ss ts ≤ occurrences_of ss
  all_met_few none ts = omega arith
  all_met_few (more s ss) none = omega arith
  all_met_few (more s ss) (more t ts) = let one = met_few s t in let rest = all_met_few ss ts in omega (arith, one, rest)

mutual
  met_small : (s t : Tree) → met s t ≤ size_of t
  met_small (var x) (var y) = omega arith
  met_small (var x) (elem k) = omega arith
  met_small (var x) (app f ts) = omega arith
  met_small (elem k) t = omega arith
  met_small (app f ss) (var x) = omega arith
  met_small (app f ss) (elem k) = omega arith
  met_small (app f ss) (app g ts) = let rest = all_met_small ss ts in omega (arith, rest)

  pub all_met_small : (ss ts : Trees) → met_all ss ts ≤ sizes_of ts
  all_met_small none ts = omega arith
  all_met_small (more s ss) none = omega arith
  all_met_small (more s ss) (more t ts) = let one = met_small s t in let rest = all_met_small ss ts in omega (arith, one, rest)
