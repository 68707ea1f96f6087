-- The first arguments that differ, in the order by weights.
use Rattle.std.proofs.Common.{◌≡◌, ℕ, ◌+◌, ◌<◌, ◌≤◌, Bool, false, if◌then◌else◌, refl, sym, ap, ap₂, ◌∙◌, List, [], ◌∷◌, ◌++◌, length, take, drop, slice_index_or, arith}
use Rattle.std.proofs.lemmas.List.{drop_all, drop_more, take-append-drop}
use Rattle.fol_core.specs.Tree.{Tree, var, trees_of}
use Rattle.term_bank.specs.Bank.{tree_at}
use Rattle.term_bank.specs.declared.id.TermId.{TermId}
use Rattle.term_order.specs.Compared.{trees_under, AreCommon}
use Rattle.term_order.specs.Kbo.{kbo_greater, kbo_first}
use Rattle.term_order.proofs.Fronts.{under_at, under_length}
use Rattle.term_order.proofs.Tests.{same_from}

module _ (above : ℕ → ℕ → Bool) (weight : ℕ → ℕ) where
  abbrev first : List Tree → List Tree → Bool
  first ss ts = kbo_first above weight (trees_of ss) (trees_of ts)

  common_first : (ps us vs : List Tree) → first (ps ++ us) (ps ++ vs) ≡ first us vs
  common_first [] us vs = refl
  common_first (p ∷ ps) us vs = ap (λ (b : Bool). if b then first (ps ++ us) (ps ++ vs) else kbo_greater above weight p p) (same_from p p refl) ∙ common_first ps us vs

  none_behind : (us : List Tree) → first us [] ≡ false
  none_behind [] = refl
  none_behind (u ∷ us) = refl

  module _ (bank : List Tree) (ss ts : List TermId) (n : ℕ) (common : AreCommon bank ss ts n) where
    abbrev lefts : List Tree
    lefts = trees_under bank ss

    abbrev rights : List Tree
    rights = trees_under bank ts

    parts : first lefts rights ≡ first (drop n lefts) (drop n rights)
    parts =
        sym (ap₂ first (take-append-drop n lefts) (ap (λ (us : List Tree). us ++ drop n rights) common.same ∙ take-append-drop n rights))
        ∙ common_first (take n lefts) (drop n lefts) (drop n rights)

    pub first_ends : length ss ≤ n → false ≡ first lefts rights
    first_ends h = sym (parts ∙ ap (λ (us : List Tree). first us (drop n rights)) (drop_all n lefts (let l = under_length bank ss in omega (arith, l, h))))

    pub second_ends : length ts ≤ n → false ≡ first lefts rights
    second_ends h =
        sym (parts ∙ ap (first (drop n lefts)) (drop_all n rights (let l = under_length bank ts in omega (arith, l, h))) ∙ none_behind (drop n lefts))

    pub pair_decides : (d e : TermId) → n < length ss → n < length ts
        → kbo_greater above weight (tree_at bank (slice_index_or ss n d).0) (tree_at bank (slice_index_or ts n e).0) ≡ first lefts rights
    pair_decides d e h k =
        let here : n < length lefts = (let l = under_length bank ss in omega (arith, l, h)) in
        let there : n < length rights = (let l = under_length bank ts in omega (arith, l, k)) in
        sym (parts
        ∙ ap₂ first (drop_more lefts n (var 0) here) (drop_more rights n (var 0) there)
        ∙ ap (λ (b : Bool). if b then first (drop (n + 1) lefts) (drop (n + 1) rights) else kbo_greater above weight (slice_index_or lefts n (var 0)) (slice_index_or rights n (var 0)))
        (common.other here there)
        ∙ ap₂ (kbo_greater above weight) (under_at bank ss n d h) (under_at bank ts n e k))
