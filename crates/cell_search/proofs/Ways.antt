-- Ways through all instances, one for each clause.
use Rattle.std.proofs.Common.{◌≡◌, ℕ, zero, suc, ◌+◌, List, [], ◌∷◌, ◌++◌, length, get_or, inl, inr, sym, ap, ◌∙◌, subst, arith}
use Rattle.std.specs.List.{range_with_len}
use Rattle.std.proofs.lemmas.Bool.{cases_lt}
use Rattle.std.proofs.lemmas.List.{get_or_append_left, get_or_push, length-append}
use Rattle.fol_core.specs.Literals.{ClauseTree}
use Rattle.cell_search.specs.Covering.{IsWholeWay, AreWaysThrough}
use Rattle.cell_search.specs.declared.walk.Walk.{Walk}

range_longer : (a n : ℕ) → range_with_len a (suc n) ≡ range_with_len a n ++ (a + n) ∷ []
range_longer a zero = let same : a ≡ a + 0 = omega arith in ap (λ (y : ℕ). y ∷ []) same
range_longer a (suc n) =
    let same : a + 1 + n ≡ a + suc n = omega arith in
    ap (λ (ys : List ℕ). a ∷ ys) (range_longer (a + 1) n ∙ ap (λ (y : ℕ). range_with_len (a + 1) n ++ y ∷ []) same)

pub range_more : (n : ℕ) → range_with_len 0 (n + 1) ≡ range_with_len 0 n ++ n ∷ []
range_more n =
    let more : n + 1 ≡ suc n = omega arith in
    let same : 0 + n ≡ n = omega arith in
    ap (λ (k : ℕ). range_with_len 0 k) more ∙ range_longer 0 n ∙ ap (λ (y : ℕ). range_with_len 0 n ++ y ∷ []) same

pub through_more : (cs : List ClauseTree) (walks : List Walk) (i : ℕ) (walk : Walk) → length walks ≡ i → AreWaysThrough cs walks → ((c : ClauseTree) → c ≡ get_or cs i c → IsWholeWay c i walk)
    → AreWaysThrough cs (walks ++ walk ∷ [])
through_more cs walks i walk many before here j c other at inside is = elim (cases_lt j (length walks)) [
  | inl earlier ↦ before j c other at earlier (is ∙ get_or_append_left walks (walk ∷ []) other j earlier)
  | inr now ↦
      let long = length-append walks (walk ∷ []) in
      let same : i ≡ j = omega (arith, many, now, inside, long) in
      let one : other ≡ walk = is ∙ get_or_push walks walk other j (many ∙ same) in
      subst (λ (v : Walk). IsWholeWay c j v) (sym one) (subst (λ (n : ℕ). IsWholeWay c n walk) same (here c (at.1 ∙ ap (λ (n : ℕ). get_or cs n c) (sym same))))
]
