-- Places past the end of a row.
use Rattle.std.proofs.Common.{◌≡◌, ℕ, zero, suc, ap, ◌+◌, ◌*◌, ◌<◌, ◌≤◌, List, [], ◌∷◌, length, get_or, min, inl, inr, refl, sym, ◌∙◌, arith}
use Rattle.std.proofs.lemmas.Bool.{cases_lt}
use Rattle.std.proofs.Math.Nat.{mul-le-mul_left}
use Rattle.std.proofs.lemmas.List.{get_or_past}
use Rattle.fol_core.specs.Tree.{nodes, nodes_of, trees_of}
use Rattle.fol_core.specs.TermView.{tree_of, tree_list}
use Rattle.fol_core.specs.declared.term.Term.{Term}
use Rattle.model_tables.specs.Tables.{place_from}

grows : (size p : ℕ) (xs : List ℕ) → 0 < size → p ≤ place_from size p xs
grows size p [] h = omega arith
grows size p (x ∷ xs) h = omega (arith, mul-le-mul_left p h, grows size (p * size + x) xs h)

-- what lies past the end stays there
pub past_end : (row : List ℕ) (size p : ℕ) (xs : List ℕ) → 0 < size → length row ≤ p → get_or row (place_from size p xs) 0 ≡ 0
past_end row size p xs h past = get_or_past row (place_from size p xs) 0 (omega (arith, grows size p xs h))

pub both_past : (row : List ℕ) (size p q : ℕ) (xs : List ℕ) → 0 < size → length row ≤ p → length row ≤ q → get_or row (place_from size p xs) 0 ≡ get_or row (place_from size q xs) 0
both_past row size p q xs h a b = past_end row size p xs h a ∙ sym (past_end row size q xs h b)

-- the place, or the end where the place is past it
pub capped : (row : List ℕ) (size q end : ℕ) (xs : List ℕ) → 0 < size → end ≡ length row → get_or row (place_from size (min q end) xs) 0 ≡ get_or row (place_from size q xs) 0
capped row size q end xs h e = elim (cases_lt q end) [
  | inl lt ↦ let k : min q end ≡ q = omega arith in rw k refl
  | inr le ↦ both_past row size (min q end) q xs h (omega arith) (omega arith)
]

-- an argument has no more nodes than all of them
pub argument_smaller : (items : List Term) (i : ℕ) (x : Term) → i < length items → x ≡ get_or items i x → nodes (tree_of x) ≤ nodes_of (trees_of (tree_list items))
argument_smaller [] i x h e = absurd (omega arith)
argument_smaller (t ∷ ts) zero x h e = let k : nodes (tree_of x) ≡ nodes (tree_of t) = ap (λ (y : Term). nodes (tree_of y)) e in omega arith
argument_smaller (t ∷ ts) (suc i) x h e = omega (arith, argument_smaller ts i x (omega arith) e)
