-- How large what is left is, one literal after the other.
use Rattle.std.proofs.Common.{◌≡◌, ℕ, ◌+◌, ◌<◌, ◌≤◌, Bool, true, false, nat_lt, ◌||◌, max, List, [], ◌∷◌, ◌++◌, length, take, slice_index_or, refl, sym, ap, ap₂, ◌∙◌, arith}
use Rattle.std.proofs.lemmas.Bool.{lt-ltb, le-ltb, ltb-true, ltb-false}
use Rattle.std.proofs.lemmas.List.{map_more, take_all}
use Rattle.clause_limits.specs.Sizes.{clause_size, clause_depth, is_too_large, measured, beside}
use Rattle.clause_limits.specs.declared.measured.Measure.{Measure}
use Rattle.fol_core.specs.Literals.{Lit, ClauseTree}
use Rattle.fol_core.specs.Sizes.{size_of, depth_of, saturated}
use Rattle.substitutions.specs.Apart.{Own}
use Rattle.inference.specs.Left.{all_left, left_clause, left_literal, left_tree}
use Rattle.inference.specs.Measured.{clause_measured}
use Rattle.inference.specs.declared.left.Left.{Left}
use Rattle.inference.proofs.RuleSteps.{left_beside}

abbrev pub measure_of : ℕ → ℕ → Measure
measure_of s d = record { size = s; depth = d }

size_push : (c : ClauseTree) (l : Lit) → clause_size (c ++ l ∷ []) ≡ clause_size c + size_of l.atom
size_push [] l = omega arith
size_push (k ∷ c) l = let e = size_push c l in omega (arith, e)

depth_push : (c : ClauseTree) (l : Lit) → clause_depth (c ++ l ∷ []) ≡ max (clause_depth c) (depth_of l.atom)
depth_push [] l = omega arith
depth_push (k ∷ c) l = let e = depth_push c l in omega (arith, e)

size_beside : (c : ClauseTree) (l : Lit) → saturated (saturated (clause_size c) + saturated (size_of l.atom)) ≡ saturated (clause_size (c ++ l ∷ []))
size_beside c l = let e = size_push c l in omega (arith, e)

depth_beside : (c : ClauseTree) (l : Lit) → max (saturated (clause_depth c)) (saturated (depth_of l.atom)) ≡ saturated (clause_depth (c ++ l ∷ []))
depth_beside c l = let e = depth_push c l in omega (arith, e)

-- a literal more
pub literal_beside : (c : ClauseTree) (l : Lit) (m n all : Measure) → m ≡ clause_measured c → n ≡ measured l.atom → all ≡ beside m n → all ≡ clause_measured (c ++ l ∷ [])
literal_beside c l m n all before one is = is ∙ ap₂ beside before one ∙ ap₂ measure_of (size_beside c l) (depth_beside c l)

-- what is left with the next literal
pub left_next : (own : Own) (ls : List Left) (i : ℕ) (l : Left) → i < length ls → l ≡ slice_index_or ls i l → left_clause own (all_left (take (i + 1) ls)) ≡ left_clause own (all_left (take i ls)) ++ left_literal own (left_tree l) ∷ []
left_next own ls i l h at =
    ap (left_clause own) (map_more left_tree ls i l h ∙ ap (λ k. all_left (take i ls) ++ left_tree k ∷ []) (sym at)) ∙ left_beside own (all_left (take i ls)) (left_tree l ∷ [])

pub measured_next : (own : Own) (ls : List Left) (i : ℕ) (l : Left) (m n all : Measure) → i < length ls → l ≡ slice_index_or ls i l → m ≡ clause_measured (left_clause own (all_left (take i ls))) → n ≡ measured (left_literal own (left_tree l)).atom → all ≡ beside m n
    → all ≡ clause_measured (left_clause own (all_left (take (i + 1) ls)))
measured_next own ls i l m n all h at before one is =
    literal_beside (left_clause own (all_left (take i ls))) (left_literal own (left_tree l)) m n all before one is ∙ ap clause_measured (sym (left_next own ls i l h at))

lt_saturated : (n k : ℕ) → n < 18446744073709551615 → nat_lt n (saturated k) ≡ nat_lt n k
lt_saturated n k small = by (nat_lt n k) refl
  where
    by : (b : Bool) → nat_lt n k ≡ b → nat_lt n (saturated k) ≡ b
    by true e = lt-ltb n (saturated k) (let h = ltb-true n k e in omega (arith, h, small))
    by false e = le-ltb n (saturated k) (let h = ltb-false n k e in omega (arith, h))

pub measured_all_left : (own : Own) (ls : List Left) (i : ℕ) (m : Measure) → length ls ≤ i → m ≡ clause_measured (left_clause own (all_left (take i ls))) → m ≡ clause_measured (left_clause own (all_left ls))
measured_all_left own ls i m h is = is ∙ ap (λ ks. clause_measured (left_clause own (all_left ks))) (take_all i ls h)

pub larger : (c : ClauseTree) (m : Measure) → m ≡ clause_measured c → (nat_lt 1000 m.depth || nat_lt 1000000 m.size) ≡ is_too_large c
larger c m is =
    ap (λ (n : Measure). nat_lt 1000 n.depth || nat_lt 1000000 n.size) is
    ∙ ap₂ (λ a b. a || b) (lt_saturated 1000 (clause_depth c) (omega arith)) (lt_saturated 1000000 (clause_size c) (omega arith))
