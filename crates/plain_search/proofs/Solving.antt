-- Each leaf is a solution.
use Rattle.std.proofs.Common.{◌≡◌, ℕ, zero, suc, ◌+◌, ◌<◌, ◌==◌, nat_lt, Bool, true, false, if◌then◌else◌, List, [], ◌∷◌, length, inl, inr, refl, sym, ap, subst, arith}
use Rattle.std.specs.List.{range_with_len}
use Rattle.std.proofs.lemmas.Bool.{eqb-true, eqb-false, lt-ltb}
use Rattle.fol_core.specs.Meaning.{IsLawful}
use Rattle.fol_core.specs.declared.symbols.Kind.{Kind}
use Rattle.fol_core.specs.declared.symbols.Kind.TheVariants.{Function, Relation}
use Rattle.mace_cells.specs.World.{World}
use Rattle.mace_ground.specs.Cells.{cell, value_of_kind}
use Rattle.model_tables.specs.Size.{bound_of}
use Rattle.plain_search.proofs.Ending.{leaves_are_models}
use Rattle.plain_search.proofs.Parting.{leaf_below}
use Rattle.plain_search.proofs.Rising.{IsBelow}
use Rattle.plain_search.specs.Lefts.{ValuesLeft, Extends, IsAmong, all_left}
use Rattle.plain_search.specs.Parting.{LeavesSolve, first_left, meaning_at}

first_there : (us : List ℕ) → 0 < length us → IsAmong (first_left us) us
first_there [] some = absurd (omega (arith, some))
first_there (u ∷ us) some = inl refl

ranged : (x a n : ℕ) → IsAmong x (range_with_len a n) → x < a + n
ranged x a zero i = absurd i
ranged x a (suc n) (inl same) = omega (arith, same)
ranged x a (suc n) (inr i) = let less = ranged x (a + 1) n i in omega (arith, less)

module _ (w : World) (p : ValuesLeft) (some : 0 < w.size) (below : IsBelow (all_left w) p) where
  first_in : (kind : Kind) (s : ℕ) (xs : List ℕ) → IsAmong (first_left (p (cell kind s xs))) (p (cell kind s xs))
  first_in kind s xs = first_there (p (cell kind s xs)) (below.0 (cell kind s xs)).1

  first_less : (kind : Kind) (s : ℕ) (xs : List ℕ) → first_left (p (cell kind s xs)) < bound_of w.size kind
  first_less kind s xs =
      let less = ranged (first_left (p (cell kind s xs))) 0 (bound_of w.size kind) (below.1 (cell kind s xs) (first_left (p (cell kind s xs))) (first_in kind s xs)) in
      omega (arith, less)

  as_truth : (us : List ℕ) → IsAmong (first_left us) us → first_left us < 2 → IsAmong (if first_left us == 1 then 1 else 0) us
  as_truth us there less = by (first_left us == 1) refl
    where
      by : (b : Bool) → (first_left us == 1) ≡ b → IsAmong (if b then 1 else 0) us
      by true e = let same = eqb-true (first_left us) 1 e in subst (λ (x : ℕ). IsAmong x us) same there
      by false e =
          let other = eqb-false (first_left us) 1 e in
          let none : first_left us ≡ 0 = omega (arith, other, less) in
          subst (λ (x : ℕ). IsAmong x us) none there

  value_there : (kind : Kind) (s : ℕ) (xs : List ℕ) → IsAmong (value_of_kind (meaning_at w p) kind s xs) (p (cell kind s xs))
  value_there Function s xs = first_in Function s xs
  value_there Relation s xs = as_truth (p (cell Relation s xs)) (first_in Relation s xs) (first_less Relation s xs)

  lawful_at : IsLawful (meaning_at w p)
  lawful_at = record {
    element = (0, lt-ltb 0 w.size some);
    closed = λ f xs within. lt-ltb (first_left (p (cell Function f xs))) w.size (first_less Function f xs);
  }

  extends_at : Extends w.size (meaning_at w p) p
  extends_at c arguments = value_there c.kind c.symbol c.arguments

pub leaves_solve : LeavesSolve
leaves_solve w p some clauses one =
    let below = leaf_below w p some one in
    let extends = extends_at w p some below in
    (leaves_are_models w p (meaning_at w p) clauses one (λ x. refl) (lawful_at w p some below) extends, extends)
