-- Sums that stop at a greatest number.
use Rattle.std.proofs.Common.{◌≡◌, ℕ, zero, suc, ◌+◌, ◌*◌, ◌^◌, ◌<◌, ◌≤◌, min, List, [], ◌∷◌, ◌++◌, length, drop, get_or, refl, sym, ap, ◌∙◌, arith, add-one}
use Rattle.fol_core.specs.SymbolTable.{Symbol}
use Rattle.mace_ground.specs.Cells.{blocks_of, cells_in}
use Rattle.std.proofs.Math.Nat.{pow-suc, pow-le-pow_left, pow-le-pow_right, mul-le-mul_left}
use Rattle.std.proofs.Math.Seq.{drop-cons}

pub one_pow : (e : ℕ) → 1 ^ e ≡ 1
one_pow zero = refl
one_pow (suc e) = rw (pow-suc 1 e, one_pow e) refl

pub small_base : (b e : ℕ) → (e ≡ 0 → ⊥) → b < 2 → b ^ e ≡ b
small_base b zero more small = absurd (more refl)
small_base zero (suc e) more small = pow-suc 0 e ∙ omega arith
small_base (suc zero) (suc e) more small = one_pow (suc e)
small_base (suc (suc b)) (suc e) more small = absurd (omega arith)

pub great_power : (b e : ℕ) → 2 ≤ b → 128 ≤ e → 2 ^ 128 ≤ b ^ e
great_power b e big many =
    let left : 2 ^ 128 ≤ b ^ 128 = pow-le-pow_left big 128 in
    let right : b ^ 128 ≤ b ^ e = pow-le-pow_right (omega arith) many in
    omega (arith, left, right)

-- what the rest adds, once one of it is added
pub capped_step : (all part rest rest' most all' total : ℕ) → rest ≡ part + rest' → all' ≡ min (all + min part most) most → min (all + rest) most ≡ total → min (all' + rest') most ≡ total
capped_step all part rest rest' most all' total e f h = omega arith

pub capped_product : (x s m : ℕ) → min (x * min s m) m ≡ min (x * s) m
capped_product zero s m = omega arith
capped_product (suc x) s m = grind (arith, mul-le-mul_left)

pub next_of : {X : Type 0} → (xs : List X) (i : ℕ) (x : X) → i < length xs → x ≡ get_or xs i x → drop i xs ≡ x ∷ drop (i + 1) xs
next_of {X = X} xs i x l e = rw add-one (drop-cons xs i x l ∙ ap (λ (y : X). y ∷ drop (suc i) xs) (sym e))

pub cells_both : (n : ℕ) (table : List Symbol) (xs ys : List ℕ) → cells_in n (blocks_of table (xs ++ ys)) ≡ cells_in n (blocks_of table xs) + cells_in n (blocks_of table ys)
cells_both n table [] ys = omega arith
cells_both n table (x ∷ xs) ys = omega (arith, cells_both n table xs ys)
