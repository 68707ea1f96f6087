-- Cells by number.
use Rattle.std.proofs.Common.{◌≡◌, ℕ, zero, suc, ◌+◌, ◌-◌, ◌*◌, ◌^◌, ◌<◌, ◌≤◌, ◌==◌, Bool, true, false, if◌then◌else◌, List, [], ◌∷◌, length, Option, Some, None, refl, sym, ap, ◌∙◌, arith}
use Rattle.std.proofs.Math.Nat.{pow-zero, pow-succ', mul-le-mul_right, suc-mul}
use Rattle.std.proofs.lemmas.Bool.{eqb-true, lt-ltb, le-ltb}
use Rattle.std.proofs.lemmas.Option.{none-some}
use Rattle.std.proofs.lemmas.Nat.{div-mul-add, mod-mul-add}
use Rattle.mace_ground.specs.Cells.{Block, cell, cells_in, cell_at, digits, found_from}
use Rattle.mace_ground.specs.GroundLaws.{CellsByNumber}
use Rattle.model_tables.specs.Size.{AllBelow}
use Rattle.model_tables.specs.Tables.{place_from}

pub place_split : (n p : ℕ) (xs : List ℕ) → place_from n p xs ≡ p * n ^ length xs + place_from n 0 xs
place_split n p [] = rw (pow-zero n) (omega arith)
place_split n p (x ∷ xs) =
    let left = place_split n (p * n + x) xs in
    let right = place_split n (0 * n + x) xs in
    let more : n ^ suc (length xs) ≡ n * n ^ length xs = pow-succ' n (length xs) in
    rw (left, right, more) (grind arith)

pub place_below : (n : ℕ) (xs : List ℕ) → AllBelow n xs → place_from n 0 xs < n ^ length xs
place_below n [] below = let one_more : n ^ zero ≡ 1 = pow-zero n in omega (arith, one_more)
place_below n (x ∷ xs) below =
    let split = place_split n (0 * n + x) xs in
    let rest : place_from n 0 xs < n ^ length xs = place_below n xs below.1 in
    let more : n ^ suc (length xs) ≡ n * n ^ length xs = pow-succ' n (length xs) in
    let row : suc x * n ^ length xs ≤ n * n ^ length xs = mul-le-mul_right {m = suc x} {n = n} (n ^ length xs) below.0 in
    let one_row = suc-mul x (n ^ length xs) in
    let zero_more : (0 * n + x) * n ^ length xs ≡ x * n ^ length xs = let same : 0 * n + x ≡ x = omega arith in rw same refl in
    rw more (omega (arith, split, zero_more, rest, row, one_row))

pub digits_of : (n : ℕ) (xs : List ℕ) → AllBelow n xs → digits n (length xs) (place_from n 0 xs) ≡ xs
digits_of n [] below = refl
digits_of n (x ∷ xs) below =
    let rest : place_from n 0 xs < n ^ length xs = place_below n xs below.1 in
    let same : 0 * n + x ≡ x = omega arith in
    let split : place_from n (0 * n + x) xs ≡ x * n ^ length xs + place_from n 0 xs = place_split n (0 * n + x) xs ∙ ap (λ (y : ℕ). y * n ^ length xs + place_from n 0 xs) same in
    rw (split, div-mul-add x (n ^ length xs) (place_from n 0 xs) rest, mod-mul-add x (n ^ length xs) (place_from n 0 xs) rest, digits_of n xs below.1) refl

-- what holds where cells begin at k, of a cell that is to be so far behind
record IsPlaced (n k : ℕ) (bs : List Block) (s first : ℕ) (b : Block) (xs : List ℕ) : Type 0 where
  behind : k ≤ first
  within : first - k + place_from n 0 xs < cells_in n bs
  is : cell_at n bs (first - k + place_from n 0 xs) ≡ cell b.kind s xs

abbrev number_of : Option (ℕ × Block) → ℕ
number_of None = 0
number_of (Some q) = q.0

abbrev block_in : Block → Option (ℕ × Block) → Block
block_in b None = b
block_in b (Some q) = q.1

module _ (n s first : ℕ) (b : Block) (xs : List ℕ) (many : length xs ≡ b.arity) (below : AllBelow n xs) where
  here : (k : ℕ) (a : Block) (bs : List Block) → s ≡ a.symbol → ◌≡◌ {A = Option (ℕ × Block)} (Some (k, a)) (Some (first, b)) → IsPlaced n k (a ∷ bs) s first b xs
  here k a bs same e =
      let k_is : k ≡ first = ap number_of e in
      let a_is : a ≡ b = ap (block_in b) e in
      let size : n ^ length xs ≡ n ^ a.arity = ap (λ (y : ℕ). n ^ y) (many ∙ sym (ap (λ (y : Block). y.arity) a_is)) in
      let fits : first - k + place_from n 0 xs < n ^ a.arity = omega (arith, k_is, size, place_below n xs below) in
      let zero_more : first - k + place_from n 0 xs ≡ place_from n 0 xs = omega (arith, k_is) in
      let arguments : digits n a.arity (first - k + place_from n 0 xs) ≡ xs = rw (zero_more, a_is, ← many) (digits_of n xs below) in
      record {
        behind = omega (arith, k_is);
        within = omega (arith, fits);
        is = rw (lt-ltb _ _ fits, arguments, ← same) (ap (λ (y : Block). cell y.kind s xs) a_is);
      }

  further : (k : ℕ) (a : Block) (bs : List Block) → IsPlaced n (k + n ^ a.arity) bs s first b xs → IsPlaced n k (a ∷ bs) s first b xs
  further k a bs p =
      let more : first - k + place_from n 0 xs - n ^ a.arity ≡ first - (k + n ^ a.arity) + place_from n 0 xs = omega (arith, p.behind) in
      let beyond : n ^ a.arity ≤ first - k + place_from n 0 xs = omega (arith, p.behind) in
      record {
        behind = omega (arith, p.behind);
        within = omega (arith, p.within, p.behind);
        is = rw (le-ltb _ _ beyond, more) p.is;
      }

  at : (k : ℕ) (bs : List Block) → found_from n k bs s ≡ Some (first, b) → IsPlaced n k bs s first b xs
  at k [] e = absurd (none-some _ e)
  at k (a ∷ bs) e = step (s == a.symbol) refl e (at (k + n ^ a.arity) bs)
    where
      step : (t : Bool) → (s == a.symbol) ≡ t → (if t then Some (k, a) else found_from n (k + n ^ a.arity) bs s) ≡ Some (first, b)
          → (found_from n (k + n ^ a.arity) bs s ≡ Some (first, b) → IsPlaced n (k + n ^ a.arity) bs s first b xs) → IsPlaced n k (a ∷ bs) s first b xs
      step true t e rest = here k a bs (eqb-true _ _ t) e
      step false t e rest = further k a bs (rest e)

pub by_number : CellsByNumber
by_number n blocks s first b xs e many below =
    let p = at n s first b xs many below 0 blocks e in
    let same : first - 0 ≡ first = omega arith in
    (rw same at p.within, rw same at p.is)
