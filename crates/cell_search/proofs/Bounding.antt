-- What the values of cells are below.
use Rattle.std.proofs.Common.{◌≡◌, ℕ, zero, suc, ◌+◌, ◌-◌, ◌*◌, ◌%◌, ◌^◌, ◌<◌, ◌≤◌, nat_lt, Bool, true, false, if◌then◌else◌, max, List, [], ◌∷◌, ◌++◌, length, map, drop, get_or, replicate, refl, sym, ap, ◌∙◌, subst, inl, inr, append_assoc, arith}
use Rattle.std.proofs.Math.Nat.{div-lt_iff_lt-mul, one-le-pow, pow-succ'}
use Rattle.std.proofs.Math.Seq.{drop-cons}
use Rattle.std.proofs.lemmas.Bool.{cases_lt, lt-ltb, le-ltb, ltb-true}
use Rattle.std.proofs.lemmas.List.{length-replicate, length-append}
use Rattle.fol_core.specs.Meaning.{Meaning, AllWithin}
use Rattle.fol_core.specs.declared.symbols.Kind.{Kind}
use Rattle.fol_core.specs.declared.symbols.Kind.TheVariants.{Function, Relation}
use Rattle.mace_cells.specs.World.{World, Solves, cell_of, many_cells}
use Rattle.mace_ground.specs.Cells.{Block, Cell, cell, cells_in, cell_at, digits, value_at, value_of_kind}
use Rattle.mace_ground.specs.Spans.{block_of}
use Rattle.mace_ground.specs.declared.blocks.Block as code
use Rattle.model_tables.specs.Size.{AllBelow, bound_of}
use Rattle.cell_search.specs.Bounds.{cell_bounds}

pub bounds_many : (n : ℕ) (bs : List Block) → length (cell_bounds n bs) ≡ cells_in n bs
bounds_many n [] = refl
bounds_many n (b ∷ bs) = length-append (replicate (n ^ b.arity) (bound_of n b.kind)) (cell_bounds n bs) ∙ ap (λ (k : ℕ). k + length (cell_bounds n bs)) (length-replicate (n ^ b.arity) (bound_of n b.kind)) ∙ ap (λ (k : ℕ). n ^ b.arity + k) (bounds_many n bs)

in_replicate : (x d : ℕ) (n k : ℕ) (rest : List ℕ) → k < n → get_or (replicate n x ++ rest) k d ≡ x
in_replicate x d zero k rest h = absurd (omega (arith, h))
in_replicate x d (suc n) zero rest h = refl
in_replicate x d (suc n) (suc k) rest h = in_replicate x d n k rest (omega (arith, h))

behind_replicate : (x d : ℕ) (n k : ℕ) (rest : List ℕ) → n ≤ k → get_or (replicate n x ++ rest) k d ≡ get_or rest (k - n) d
behind_replicate x d zero k rest h = let same : k - 0 ≡ k = omega arith in rw same refl
behind_replicate x d (suc n) zero rest h = absurd (omega (arith, h))
behind_replicate x d (suc n) (suc k) rest h = let same : suc k - suc n ≡ k - n = omega arith in rw same (behind_replicate x d n k rest (omega (arith, h)))

pub bound_at : (n : ℕ) (bs : List Block) (k d : ℕ) → k < cells_in n bs → get_or (cell_bounds n bs) k d ≡ bound_of n (cell_at n bs k).kind
bound_at n [] k d h = absurd (omega (arith, h))
bound_at n (b ∷ bs) k d h = elim (cases_lt k (n ^ b.arity)) [
  | inl here ↦ in_replicate (bound_of n b.kind) d (n ^ b.arity) k (cell_bounds n bs) here ∙ ap (λ (t : Bool). bound_of n (if t then cell b.kind b.symbol (digits n b.arity k) else cell_at n bs (k - n ^ b.arity)).kind) (sym (lt-ltb _ _ here))
  | inr after ↦
      behind_replicate (bound_of n b.kind) d (n ^ b.arity) k (cell_bounds n bs) after ∙ bound_at n bs (k - n ^ b.arity) d (omega (arith, h, after))
      ∙ ap (λ (t : Bool). bound_of n (if t then cell b.kind b.symbol (digits n b.arity k) else cell_at n bs (k - n ^ b.arity)).kind) (sym (le-ltb _ _ after))
]

pub bound_fits : (n : ℕ) (kind : Kind) → bound_of n kind ≤ max n 2
bound_fits n Function = omega arith
bound_fits n Relation = omega arith

pub bound_some : (n : ℕ) (kind : Kind) → 0 < n → 0 < bound_of n kind
bound_some n Function some = some
bound_some n Relation some = omega arith

-- the arguments of a cell are elements
digits_below : (n a k : ℕ) → 0 < n → k < n ^ a → AllBelow n (digits n a k)
digits_below n zero k some h = tt
digits_below n (suc a) k some h =
    let power : 0 < n ^ a = one-le-pow a n some in
    let more : n ^ suc a ≡ n * n ^ a = pow-succ' n a in
    ((div-lt_iff_lt-mul {k = n ^ a} {x = k} {y = n} power).1 (omega (arith, h, more)), digits_below n a (k % n ^ a) some (omega (arith, power)))

pub arguments_below : (n : ℕ) (bs : List Block) (k : ℕ) → 0 < n → k < cells_in n bs → AllBelow n (cell_at n bs k).arguments
arguments_below n [] k some h = absurd (omega (arith, h))
arguments_below n (b ∷ bs) k some h = elim (cases_lt k (n ^ b.arity)) [
  | inl here ↦ subst (λ (t : Bool). AllBelow n (if t then cell b.kind b.symbol (digits n b.arity k) else cell_at n bs (k - n ^ b.arity)).arguments) (sym (lt-ltb _ _ here)) (digits_below n b.arity k some here)
  | inr after ↦ subst (λ (t : Bool). AllBelow n (if t then cell b.kind b.symbol (digits n b.arity k) else cell_at n bs (k - n ^ b.arity)).arguments) (sym (le-ltb _ _ after)) (arguments_below n bs (k - n ^ b.arity) some (omega (arith, h, after)))
]

all_within : (n : ℕ) (m : Meaning) (xs : List ℕ) → ((x : ℕ) → m.within x ≡ nat_lt x n) → AllBelow n xs → AllWithin m xs
all_within n m [] size below = tt
all_within n m (x ∷ xs) size below = (size x ∙ lt-ltb _ _ below.0, all_within n m xs size below.1)

-- so is each of its values in a solution
pub value_below : (w : World) (m : Meaning) (k : ℕ) → 0 < w.size → Solves w m → k < many_cells w → value_at m (cell_of w k) < bound_of w.size (cell_of w k).kind
value_below w m k some s h = by (cell_of w k) (arguments_below w.size w.blocks k some h)
  where
    by_kind : (kind : Kind) (symbol : ℕ) (xs : List ℕ) → AllBelow w.size xs → value_of_kind m kind symbol xs < bound_of w.size kind
    by_kind Function symbol xs below = ltb-true _ _ (sym (s.size (m.function symbol xs)) ∙ s.lawful.closed symbol xs (all_within w.size m xs s.size below))
    by_kind Relation symbol xs below = truth (m.relation symbol xs)
      where
        truth : (b : Bool) → (if b then 1 else 0) < 2
        truth true = omega arith
        truth false = omega arith

    by : (c : Cell) → AllBelow w.size c.arguments → value_at m c < bound_of w.size c.kind
    by c below = by_kind c.kind c.symbol c.arguments below

-- one block's cells after the other
pub bounds_next : (n : ℕ) (items : List code.Block) (i : ℕ) (b : code.Block) (done : List ℕ) → i < length items → b ≡ get_or items i b
    → (cells_in n (map block_of (drop i items)) ≡ n ^ b.arity + cells_in n (map block_of (drop (i + 1) items)))
    × ((done ++ replicate (n ^ b.arity) (bound_of n b.kind)) ++ cell_bounds n (map block_of (drop (i + 1) items)) ≡ done ++ cell_bounds n (map block_of (drop i items)))
bounds_next n items i b done h is =
    let same : suc i ≡ i + 1 = omega arith in
    let step : drop i items ≡ b ∷ drop (i + 1) items = drop-cons items i b h ∙ ap (λ (c : code.Block). c ∷ drop (suc i) items) (sym is) ∙ ap (λ (j : ℕ). b ∷ drop j items) same in (
      ap (λ (cs : List code.Block). cells_in n (map block_of cs)) step,
      append_assoc done (replicate (n ^ b.arity) (bound_of n b.kind)) (cell_bounds n (map block_of (drop (i + 1) items))) ∙ sym (ap (λ (cs : List code.Block). done ++ cell_bounds n (map block_of cs)) step),
    )
