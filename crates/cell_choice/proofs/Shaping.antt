-- The shapes of cells.
use Rattle.std.proofs.Common.{◌≡◌, inl, inr, ℕ, zero, suc, ◌+◌, ◌-◌, ◌*◌, ◌/◌, ◌%◌, ◌^◌, ◌<◌, Bool, if◌then◌else◌, max, List, [], ◌∷◌, ◌++◌, length, map, drop, get_or, refl, sym, ap, ◌∙◌, subst, append_assoc, arith}
use Rattle.std.proofs.Math.Nat.{div-lt_iff_lt-mul, mul-div_cancel_left, one-le-pow, pow-succ'}
use Rattle.std.proofs.Math.Seq.{drop-cons}
use Rattle.std.proofs.lemmas.Bool.{cases_lt, lt-ltb, le-ltb}
use Rattle.std.proofs.lemmas.List.{length-append, get_or_append_left, get_or-append_right, get_or_default}
use Rattle.std.proofs.lemmas.List.FromFn.{get_or-map-range_with_len, length-map-range_with_len}
use Rattle.mace_ground.specs.Cells.{Block, cell, cells_in, cell_at, digits}
use Rattle.mace_ground.specs.Spans.{block_of}
use Rattle.mace_ground.specs.declared.blocks.Block as code
use Rattle.mace_cells.specs.Numbers.{above_each}
use Rattle.cell_choice.specs.Shapes.{shape_of, block_shapes, cell_shapes}
use Rattle.fol_core.specs.declared.symbols.Kind.TheVariants.{Function}
use Rattle.cell_choice.specs.declared.shape.CellShape.{CellShape}

pub many_in_block : (n : ℕ) (b : Block) → length (block_shapes n b) ≡ n ^ b.arity
many_in_block n b = length-map-range_with_len (λ k. record { kind = b.kind; above = above_each (digits n b.arity k) }) 0 (n ^ b.arity)

pub shapes_many : (n : ℕ) (bs : List Block) → length (cell_shapes n bs) ≡ cells_in n bs
shapes_many n [] = refl
shapes_many n (b ∷ bs) = length-append (block_shapes n b) (cell_shapes n bs) ∙ ap (λ (k : ℕ). k + length (cell_shapes n bs)) (many_in_block n b) ∙ ap (λ (k : ℕ). n ^ b.arity + k) (shapes_many n bs)

-- each cell's shape stands at its number
pub shape_at : (n : ℕ) (bs : List Block) (k : ℕ) (d : CellShape) → k < cells_in n bs → get_or (cell_shapes n bs) k d ≡ shape_of (cell_at n bs k)
shape_at n [] k d h = absurd (omega (arith, h))
shape_at n (b ∷ bs) k d h = elim (cases_lt k (n ^ b.arity)) [
  | inl here ↦
      get_or_append_left (block_shapes n b) (cell_shapes n bs) d k (let many = many_in_block n b in omega (arith, here, many))
      ∙ get_or-map-range_with_len (λ k. record { kind = b.kind; above = above_each (digits n b.arity k) }) 0 (n ^ b.arity) k k d here (omega arith)
      ∙ ap (λ (t : Bool). shape_of (if t then cell b.kind b.symbol (digits n b.arity k) else cell_at n bs (k - n ^ b.arity))) (sym (lt-ltb _ _ here))
  | inr after ↦
      get_or-append_right (block_shapes n b) (cell_shapes n bs) (n ^ b.arity) k d (many_in_block n b) after ∙ shape_at n bs (k - n ^ b.arity) d (omega (arith, h, after))
      ∙ ap (λ (t : Bool). shape_of (if t then cell b.kind b.symbol (digits n b.arity k) else cell_at n bs (k - n ^ b.arity))) (sym (le-ltb _ _ after))
]

-- the index that some shapes give a cell by its number, 0 where there is none
abbrev pub above_at : List CellShape → ℕ → ℕ
above_at shapes k = (get_or shapes k (record { kind = Function; above = 0 })).above

pub index_is : (n : ℕ) (bs : List Block) (k : ℕ) → k < cells_in n bs → above_at (cell_shapes n bs) k ≡ above_each (cell_at n bs k).arguments
index_is n bs k h = ap (λ (s : CellShape). s.above) (shape_at n bs k _ h)

-- one block's cells after the other
pub shapes_next : (n : ℕ) (items : List code.Block) (i : ℕ) (b : code.Block) (done : List CellShape) → i < length items → b ≡ get_or items i b
    → (cells_in n (map block_of (drop i items)) ≡ n ^ b.arity + cells_in n (map block_of (drop (i + 1) items)))
    × ((done ++ block_shapes n (block_of b)) ++ cell_shapes n (map block_of (drop (i + 1) items)) ≡ done ++ cell_shapes n (map block_of (drop i items)))
shapes_next n items i b done h is =
    let same : suc i ≡ i + 1 = omega arith in
    let step : drop i items ≡ b ∷ drop (i + 1) items = drop-cons items i b h ∙ ap (λ (c : code.Block). c ∷ drop (suc i) items) (sym is) ∙ ap (λ (j : ℕ). b ∷ drop j items) same in (
      ap (λ (cs : List code.Block). cells_in n (map block_of cs)) step,
      append_assoc done (block_shapes n (block_of b)) (cell_shapes n (map block_of (drop (i + 1) items))) ∙ sym (ap (λ (cs : List code.Block). done ++ cell_shapes n (map block_of cs)) step),
    )

pub shapes_step : (n m cells : ℕ) (items : List code.Block) (i : ℕ) (d : code.Block) (done new all : List CellShape) → i < length items → m ≡ n → new ≡ done ++ block_shapes m (block_of (get_or items i d))
    → done ++ cell_shapes n (map block_of (drop i items)) ≡ all → length done + cells_in n (map block_of (drop i items)) ≡ cells
    → (new ++ cell_shapes n (map block_of (drop (i + 1) items)) ≡ all) × (length new + cells_in n (map block_of (drop (i + 1) items)) ≡ cells)
shapes_step n m cells items i d done new all h same was whole room =
    let is : new ≡ done ++ block_shapes n (block_of (get_or items i d)) = was ∙ ap (λ (k : ℕ). done ++ block_shapes k (block_of (get_or items i d))) same in
    let b = get_or items i d in
    let next = shapes_next n items i b done h (get_or_default items i d b h) in
    let many : length new ≡ length done + n ^ b.arity = ap (λ (xs : List CellShape). length xs) is ∙ length-append done (block_shapes n (block_of b)) ∙ ap (λ (k : ℕ). length done + k) (many_in_block n (block_of b)) in
    (ap (λ (xs : List CellShape). xs ++ cell_shapes n (map block_of (drop (i + 1) items))) is ∙ next.1 ∙ whole, omega (arith, many, next.0, room))

-- one argument after the other
pub digits_next : (n left k above : ℕ) → 0 < n → k < n ^ suc left
    → (n ^ suc left / n ≡ n ^ left) × (k / n ^ left < n) × (k % n ^ left < n ^ left) × (max (max (k / n ^ left + 1) above) (above_each (digits n left (k % n ^ left))) ≡ max above (above_each (digits n (suc left) k)))
digits_next n left k above some h =
    let power : 0 < n ^ left = one-le-pow left n some in
    let more : n ^ suc left ≡ n * n ^ left = pow-succ' n left in (
      ap (λ (p : ℕ). p / n) more ∙ mul-div_cancel_left (n ^ left) some,
      (div-lt_iff_lt-mul {k = n ^ left} {x = k} {y = n} power).1 (omega (arith, h, more)),
      omega (arith, power),
      omega arith,
    )

pub digits_down : (n left step rest above : ℕ) → 0 < n → 0 < left → step ≡ n ^ left → rest < step
    → (step / n ≡ n ^ (left - 1)) × (rest % (step / n) < step / n) × (rest / (step / n) < n) × (max (max (rest / (step / n) + 1) above) (above_each (digits n (left - 1) (rest % (step / n)))) ≡ max above (above_each (digits n left rest)))
digits_down n zero step rest above some left is below = absurd (omega (arith, left))
digits_down n (suc k) step rest above some left is below =
    let e : suc k - 1 ≡ k = omega arith in
    let d = digits_next n k rest above some (subst (λ (p : ℕ). rest < p) is below) in
    let s : step / n ≡ n ^ k = ap (λ (p : ℕ). p / n) is ∙ d.0 in
    rw (e, s) (refl, d.2, d.1, d.3)
