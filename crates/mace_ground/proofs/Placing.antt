-- One more block.
use Rattle.std.proofs.Common.{◌≡◌, ℕ, suc, ◌+◌, ◌^◌, ◌<◌, ◌==◌, Bool, true, false, if◌then◌else◌, List, [], ◌∷◌, ◌++◌, length, map, drop, Option, Some, None, get_or, refl, sym, ap, ◌∙◌, add-one, append_assoc, arith}
use Rattle.std.proofs.Math.Seq.{drop-cons}
use Rattle.std.specs.Option.{option_map}
use Rattle.fol_core.specs.SymbolTable.{Symbol, arity_at, kind_at}
use Rattle.mace_ground.specs.Cells.{blocks_of, cells_in, found, found_from}
use Rattle.mace_ground.specs.Cells as cells
use Rattle.mace_ground.specs.Spans.{Placed, placed, block_of, span_of, span_noted, ArePlaced}
use Rattle.mace_ground.specs.declared.blocks.Block.{Block}
use Rattle.mace_ground.specs.declared.blocks.Span.{Span}

-- what is found once there is one more block
abbrev pub found_or : ℕ → cells.Block → ℕ → Option (ℕ × cells.Block) → Option (ℕ × cells.Block)
found_or first b s None = if s == b.symbol then Some (first, b) else None
found_or first b s (Some q) = Some q

abbrev step : ℕ → ℕ → cells.Block → ℕ → Bool → Option (ℕ × cells.Block) → Option (ℕ × cells.Block)
step k first b s here rest = if here then Some (k, b) else rest

found_last : (n k : ℕ) (bs : List cells.Block) (b : cells.Block) (s : ℕ) → found_from n k (bs ++ b ∷ []) s ≡ found_or (k + cells_in n bs) b s (found_from n k bs s)
found_last n k [] b s = let same : k + 0 ≡ k = omega arith in rw same refl
found_last n k (a ∷ bs) b s =
    let same : k + n ^ a.arity + cells_in n bs ≡ k + (n ^ a.arity + cells_in n bs) = omega arith in
    both (s == a.symbol) (rw same at (found_last n (k + n ^ a.arity) bs b s))
  where
    both : (here : Bool) → found_from n (k + n ^ a.arity) (bs ++ b ∷ []) s ≡ found_or (k + (n ^ a.arity + cells_in n bs)) b s (found_from n (k + n ^ a.arity) bs s)
        → (if here then Some (k, a) else found_from n (k + n ^ a.arity) (bs ++ b ∷ []) s) ≡ found_or (k + (n ^ a.arity + cells_in n bs)) b s (if here then Some (k, a) else found_from n (k + n ^ a.arity) bs s)
    both true h = refl
    both false h = h

noted_found : (span : Span) (s : ℕ) (o : Option Span) → option_map span_of (span_noted span s o) ≡ found_or span.first (block_of span.block) s (option_map span_of o)
noted_found span s (Some o) = refl
noted_found span s None = cases (s == span.block.symbol.0)
  where
    cases : (b : Bool) → option_map span_of (if b then Some span else None) ≡ (if b then Some (span.first, block_of span.block) else None)
    cases true = refl
    cases false = refl

pub placed_more : (n : ℕ) (bs : List cells.Block) (span : Span) (spans spans' : List (Option Span)) → span.first ≡ cells_in n bs → ArePlaced n bs spans
    → ((s : ℕ) → get_or spans' s None ≡ span_noted span s (get_or spans s None)) → ArePlaced n (bs ++ block_of span.block ∷ []) spans'
placed_more n bs span spans spans' first old new = λ s.
    ap (λ (o : Option Span). option_map span_of o) (new s) ∙ noted_found span s (get_or spans s None)
    ∙ ap (λ (q : Option (ℕ × cells.Block)). found_or span.first (block_of span.block) s q) (old s)
    ∙ ap (λ (k : ℕ). found_or k (block_of span.block) s (found n bs s)) (first ∙ zero_more)
    ∙ sym (found_last n 0 bs (block_of span.block) s)
  where
    zero_more : cells_in n bs ≡ 0 + cells_in n bs
    zero_more = omega arith

pub cells_more : (n : ℕ) (bs : List cells.Block) (b : cells.Block) → cells_in n (bs ++ b ∷ []) ≡ cells_in n bs + n ^ b.arity
cells_more n [] b = omega arith
cells_more n (a ∷ bs) b = omega (arith, cells_more n bs b)

pub blocks_more : (bs : List Block) (b : Block) → map block_of (bs ++ b ∷ []) ≡ map block_of bs ++ block_of b ∷ []
blocks_more [] b = refl
blocks_more (a ∷ bs) b = ap (λ (cs : List cells.Block). block_of a ∷ cs) (blocks_more bs b)

-- a further block of a list
pub one_further : (old now rest rest' all : List cells.Block) (b : cells.Block) → now ≡ old ++ b ∷ [] → rest ≡ b ∷ rest' → old ++ rest ≡ all → now ++ rest' ≡ all
one_further old now rest rest' all b e f h = ap (λ (bs : List cells.Block). bs ++ rest') e ∙ append_assoc old (b ∷ []) rest' ∙ ap (λ (bs : List cells.Block). old ++ bs) (sym f) ∙ h

pub room_further : (n : ℕ) (old now rest rest' : List cells.Block) (b : cells.Block) (most : ℕ) → now ≡ old ++ b ∷ [] → rest ≡ b ∷ rest' → cells_in n old + cells_in n rest < most
    → cells_in n now + cells_in n rest' < most
room_further n old now rest rest' b most e f h =
    let more = cells_more n old b in
    let left : cells_in n now ≡ cells_in n (old ++ b ∷ []) = ap (cells_in n) e in
    let right : cells_in n rest ≡ n ^ b.arity + cells_in n rest' = ap (cells_in n) f in
    omega (arith, more, left, right, h)

-- the first of the blocks that are left
pub first_left : {X : Type 0} → (f : X → ℕ) (table : List Symbol) (xs : List X) (i : ℕ) (x d : X) → i < length xs → x ≡ get_or xs i d
    → blocks_of table (map f (drop i xs)) ≡ record { kind = kind_at table (f x); symbol = f x; arity = arity_at table (f x) } ∷ blocks_of table (map f (drop (i + 1) xs))
first_left {X = X} f table xs i x d l e =
    let next : drop i xs ≡ x ∷ drop (i + 1) xs = rw add-one (drop-cons xs i d l ∙ ap (λ (y : X). y ∷ drop (suc i) xs) (sym e)) in
    ap (λ (ys : List X). blocks_of table (map f ys)) next

-- one block put in
pub goes_on : (size : ℕ) (all : List cells.Block) (most : ℕ) (old new : Placed) (b : cells.Block) (rest rest' : List cells.Block)
    → new ≡ placed old.size (old.blocks ++ b ∷ []) → rest ≡ b ∷ rest' → old.size ≡ size → old.blocks ++ rest ≡ all → cells_in old.size old.blocks + cells_in old.size rest < most
    → (new.size ≡ size) × (new.blocks ++ rest' ≡ all) × (cells_in new.size new.blocks + cells_in new.size rest' < most)
goes_on size all most old new b rest rest' e f s h room =
    rw e (s, one_further old.blocks (old.blocks ++ b ∷ []) rest rest' all b refl f h, room_further old.size old.blocks (old.blocks ++ b ∷ []) rest rest' b most refl f room)
