-- The tables have the values of the cells.
use Rattle.std.proofs.Common.{◌≡◌, ℕ, zero, suc, ◌+◌, ◌-◌, ◌*◌, ◌/◌, ◌%◌, ◌^◌, ◌<◌, ◌≤◌, ◌==◌, ◌||◌, nat_lt, nat_le, Bool, true, false, if◌then◌else◌, max, List, [], ◌∷◌, length, map, get_or, slice_get, slice_index, Option, None, Some, unwrap_or, inl, inr, refl, sym, ap, ◌∙◌, subst, arith}
use Rattle.std.specs.List.{range_with_len}
use Rattle.std.specs.Option.{option_map_or}
use Rattle.std.proofs.Math.Nat.{div-add-mod', one-le-pow, pow-zero}
use Rattle.std.proofs.lemmas.Bool.{cases_lt, eqb-true, lt-ltb, le-ltb}
use Rattle.std.proofs.lemmas.Bool.Decides.{nat_tests}
use Rattle.std.proofs.lemmas.List.FromFn.{get_or-map-range_with_len, length-map-range_with_len}
use Rattle.std.proofs.lemmas.Option.{none-some, same_Some, slice_get-get_or, slice_get_past}
use Rattle.fol_core.specs.Bound.{IsOnce}
use Rattle.fol_core.specs.Free.{is_in}
use Rattle.fol_core.specs.declared.symbols.Kind.{Kind}
use Rattle.fol_core.specs.declared.symbols.Kind.TheVariants.{Function, Relation}
use Rattle.mace_cells.specs.Trails.{value_in}
use Rattle.mace_cells.specs.World.{World, cell_of, many_cells}
use Rattle.mace_cells.specs.declared.trail.TrailEntry.{TrailEntry}
use Rattle.mace_ground.proofs.Numbering.{place_split}
use Rattle.mace_ground.specs.Cells.{Block, Cell, cell, cells_in, cell_at, digits, found, found_from, value_at, value_of_kind}
use Rattle.model_tables.specs.Size.{bound_of, AllBelow}
use Rattle.model_tables.specs.Tables.{Listing, listing, place_from, listed_value, row_of}
use Rattle.cell_search.specs.Finites.{cell_values, values_in, values_of_symbol, above_symbols, finite_of, meaning_by_cells, IsRowFor, AreTablesFor}
use Rattle.cell_search.specs.Full.{IsFull}
use Rattle.cell_search.specs.Losses.{Extends}
use Rattle.cell_search.proofs.Seeing.{found_within}

-- a cell by its block and its place in it
pub record IsLocated (n from : ℕ) (bs : List Block) (k : ℕ) : Type 0 where
  pub first : ℕ
  pub place : ℕ
  pub block : Block
  pub found_is : found_from n from bs block.symbol ≡ Some (first, block)
  pub number : first + place ≡ from + k
  pub within : place < n ^ block.arity
  pub names : cell_at n bs k ≡ cell block.kind block.symbol (digits n block.arity place)
  pub there : is_in block.symbol (map (λ b. b.symbol) bs) ≡ true

eqb_same : (a : ℕ) → (a == a) ≡ true
eqb_same a = grind (arith, nat_tests)

pub located : (n from : ℕ) (bs : List Block) (k : ℕ) → IsOnce (map (λ b. b.symbol) bs) → k < cells_in n bs → IsLocated n from bs k
located n from [] k once h = absurd (omega (arith, h))
located n from (b ∷ bs) k once h = elim (cases_lt k (n ^ b.arity)) [
  | inl here ↦ record {
    first = from;
    place = k;
    block = b;
    found_is = rw (eqb_same b.symbol) refl;
    number = refl;
    within = here;
    names = rw (lt-ltb _ _ here) refl;
    there = rw (eqb_same b.symbol) refl;
  }
  | inr after ↦ further (located n (from + n ^ b.arity) bs (k - n ^ b.arity) once.1 (omega (arith, h, after))) after
]
  where
    further : IsLocated n (from + n ^ b.arity) bs (k - n ^ b.arity) → n ^ b.arity ≤ k → IsLocated n from (b ∷ bs) k
    further l after =
        let apart : (l.block.symbol == b.symbol) ≡ false = other l.block.symbol (l.block.symbol == b.symbol) refl l.there in
        let number : l.first + l.place ≡ from + k = omega (arith, l.number, after) in record {
          first = l.first;
          place = l.place;
          block = l.block;
          found_is = rw apart l.found_is;
          number = number;
          within = l.within;
          names = rw (le-ltb _ _ after) l.names;
          there = rw l.there (or_right (l.block.symbol == b.symbol));
        }
      where
        or_right : (a : Bool) → (a || true) ≡ true
        or_right true = refl
        or_right false = refl

        other : (s : ℕ) (t : Bool) → (s == b.symbol) ≡ t → is_in s (map (λ c. c.symbol) bs) ≡ true → t ≡ false
        other s true e there = absurd (let h : false ≡ true = sym once.0 ∙ ap (λ (x : ℕ). is_in x (map (λ c. c.symbol) bs)) (sym (eqb-true _ _ e)) ∙ there in cc)
        other s false e there = refl

digits_many : (n a k : ℕ) → length (digits n a k) ≡ a
digits_many n zero k = refl
digits_many n (suc a) k = ap suc (digits_many n a (k % n ^ a))

place_of_digits : (n a k : ℕ) → 0 < n → k < n ^ a → place_from n 0 (digits n a k) ≡ k
place_of_digits n zero k some h = let one : n ^ zero ≡ 1 = pow-zero n in omega (arith, one, h)
place_of_digits n (suc a) k some h =
    let p = n ^ a in
    let power : 0 < p = one-le-pow a n some in
    let rest = place_of_digits n a (k % p) some (omega (arith, power)) in
    let split = place_split n (0 * n + k / p) (digits n a (k % p)) in
    let many : n ^ length (digits n a (k % p)) ≡ p = ap (λ (j : ℕ). n ^ j) (digits_many n a (k % p)) in
    let start : 0 * n + k / p ≡ k / p = omega arith in
    let whole : k / p * p + k % p ≡ k = div-add-mod' k p in
    split ∙ ap (λ (x : ℕ). x * n ^ length (digits n a (k % p)) + place_from n 0 (digits n a (k % p))) start ∙ ap (λ (x : ℕ). k / p * x + place_from n 0 (digits n a (k % p))) many ∙ ap (λ (x : ℕ). k / p * p + x) rest ∙ whole

-- a symbol that has a block is below the bound
found_below : (n from : ℕ) (bs : List Block) (s : ℕ) (q : ℕ × Block) → found_from n from bs s ≡ Some q → s < above_symbols bs
found_below n from [] s q h = absurd (none-some _ h)
found_below n from (b ∷ bs) s q h = by (s == b.symbol) refl h (λ e. found_below n (from + n ^ b.arity) bs s q e)
  where
    by : (t : Bool) → (s == b.symbol) ≡ t → (if t then Some (from, b) else found_from n (from + n ^ b.arity) bs s) ≡ Some q → (found_from n (from + n ^ b.arity) bs s ≡ Some q → s < above_symbols bs) → s < max (suc b.symbol) (above_symbols bs)
    by true t e rest = omega (arith, eqb-true s b.symbol t)
    by false t e rest = omega (arith, rest e)

module _ (w : World) (es : List TrailEntry) where
  -- each row has the values of its symbol's cells
  pub row_is : (s : ℕ) → row_of (finite_of w es) s ≡ values_of_symbol w es s
  row_is s = elim (cases_lt s (above_symbols w.blocks)) [
    | inl below ↦
        let there : slice_get rows s ≡ Some (get_or rows s (f s)) = slice_get-get_or rows s (f s) (omega (arith, below, many)) in
        let value : get_or rows s (f s) ≡ f s = get_or-map-range_with_len f 0 (above_symbols w.blocks) s s (f s) below (omega arith) in
        ap (λ (o : Option Listing). option_map_or (λ l. l.values) o []) (there ∙ ap (λ (l : Listing). Some l) value)
    | inr past ↦ ap (λ (o : Option Listing). option_map_or (λ l. l.values) o []) (slice_get_past rows s (omega (arith, past, many))) ∙ nothing (found w.size w.blocks s) refl past
  ]
    where
      f : ℕ → Listing
      f r = listing Function (values_of_symbol w es r)

      rows : List Listing
      rows = map f (range_with_len 0 (above_symbols w.blocks))

      many : length rows ≡ above_symbols w.blocks
      many = length-map-range_with_len f 0 (above_symbols w.blocks)

      nothing : (o : Option (ℕ × Block)) → found w.size w.blocks s ≡ o → above_symbols w.blocks ≤ s → [] ≡ values_in w es o
      nothing None e past = refl
      nothing (Some q) e past = absurd (omega (arith, past, found_below w.size 0 w.blocks s q e))

  row_at : (s : ℕ) (q : ℕ × Block) → found w.size w.blocks s ≡ Some q → row_of (finite_of w es) s ≡ cell_values es q.0 (w.size ^ q.1.arity)
  row_at s q h = row_is s ∙ ap (values_in w es) h

  listed_at : (s : ℕ) (xs : List ℕ) (q : ℕ × Block) (place v : ℕ) → 0 < w.size → found w.size w.blocks s ≡ Some q → place_from w.size 0 xs ≡ place → place < w.size ^ q.1.arity → value_in es (q.0 + place) ≡ Some v → listed_value (finite_of w es) s xs ≡ v
  listed_at s xs q place v some h is within given =
      let top : w.size - 1 + 1 ≡ w.size = omega (arith, some) in
      let f : ℕ → ℕ = λ j. unwrap_or (value_in es j) 0 in
      ap (λ (row : List ℕ). slice_index row (place_from (w.size - 1 + 1) 0 xs)) (row_at s q h)
      ∙ ap (λ (n : ℕ). slice_index (cell_values es q.0 (w.size ^ q.1.arity)) (place_from n 0 xs)) top
      ∙ ap (λ (p : ℕ). slice_index (cell_values es q.0 (w.size ^ q.1.arity)) p) is
      ∙ get_or-map-range_with_len f q.0 (w.size ^ q.1.arity) place (q.0 + place) 0 within refl
      ∙ ap (λ (o : Option ℕ). unwrap_or o 0) given

  pub tables_extend : 0 < w.size → IsOnce (map (λ b. b.symbol) w.blocks) → IsFull w es → Extends w (meaning_by_cells w es) es
  tables_extend some once full = λ k v within given.
      let l = located w.size 0 w.blocks k once within in
      let number : l.first + l.place ≡ k = omega (arith, l.number) in
      let has : value_in es (l.first + l.place) ≡ Some v = ap (value_in es) number ∙ given in
      let listed_is = listed_at l.block.symbol (digits w.size l.block.arity l.place) (l.first, l.block) l.place v some l.found_is (place_of_digits w.size l.block.arity l.place some l.within) l.within has in
      let u = full k within in
      let same : u.0 ≡ v = same_Some _ _ (sym u.1.0 ∙ given) in
      let below : v < bound_of w.size l.block.kind = subst (λ (c : Cell). v < bound_of w.size c.kind) l.names (omega (arith, same, u.1.1)) in
      ap (value_at (meaning_by_cells w es)) l.names ∙ by l.block.kind l.block.symbol (digits w.size l.block.arity l.place) v listed_is below
    where
      by : (kind : Kind) (s : ℕ) (xs : List ℕ) (v : ℕ) → listed_value (finite_of w es) s xs ≡ v → v < bound_of w.size kind → value_of_kind (meaning_by_cells w es) kind s xs ≡ v
      by Function s xs v is below = rw is (let le : nat_le v (w.size - 1) ≡ true = grind (arith, nat_tests) in rw le refl)
      by Relation s xs zero is below = rw is refl
      by Relation s xs (suc zero) is below = rw is refl
      by Relation s xs (suc (suc v)) is below = absurd (omega (arith, below))

  pub tables_within : 0 < w.size → (x : ℕ) → (meaning_by_cells w es).within x ≡ nat_lt x w.size
  tables_within some x = grind (arith, nat_tests)

-- the cells of a symbol's block have its kind
kind_within : (n from : ℕ) (bs : List Block) (s : ℕ) (q : ℕ × Block) → found_from n from bs s ≡ Some q → (k p : ℕ) → from + k ≡ q.0 + p → p < n ^ q.1.arity → (cell_at n bs k).kind ≡ q.1.kind
kind_within n from [] s q h k p e within = absurd (none-some _ h)
kind_within n from (b ∷ bs) s q h k p e within =
    by (s == b.symbol) h (λ g past. kind_within n (from + n ^ b.arity) bs s q g (k - n ^ b.arity) p (omega (arith, past, e)) within)
  where
    here : (from, b) ≡ q → (cell_at n (b ∷ bs) k).kind ≡ q.1.kind
    here same =
        let first : from ≡ q.0 = ap (λ (r : ℕ × Block). r.0) same in
        let many : n ^ b.arity ≡ n ^ q.1.arity = ap (λ (r : ℕ × Block). n ^ r.1.arity) same in
        let less : k < n ^ b.arity = omega (arith, first, many, e, within) in
        ap (λ (t : Bool). (if t then cell b.kind b.symbol (digits n b.arity k) else cell_at n bs (k - n ^ b.arity)).kind) (lt-ltb _ _ less) ∙ ap (λ (r : ℕ × Block). r.1.kind) same

    later : found_from n (from + n ^ b.arity) bs s ≡ Some q → (found_from n (from + n ^ b.arity) bs s ≡ Some q → n ^ b.arity ≤ k → (cell_at n bs (k - n ^ b.arity)).kind ≡ q.1.kind)
        → (cell_at n (b ∷ bs) k).kind ≡ q.1.kind
    later g rest =
        let past : n ^ b.arity ≤ k = omega (arith, (found_within n (from + n ^ b.arity) bs s q g).0, e) in
        ap (λ (t : Bool). (if t then cell b.kind b.symbol (digits n b.arity k) else cell_at n bs (k - n ^ b.arity)).kind) (le-ltb _ _ past) ∙ rest g past

    by : (t : Bool) → (if t then Some (from, b) else found_from n (from + n ^ b.arity) bs s) ≡ Some q
        → (found_from n (from + n ^ b.arity) bs s ≡ Some q → n ^ b.arity ≤ k → (cell_at n bs (k - n ^ b.arity)).kind ≡ q.1.kind) → (cell_at n (b ∷ bs) k).kind ≡ q.1.kind
    by true g rest = here (same_Some _ _ g)
    by false g rest = later g rest

all_at : (b : ℕ) (f : ℕ → ℕ) (k n : ℕ) → ((j : ℕ) → k ≤ j → j < k + n → f j < b) → AllBelow b (map f (range_with_len k n))
all_at b f k zero h = tt
all_at b f k (suc n) h = (h k (omega arith) (omega arith), all_at b f (k + 1) n (λ j l m. h j (omega (arith, l)) (omega (arith, m))))

-- where each cell has a value, the rows are whole
pub tables_whole : (w : World) (es : List TrailEntry) → 0 < w.size → IsFull w es → AreTablesFor w (finite_of w es)
tables_whole w es some full = record { size = omega (arith, some); rows = λ s. subst (IsRowFor w (found w.size w.blocks s)) (sym (row_is w es s)) (by s (found w.size w.blocks s) refl) }
  where
    by : (s : ℕ) (o : Option (ℕ × Block)) → found w.size w.blocks s ≡ o → IsRowFor w o (values_in w es o)
    by s None e = refl
    by s (Some q) e =
        let f : ℕ → ℕ = λ j. unwrap_or (value_in es j) 0 in (
          length-map-range_with_len f q.0 (w.size ^ q.1.arity),
          all_at (bound_of w.size q.1.kind) f q.0 (w.size ^ q.1.arity) (λ j from to.
              let end = (found_within w.size 0 w.blocks s q e).1 in
              let v = full j (omega (arith, end, to)) in
              let kind : (cell_of w j).kind ≡ q.1.kind = kind_within w.size 0 w.blocks s q e j (j - q.0) (omega (arith, from)) (omega (arith, from, to)) in
              let bound : bound_of w.size (cell_of w j).kind ≡ bound_of w.size q.1.kind = ap (bound_of w.size) kind in
              let value : f j ≡ v.0 = ap (λ (o : Option ℕ). unwrap_or o 0) v.1.0 in
              omega (arith, value, v.1.1, bound)),
        )

-- different numbers are those of different cells
pub cells_differ : (w : World) → IsOnce (map (λ b. b.symbol) w.blocks) → 0 < w.size → (j k : ℕ) → j < many_cells w → k < many_cells w → cell_of w j ≡ cell_of w k → j ≡ k
cells_differ w once some j k within within' same =
    let a = located w.size 0 w.blocks j once within in
    let b = located w.size 0 w.blocks k once within' in
    let e : cell a.block.kind a.block.symbol (digits w.size a.block.arity a.place) ≡ cell b.block.kind b.block.symbol (digits w.size b.block.arity b.place) = sym a.names ∙ same ∙ b.names in
    let symbols : a.block.symbol ≡ b.block.symbol = ap (λ (c : Cell). c.symbol) e in
    let pairs : (a.first, a.block) ≡ (b.first, b.block) = same_Some _ _ (sym a.found_is ∙ ap (λ (s : ℕ). found w.size w.blocks s) symbols ∙ b.found_is) in
    let firsts : a.first ≡ b.first = ap (λ (q : ℕ × Block). q.0) pairs in
    let places : a.place ≡ b.place =
    sym (place_of_digits w.size a.block.arity a.place some a.within) ∙ ap (λ (c : Cell). place_from w.size 0 c.arguments) e ∙ place_of_digits w.size b.block.arity b.place some b.within in
    omega (arith, firsts, places, a.number, b.number)
