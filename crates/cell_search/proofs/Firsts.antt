-- The group of a cell is that of its symbol.
use Rattle.std.proofs.Common.{◌≡◌, ℕ, zero, suc, ◌+◌, ◌-◌, ◌^◌, ◌<◌, ◌≤◌, ◌==◌, ◌||◌, Bool, true, false, if◌then◌else◌, List, [], ◌∷◌, length, map, get_or, Option, None, Some, inl, inr, refl, sym, ap, ◌∙◌, arith}
use Rattle.std.proofs.Math.Nat.{one-le-pow}
use Rattle.std.proofs.lemmas.Bool.{cases_lt, eq-eqb, eqb-true}
use Rattle.std.proofs.lemmas.List.{get_or_default, get_or-map, length-map}
use Rattle.std.proofs.lemmas.Option.{none-some, same_Some, option_and_then_some}
use Rattle.fol_core.specs.Bound.{IsOnce}
use Rattle.fol_core.specs.Free.{is_in}
use Rattle.fol_core.specs.Tree.{Trees}
use Rattle.fol_core.specs.Truth.{Assignment}
use Rattle.fol_core.specs.declared.symbols.Kind.{Kind}
use Rattle.mace_cells.specs.World.{World}
use Rattle.mace_cells.specs.declared.trail.TrailEntry.{TrailEntry}
use Rattle.mace_ground.proofs.Numbering.{place_below}
use Rattle.mace_ground.specs.Cells.{Block, found, found_from}
use Rattle.cell_search.proofs.Binding.{placed_at}
use Rattle.cell_search.proofs.Seeing.{found_within}
use Rattle.cell_search.specs.Known.{number_of_cell, cell_number, all_seen, cell_seen}
use Rattle.cell_search.specs.Searchable.{HasAllCells}
use Rattle.cell_search.specs.Ways.{IsGroupOf, AreGroups, first_with, firsts_of}
use Rattle.cell_search.specs.declared.walk.Group.{Group}

-- where blocks begin, the first at cell k
abbrev starts : ℕ → ℕ → List Block → List ℕ
starts n k [] = []
starts n k (b ∷ bs) = k ∷ starts n (k + n ^ b.arity) bs

same_firsts : (f g : ℕ → Option (ℕ × Block)) (bs : List Block) → ((s : ℕ) → is_in s (map (λ b. b.symbol) bs) ≡ true → f s ≡ g s) → firsts_of f bs ≡ firsts_of g bs
same_firsts f g [] same = refl
same_firsts f g (b ∷ bs) same =
    ap (λ (o : Option (ℕ × Block)). first_with o (firsts_of f bs)) (same b.symbol (ap (λ (t : Bool). t || is_in b.symbol (map (λ c. c.symbol) bs)) (eq-eqb b.symbol b.symbol refl)))
    ∙ ap (first_with (g b.symbol)) (same_firsts f g bs (λ s there. same s (ap (λ (t : Bool). s == b.symbol || t) there ∙ either (s == b.symbol))))
  where
    either : (t : Bool) → (t || true) ≡ true
    either true = refl
    either false = refl

firsts_are : (n k : ℕ) (bs : List Block) → IsOnce (map (λ b. b.symbol) bs) → firsts_of (found_from n k bs) bs ≡ starts n k bs
firsts_are n k [] once = refl
firsts_are n k (b ∷ bs) once =
    ap (λ (t : Bool). first_with (if t then Some (k, b) else found_from n (k + n ^ b.arity) bs b.symbol) (firsts_of (found_from n k (b ∷ bs)) bs)) (eq-eqb b.symbol b.symbol refl)
    ∙ ap (λ (ks : List ℕ). k ∷ ks) (same_firsts (found_from n k (b ∷ bs)) (found_from n (k + n ^ b.arity) bs) bs (λ s there. other s (s == b.symbol) refl there) ∙ firsts_are n (k + n ^ b.arity) bs once.1)
  where
    other : (s : ℕ) (t : Bool) → (s == b.symbol) ≡ t → is_in s (map (λ c. c.symbol) bs) ≡ true → (if t then Some (k, b) else found_from n (k + n ^ b.arity) bs s) ≡ found_from n (k + n ^ b.arity) bs s
    other s true e there = absurd (let h : false ≡ true = sym once.0 ∙ ap (λ (x : ℕ). is_in x (map (λ c. c.symbol) bs)) (sym (eqb-true s b.symbol e)) ∙ there in cc)
    other s false e there = refl

starts_above : (n k : ℕ) (bs : List Block) (j : ℕ) → j < length (starts n k bs) → k ≤ get_or (starts n k bs) j 0
starts_above n k [] j h = absurd (omega (arith, h))
starts_above n k (b ∷ bs) zero h = omega arith
starts_above n k (b ∷ bs) (suc j) h = let above = starts_above n (k + n ^ b.arity) bs j (omega (arith, h)) in omega (arith, above)

starts_rise : (n k : ℕ) (bs : List Block) (i j : ℕ) → 0 < n → i < j → j < length (starts n k bs) → get_or (starts n k bs) i 0 < get_or (starts n k bs) j 0
starts_rise n k [] i j some less h = absurd (omega (arith, h))
starts_rise n k (b ∷ bs) i zero some less h = absurd (omega (arith, less))
starts_rise n k (b ∷ bs) zero (suc j) some less h =
    let above = starts_above n (k + n ^ b.arity) bs j (omega (arith, h)) in
    let power : 0 < n ^ b.arity = one-le-pow b.arity n some in
    omega (arith, above, power)
starts_rise n k (b ∷ bs) (suc i) (suc j) some less h = starts_rise n (k + n ^ b.arity) bs i j some (omega (arith, less)) (omega (arith, h))

-- a block that begins behind a symbol's cells begins behind all of them
behind_found : (n k : ℕ) (bs : List Block) (s first : ℕ) (b : Block) (j : ℕ) → found_from n k bs s ≡ Some (first, b) → j < length (starts n k bs) → first < get_or (starts n k bs) j 0 → first + n ^ b.arity ≤ get_or (starts n k bs) j 0
behind_found n k [] s first b j h inside less = absurd (none-some _ h)
behind_found n k (c ∷ bs) s first b j h inside less = by (s == c.symbol) j h inside less (λ i g within below. behind_found n (k + n ^ c.arity) bs s first b i g within below)
  where
    by : (t : Bool) (j : ℕ) → (if t then Some (k, c) else found_from n (k + n ^ c.arity) bs s) ≡ Some (first, b) → j < length (starts n k (c ∷ bs)) → first < get_or (starts n k (c ∷ bs)) j 0 →
        ((i : ℕ) → found_from n (k + n ^ c.arity) bs s ≡ Some (first, b) → i < length (starts n (k + n ^ c.arity) bs) → first < get_or (starts n (k + n ^ c.arity) bs) i 0 → first + n ^ b.arity ≤ get_or (starts n (k + n ^ c.arity) bs) i 0)
        → first + n ^ b.arity ≤ get_or (starts n k (c ∷ bs)) j 0
    by true zero g inside less rest = let same : k ≡ first = ap (λ (q : ℕ × Block). q.0) (same_Some _ _ g) in absurd (omega (arith, same, less))
    by true (suc j) g inside less rest =
        let same : k ≡ first = ap (λ (q : ℕ × Block). q.0) (same_Some _ _ g) in
        let power : n ^ c.arity ≡ n ^ b.arity = ap (λ (q : ℕ × Block). n ^ q.1.arity) (same_Some _ _ g) in
        let above = starts_above n (k + n ^ c.arity) bs j (omega (arith, inside)) in
        omega (arith, same, power, above)
    by false zero g inside less rest = let within = (found_within n (k + n ^ c.arity) bs s (first, b) g).0 in absurd (omega (arith, within, less))
    by false (suc j) g inside less rest = rest j g (omega (arith, inside)) less

-- an occurrence that is a cell is one of a symbol that has cells
pub symbol_found : (w : World) (es : List TrailEntry) (e : Assignment) (kind : Kind) (s : ℕ) (ts : Trees) (k : ℕ) → cell_seen w es e kind s ts ≡ Some k
    → (first : ℕ) × ((b : Block) × ((found w.size w.blocks s ≡ Some (first, b)) × (first ≤ k) × (k < first + w.size ^ b.arity)))
symbol_found w es e kind s ts k h =
    option_and_then_some (cell_number w kind s) (all_seen w es e ts) k h (λ vs i j. by vs (found w.size w.blocks s) refl j)
  where
    by : (vs : List ℕ) (o : Option (ℕ × Block)) → found w.size w.blocks s ≡ o → cell_number w kind s vs ≡ Some k
        → (first : ℕ) × ((b : Block) × ((found w.size w.blocks s ≡ Some (first, b)) × (first ≤ k) × (k < first + w.size ^ b.arity)))
    by vs None is j = absurd (none-some k (sym (ap (number_of_cell w.size kind vs) is) ∙ j))
    by vs (Some q) is j =
        let p = placed_at w kind s q.0 q.1 vs k is j in
        let small = place_below w.size vs p.below in
        let power : w.size ^ length vs ≡ w.size ^ q.1.arity = ap (λ (a : ℕ). w.size ^ a) p.many in
        let number = p.number in
        (q.0, (q.1, (is, omega (arith, number), omega (arith, number, small, power))))

-- its group is the last one that begins with the cell or before it
module _ (w : World) (groups : List Group) (cells : HasAllCells w) (are : AreGroups w groups) (k first : ℕ) (b : Block) (s : ℕ) (is : found w.size w.blocks s ≡ Some (first, b)) (low : first ≤ k) (high : k < first + w.size ^ b.arity) where
  begins : map (λ (g : Group). g.first) groups ≡ starts w.size 0 w.blocks
  begins = are ∙ firsts_are w.size 0 w.blocks cells.once

  first_at : (at : ℕ) (g : Group) → at < length groups → g ≡ get_or groups at g → get_or (starts w.size 0 w.blocks) at 0 ≡ g.first
  first_at at g inside there =
      sym (ap (λ (ks : List ℕ). get_or ks at 0) begins) ∙ get_or-map (λ (u : Group). u.first) groups at g 0 inside ∙ ap (λ (u : Group). u.first) (sym there)

  many_starts : length (starts w.size 0 w.blocks) ≡ length groups
  many_starts = sym (ap (λ (ks : List ℕ). length ks) begins) ∙ length-map groups (λ (g : Group). g.first)

  pub no_group : (at : ℕ) (g : Group) → at < length groups → g ≡ get_or groups at g → g.first ≡ first → IsGroupOf groups k None → ⊥
  no_group at g inside there same none = let less = none at g inside there in omega (arith, less, same, low)

  pub same_group : (at : ℕ) (g h : Group) → at < length groups → g ≡ get_or groups at g → g.first ≡ first → IsGroupOf groups k (Some h) → g ≡ h
  same_group at g h inside there same last = elim (cases_lt at place) [
    | inl earlier ↦
        let a = first_at at g inside there in
        let b_at = first_at place h within is_h in
        let rise = starts_rise w.size 0 w.blocks at place cells.some earlier (omega (arith, within, many_starts)) in
        let far = behind_found w.size 0 w.blocks s first b place is (omega (arith, within, many_starts)) (omega (arith, rise, a, same)) in
        absurd (omega (arith, far, b_at, before, high))
    | inr most ↦ elim (cases_lt place at) [
      | inl later ↦ (let less = behind at g later inside there in absurd (omega (arith, less, same, low)))
      | inr least ↦
          let one : at ≡ place = omega (arith, most, least) in
          there ∙ ap (λ (n : ℕ). get_or groups n g) one ∙ get_or_default groups place g h within ∙ sym is_h
    ]
  ]
    where
      place : ℕ
      place = last.0

      within : last.0 < length groups
      within = last.1.0

      is_h : h ≡ get_or groups last.0 h
      is_h = last.1.1

      before : h.first ≤ k
      before = last.1.2

      behind : (later : ℕ) (g : Group) → last.0 < later → later < length groups → g ≡ get_or groups later g → k < g.first
      behind = last.1.3
