-- What is known of terms, from one argument to the next.
use Rattle.std.proofs.Common.{◌≡◌, ℕ, suc, ◌+◌, ◌*◌, ◌^◌, ◌-◌, ◌<◌, ◌≤◌, ◌==◌, ◌&&◌, min, Bool, true, false, if◌then◌else◌, List, [], ◌∷◌, length, drop, Option, None, Some, refl, sym, ap, ◌∙◌, subst, arith}
use Rattle.std.proofs.Math.Nat.{pow-suc, pow-le-pow_right, mul-le-mul_right}
use Rattle.std.specs.Option.{option_map, option_and_then}
use Rattle.std.proofs.lemmas.Bool.{eqb-true, lt-ltb, le-ltb}
use Rattle.std.proofs.lemmas.List.{drop_all}
use Rattle.std.proofs.lemmas.Option.{none-some, same_Some}
use Rattle.fol_core.specs.SymbolTable.{is_same_kind}
use Rattle.fol_core.specs.Tree.{Tree, trees_of}
use Rattle.fol_core.specs.TermView.{tree_list}
use Rattle.fol_core.specs.Truth.{Assignment}
use Rattle.fol_core.specs.declared.symbols.Kind.{Kind}
use Rattle.fol_core.specs.declared.term.Term.{Term}
use Rattle.mace_cells.specs.World.{World, many_cells}
use Rattle.mace_cells.specs.declared.trail.TrailEntry.{TrailEntry}
use Rattle.mace_ground.specs.Cells.{Block, cells_in, found, found_from}
use Rattle.mace_ground.specs.Spans.{span_of}
use Rattle.mace_ground.specs.declared.blocks.Span.{Span}
use Rattle.cell_search.specs.Known.{place_within, number_of_cell, joined_seen, seen, all_seen, cell_seen}

pub joined_some : (o : Option ℕ) (p : Option (List ℕ)) (xs : List ℕ) → joined_seen o p ≡ Some xs → (x : ℕ) × ((ys : List ℕ) × ((o ≡ Some x) × (p ≡ Some ys) × (xs ≡ x ∷ ys)))
joined_some None p xs h = absurd (none-some _ h)
joined_some (Some x) None xs h = absurd (none-some _ h)
joined_some (Some x) (Some ys) xs h = (x, (ys, (refl, refl, sym (same_Some _ _ h))))

module _ (w : World) (es : List TrailEntry) (e : Assignment) where
  pub many_seen : (ts : List Tree) (xs : List ℕ) → all_seen w es e (trees_of ts) ≡ Some xs → length xs ≡ length ts
  many_seen [] xs h = ap (λ (ys : List ℕ). length ys) (sym (same_Some _ _ h))
  many_seen (t ∷ ts) xs h =
      let j = joined_some (seen w es e t) (all_seen w es e (trees_of ts)) xs h in
      ap (λ (ys : List ℕ). length ys) j.1.1.2 ∙ ap suc (many_seen ts j.1.0 j.1.1.1)

-- an argument that is an element leads on
pub leads_on : (n p x : ℕ) (s : Option ℕ) (o : Option (List ℕ)) → s ≡ Some x → x < n → option_and_then (place_within n p) (joined_seen s o) ≡ option_and_then (place_within n (p * n + x)) o
leads_on n p x None o e h = absurd (none-some _ e)
leads_on n p x (Some y) None e h = refl
leads_on n p x (Some y) (Some xs) e h = let same : y ≡ x = same_Some _ _ e in rw (same, lt-ltb _ _ h) refl

-- no other does
pub leads_nowhere : (n p x : ℕ) (s : Option ℕ) (o : Option (List ℕ)) → s ≡ Some x → n ≤ x → option_and_then (place_within n p) (joined_seen s o) ≡ None
leads_nowhere n p x None o e h = absurd (none-some _ e)
leads_nowhere n p x (Some y) None e h = refl
leads_nowhere n p x (Some y) (Some xs) e h = let same : y ≡ x = same_Some _ _ e in rw (same, le-ltb _ _ h) refl

-- the cell where none is found, where the symbol doesn't fit, and where it does
pub number_missing : (n : ℕ) (kind : Kind) (f : Option (ℕ × Block)) (o : Option (List ℕ)) → f ≡ None → option_and_then (λ (xs : List ℕ). number_of_cell n kind xs f) o ≡ None
number_missing n kind None None e = refl
number_missing n kind None (Some xs) e = refl
number_missing n kind (Some q) o e = absurd (none-some _ (sym e))

module _ (n : ℕ) (kind : Kind) (q : ℕ × Block) (f : Option (ℕ × Block)) (arity : ℕ) (found_is : f ≡ Some q) where
  pub number_unfit : (o : Option (List ℕ)) → ((xs : List ℕ) → o ≡ Some xs → length xs ≡ arity) → (is_same_kind q.1.kind kind && arity == q.1.arity) ≡ false
      → option_and_then (λ (xs : List ℕ). number_of_cell n kind xs f) o ≡ None
  number_unfit None many h = refl
  number_unfit (Some xs) many h = rw (found_is, many xs refl, h) refl

  pub number_fit : (o : Option (List ℕ)) → ((xs : List ℕ) → o ≡ Some xs → length xs ≡ arity) → (is_same_kind q.1.kind kind && arity == q.1.arity) ≡ true
      → option_and_then (λ (xs : List ℕ). number_of_cell n kind xs f) o ≡ option_map (λ (p : ℕ). q.0 + p) (option_and_then (place_within n 0) o)
  number_fit None many h = refl
  number_fit (Some xs) many h = rw (found_is, many xs refl, h) refl

-- the cells of a block that is found are cells
pub found_within : (n k : ℕ) (bs : List Block) (s : ℕ) (q : ℕ × Block) → found_from n k bs s ≡ Some q → (k ≤ q.0) × (q.0 + n ^ q.1.arity ≤ k + cells_in n bs)
found_within n k [] s q h = absurd (none-some _ h)
found_within n k (b ∷ bs) s q h = by (s == b.symbol) h (λ e. found_within n (k + n ^ b.arity) bs s q e)
  where
    by : (t : Bool) → (if t then Some (k, b) else found_from n (k + n ^ b.arity) bs s) ≡ Some q
        → (found_from n (k + n ^ b.arity) bs s ≡ Some q → (k + n ^ b.arity ≤ q.0) × (q.0 + n ^ q.1.arity ≤ k + n ^ b.arity + cells_in n bs)) → (k ≤ q.0) × (q.0 + n ^ q.1.arity ≤ k + (n ^ b.arity + cells_in n bs))
    by true e rest = let same : (k, b) ≡ q = same_Some _ _ e in subst (λ (p : ℕ × Block). (k ≤ p.0) × (p.0 + n ^ p.1.arity ≤ k + (n ^ b.arity + cells_in n bs))) same (omega arith, omega arith)
    by false e rest = let r = rest e in (omega (arith, r.0), omega (arith, r.1))

pub found_at : (o : Option Span) (span : Span) (f : Option (ℕ × Block)) → option_map span_of o ≡ f → o ≡ Some span → f ≡ Some (span_of span)
found_at o span f h e = sym h ∙ ap (λ (p : Option Span). option_map span_of p) e

pub both_true : (a b : Bool) → (a && b) ≡ true → (a ≡ true) × (b ≡ true)
both_true true b h = (refl, h)
both_true false b h = absurd cc

-- where a block fits, its cells reach so far
module _ (w : World) (kind : Kind) (s len : ℕ) (q : ℕ × Block) (found_is : found w.size w.blocks s ≡ Some q) (fits : (is_same_kind q.1.kind kind && len == q.1.arity) ≡ true) where
  arity_is : len ≡ q.1.arity
  arity_is = eqb-true _ _ (both_true _ _ fits).1

  reach : q.0 + w.size ^ len ≤ many_cells w
  reach =
      let end = (found_within w.size 0 w.blocks s q found_is).1 in
      let same : w.size ^ len ≡ w.size ^ q.1.arity = ap (λ (k : ℕ). w.size ^ k) arity_is in
      omega (arith, end, same)

  pub room_on : (size place i : ℕ) → size ≡ w.size → 0 < w.size → place + 1 ≤ size ^ i → i < len → many_cells w < 2 ^ 32 → (place + 1) * size ≤ 2 ^ 32
  room_on size place i same some below more few =
      let row : (place + 1) * size ≤ size ^ i * size = mul-le-mul_right {m = place + 1} {n = size ^ i} size below in
      let step : size ^ suc i ≡ size ^ i * size = pow-suc size i in
      let whole : size ^ suc i ≤ size ^ len = pow-le-pow_right (omega (arith, some, same)) more in
      let powers : size ^ len ≡ w.size ^ len = ap (λ (n : ℕ). n ^ len) same in
      omega (arith, row, step, whole, powers, reach, few)

  pub end_within : (size place i : ℕ) → size ≡ w.size → place + 1 ≤ size ^ i → i ≡ len → q.0 + place < many_cells w
  end_within size place i same below all =
      let powers : size ^ i ≡ w.size ^ len = ap (λ (k : ℕ). size ^ k) all ∙ ap (λ (n : ℕ). n ^ len) same in
      omega (arith, below, powers, reach)

  pub ended : (es : List TrailEntry) (e : Assignment) (ts : List Tree) (items : List Term) (size place i : ℕ) → size ≡ w.size → len ≡ length ts → tree_list items ≡ ts → length items ≤ i
      → option_and_then (place_within size place) (all_seen w es e (trees_of (tree_list (drop i items)))) ≡ option_and_then (place_within size 0) (all_seen w es e (trees_of (tree_list items)))
      → Some (q.0 + place) ≡ cell_seen w es e kind s (trees_of ts)
  ended es e ts items size place i same many trees past leads =
      let last : Some place ≡ option_and_then (place_within size 0) (all_seen w es e (trees_of (tree_list items))) =
      sym (ap (λ (rest : List Term). option_and_then (place_within size place) (all_seen w es e (trees_of (tree_list rest)))) (drop_all i items past)) ∙ leads in
      ap (λ (o : Option ℕ). option_map (λ (p : ℕ). q.0 + p) o) (last ∙ ap (λ (n : ℕ). option_and_then (place_within n 0) (all_seen w es e (trees_of (tree_list items)))) same
      ∙ ap (λ (us : List Tree). option_and_then (place_within w.size 0) (all_seen w es e (trees_of us))) trees)
      ∙ sym (number_fit w.size kind q (found w.size w.blocks s) len found_is (all_seen w es e (trees_of ts)) (λ xs h. many_seen w es e ts xs h ∙ sym many) fits)

-- a power that is that of a block's cells
pub power_is : (b n e a p first end : ℕ) → b ≡ n → e ≡ a → p ≡ min (b ^ e) (2 ^ 128 - 1) → first + n ^ a ≤ end → end < 2 ^ 32 → p ≡ n ^ a
power_is b n e a p first end bases exponents is within few =
    let same : b ^ e ≡ n ^ a = ap (λ (x : ℕ). x ^ e) bases ∙ ap (λ (x : ℕ). n ^ x) exponents in
    omega (arith, same, is, within, few)
