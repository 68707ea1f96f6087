-- Where all values are tried, each solution extends a leaf.
use Rattle.std.proofs.Common.{◌≡◌, ℕ, zero, suc, ◌+◌, ◌-◌, ◌^◌, ◌<◌, ◌≤◌, nat_le, nat_lt, max, Bool, true, false, if◌then◌else◌, List, [], ◌∷◌, ◌++◌, length, map, Option, None, Some, inl, inr, refl, sym, ap, ◌∙◌, subst, arith}
use Rattle.std.specs.Prelude.{◌⊎◌}
use Rattle.std.specs.List.{filter, flat_map, range_with_len}
use Rattle.std.proofs.lemmas.Bool.{cases_lt, lt-ltb, le-ltb, le-leb, eq-eqb}
use Rattle.std.proofs.lemmas.List.FromFn.{length-map-range_with_len}
use Rattle.std.proofs.lemmas.Option.{none-some, same_Some}
use Rattle.fol_core.specs.Meaning.{Meaning}
use Rattle.fol_core.specs.SymbolTable.{is_same_kind}
use Rattle.fol_core.specs.declared.symbols.Kind.{Kind}
use Rattle.fol_core.specs.declared.symbols.Kind.TheVariants.{Function, Relation}
use Rattle.mace_cells.specs.Choices.{Decision}
use Rattle.mace_cells.specs.Numbers.{above_each, above_used, greatest_tried, tried_to}
use Rattle.mace_cells.specs.World.{World, Solves, cell_of, many_cells}
use Rattle.mace_cells.specs.declared.way.Candidates.{Candidates}
use Rattle.mace_cells.specs.declared.way.Candidates.TheVariants.{All, LeastIndex, InUse}
use Rattle.mace_ground.specs.Cells.{Block, Cell, cell, cells_in, cell_at, digits, value_at}
use Rattle.model_tables.specs.Size.{AllBelow, bound_of}
use Rattle.plain_search.proofs.Narrowing.{OpensNone, closure_opens_none}
use Rattle.plain_search.proofs.Solved.{digits_below, some_element, value_below, closure_so, all_at_first}
use Rattle.plain_search.proofs.Sounding.{IsKept, among_filter, narrowed_so}
use Rattle.plain_search.specs.Closing.{closure}
use Rattle.plain_search.specs.Lefts.{ValuesLeft, IsAmong, Extends, are_same, is_same_cell, with_left, all_left}
use Rattle.plain_search.specs.PlainLaws.{IsOneOf, LeavesReachAll}
use Rattle.plain_search.specs.Trying.{is_open, all_cells, open_cells, least_index, candidates, score, better, best, chosen, tried, decide, below, behind_closing, leaves_within}

abbrev pub IsIn : Cell → List Cell → Type 0
IsIn c [] = ⊥
IsIn c (d ∷ ds) = (c ≡ d) ⊎ IsIn c ds

filter_in : (t : Cell → Bool) (c : Cell) (cs : List Cell) → IsIn c (filter t cs) → IsIn c cs × (t c ≡ true)
filter_in t c [] h = absurd h
filter_in t c (d ∷ ds) h = by (t d) refl h (filter_in t c ds)
  where
    by : (b : Bool) → t d ≡ b → IsIn c (if b then d ∷ filter t ds else filter t ds) → (IsIn c (filter t ds) → IsIn c ds × (t c ≡ true)) → IsIn c (d ∷ ds) × (t c ≡ true)
    by true e (inl g) rest = (inl g, ap t g ∙ e)
    by true e (inr g) rest = let r = rest g in (inr r.0, r.1)
    by false e g rest = let r = rest g in (inr r.0, r.1)

candidates_in : (a : Candidates) (used : ℕ) (c : Cell) (cs : List Cell) → IsIn c (candidates a used cs) → IsIn c cs
candidates_in All used c cs h = h
candidates_in LeastIndex used c cs h = (filter_in (λ d. nat_le (above_each d.arguments) (least_index cs)) c cs h).0
candidates_in InUse used c cs h = (filter_in (λ d. nat_le (above_each d.arguments) (max used (least_index cs))) c cs h).0

best_in : (f : Cell → ℕ) (c : Cell) (cs : List Cell) → best f cs ≡ Some c → IsIn c cs
best_in f c [] h = absurd (none-some _ h)
best_in f c (d ∷ ds) h = by (best f ds) refl h (best_in f c ds)
  where
    which : (e : Cell) (b : Bool) → (if b then Some e else Some d) ≡ Some c → (c ≡ d) ⊎ (c ≡ e)
    which e true g = inr (sym (same_Some _ _ g))
    which e false g = inl (sym (same_Some _ _ g))

    by : (o : Option Cell) → best f ds ≡ o → better f d o ≡ Some c → (best f ds ≡ Some c → IsIn c ds) → IsIn c (d ∷ ds)
    by None i g rest = inl (sym (same_Some _ _ g))
    by (Some e) i g rest = elim (which e (nat_lt (f d) (f e)) g) [ inl here ↦ inl here | inr there ↦ inr (rest (i ∙ ap Some (sym there))) ]

pub chosen_in : (w : World) (ds : List Decision) (p : ValuesLeft) (c : Cell) → chosen w ds p ≡ Some c → IsIn c (all_cells w) × (is_open (p c) ≡ true)
chosen_in w ds p c h =
    filter_in (λ d. is_open (p d)) c (all_cells w)
    (candidates_in w.way.candidates (above_used w.fixed ds) c (open_cells w p)
    (best_in (score w.way.measure w p) c (candidates w.way.candidates (above_used w.fixed ds) (open_cells w p)) h))

-- the arguments of a cell are elements
arguments_below : (n : ℕ) (bs : List Block) (k : ℕ) → 0 < n → k < cells_in n bs → AllBelow n (cell_at n bs k).arguments
arguments_below n [] k some h = absurd (omega (arith, h))
arguments_below n (b ∷ bs) k some h = elim (cases_lt k (n ^ b.arity)) [
  | inl here ↦ subst (λ (t : Bool). AllBelow n (if t then cell b.kind b.symbol (digits n b.arity k) else cell_at n bs (k - n ^ b.arity)).arguments) (sym (lt-ltb _ _ here)) (digits_below n b.arity k some here)
  | inr after ↦ subst (λ (t : Bool). AllBelow n (if t then cell b.kind b.symbol (digits n b.arity k) else cell_at n bs (k - n ^ b.arity)).arguments) (sym (le-ltb _ _ after)) (arguments_below n bs (k - n ^ b.arity) some (omega (arith, h, after)))
]

pub in_range : (w : World) (c : Cell) (a k : ℕ) → 0 < w.size → a + k ≤ many_cells w → IsIn c (map (cell_of w) (range_with_len a k)) → AllBelow w.size c.arguments
in_range w c a zero some h i = absurd i
in_range w c a (suc k) some h (inl e) = subst (λ (d : Cell). AllBelow w.size d.arguments) (sym e) (arguments_below w.size w.blocks a some (omega (arith, h)))
in_range w c a (suc k) some h (inr i) = in_range w c (a + 1) k some (omega (arith, h)) i

-- fewer pass a test that is narrower
pub fewer : (f g : Cell → Bool) (cs : List Cell) → ((c : Cell) → f c ≡ true → g c ≡ true) → length (filter f cs) ≤ length (filter g cs)
fewer f g [] h = omega arith
fewer f g (c ∷ cs) h = by (f c) (g c) refl refl (fewer f g cs h)
  where
    by : (a b : Bool) → f c ≡ a → g c ≡ b → length (filter f cs) ≤ length (filter g cs) → length (if a then c ∷ filter f cs else filter f cs) ≤ length (if b then c ∷ filter g cs else filter g cs)
    by true true i j rest = omega (arith, rest)
    by true false i j rest = absurd (let e : true ≡ false = sym (h c i) ∙ j in cc)
    by false true i j rest = omega (arith, rest)
    by false false i j rest = rest

pub one_less : (f g : Cell → Bool) (d : Cell) (cs : List Cell) → ((c : Cell) → f c ≡ true → g c ≡ true) → f d ≡ false → g d ≡ true → IsIn d cs → length (filter f cs) < length (filter g cs)
one_less f g d [] h fails is i = absurd i
one_less f g d (c ∷ cs) h fails is (inl e) =
    let few = fewer f g cs h in
    let left : f c ≡ false = ap f (sym e) ∙ fails in
    let right : g c ≡ true = ap g (sym e) ∙ is in
    rw (left, right) (omega (arith, few))
one_less f g d (c ∷ cs) h fails is (inr i) = by (f c) (g c) refl refl (one_less f g d cs h fails is i)
  where
    by : (a b : Bool) → f c ≡ a → g c ≡ b → length (filter f cs) < length (filter g cs) → length (if a then c ∷ filter f cs else filter f cs) < length (if b then c ∷ filter g cs else filter g cs)
    by true true j k rest = omega (arith, rest)
    by true false j k rest = absurd (let e : true ≡ false = sym (h c j) ∙ k in cc)
    by false true j k rest = omega (arith, rest)
    by false false j k rest = rest

lists_itself : (xs : List ℕ) → are_same xs xs ≡ true
lists_itself [] = refl
lists_itself (x ∷ xs) = rw (eq-eqb x x refl) (lists_itself xs)

kind_itself : (kind : Kind) → is_same_kind kind kind ≡ true
kind_itself Function = refl
kind_itself Relation = refl

pub cell_itself : (c : Cell) → is_same_cell c c ≡ true
cell_itself c = rw (kind_itself c.kind, eq-eqb c.symbol c.symbol refl) (lists_itself c.arguments)

pub closed_there : (q : ValuesLeft) (c : Cell) (v : ℕ) → is_open (with_left q c (v ∷ []) c) ≡ false
closed_there q c v = ap (λ (b : Bool). is_open (if b then v ∷ [] else q c)) (cell_itself c)

pub opens_none_there : (q : ValuesLeft) (c : Cell) (v : ℕ) → OpensNone q (with_left q c (v ∷ []))
opens_none_there q c v d there = by (is_same_cell c d) there
  where
    by : (b : Bool) → is_open (if b then v ∷ [] else q d) ≡ true → is_open (q d) ≡ true
    by true g = absurd (let e : false ≡ true = g in cc)
    by false g = g

one_left : (p : ValuesLeft) (ps qs : List ValuesLeft) → IsOneOf p ps → IsOneOf p (ps ++ qs)
one_left p [] qs h = absurd h
one_left p (q ∷ ps) qs (inl e) = inl e
one_left p (q ∷ ps) qs (inr i) = inr (one_left p ps qs i)

one_right : (p : ValuesLeft) (ps qs : List ValuesLeft) → IsOneOf p qs → IsOneOf p (ps ++ qs)
one_right p [] qs h = h
one_right p (q ∷ ps) qs h = inr (one_right p ps qs h)

pub one_of_tried : (find : ℕ → List ValuesLeft) (p : ValuesLeft) (v : ℕ) (us : List ℕ) → IsAmong v us → IsOneOf p (find v) → IsOneOf p (flat_map find us)
one_of_tried find p v [] h i = absurd h
one_of_tried find p v (u ∷ us) (inl e) i = one_left p (find u) (flat_map find us) (subst (λ (x : ℕ). IsOneOf p (find x)) e i)
one_of_tried find p v (u ∷ us) (inr h) i = one_right p (find u) (flat_map find us) (one_of_tried find p v us h i)

unfoldable pub many_open : World → ValuesLeft → ℕ
many_open w p = length (open_cells w p)

module _ (w : World) (m : Meaning) (all : w.way.least_numbers ≡ false) (solves : Solves w m) where
  abbrev Found : List ValuesLeft → Type 0
  Found ps = (r : ValuesLeft) × IsOneOf r ps × Extends w.size m r

  value_tried : (ds : List Decision) (p : ValuesLeft) (c : Cell) → Extends w.size m p → AllBelow w.size c.arguments → IsAmong (value_at m c) (tried w ds p c)
  value_tried ds p c extended within =
      let bound : value_at m c < bound_of w.size c.kind = value_below w m solves c.kind c.symbol c.arguments within in
      let most : greatest_tried w ds c ≡ bound_of w.size c.kind - 1 = ap (λ (b : Bool). tried_to b w.size c.kind (max (above_used w.fixed ds) (above_each c.arguments))) all in
      among_filter (λ v. nat_le v (greatest_tried w ds c)) (value_at m c) (p c) (le-leb _ _ (omega (arith, bound, most))) (extended c within)

  -- what the search finds from here on
  abbrev Reaches : ℕ → Type 0
  Reaches k = (ds : List Decision) (p : ValuesLeft) → Extends w.size m p → many_open w p < k → Found (leaves_within k w ds p)

  below_found : (k : ℕ) → Reaches k → (ds : List Decision) (q : ValuesLeft) → Extends w.size m q → many_open w q < suc k → (o : Option Cell) → chosen w ds q ≡ o → Found (below (leaves_within k w) w ds q o)
  unfolding many_open
  below_found k reaches ds q extended few None e = (q, inl refl, extended)
  below_found k reaches ds q extended few (Some c) e =
      let there = chosen_in w ds q c e in
      let within = in_range w c 0 (many_cells w) (some_element w m solves) (omega arith) there.0 in
      let v = value_at m c in
      let next : Extends w.size m (with_left q c (v ∷ [])) = narrowed_so w.size m q c (v ∷ []) extended (inl refl) in
      let less : many_open w (with_left q c (v ∷ [])) < many_open w q =
      one_less (λ d. is_open (with_left q c (v ∷ []) d)) (λ d. is_open (q d)) c (all_cells w) (opens_none_there q c v) (closed_there q c v) there.1 there.0 in
      let found = reaches (decide c v ∷ ds) (with_left q c (v ∷ [])) next (omega (arith, less, few)) in
      (found.0, one_of_tried (λ u. leaves_within k w (decide c u ∷ ds) (with_left q c (u ∷ []))) found.0 v (tried w ds q c) (value_tried ds q c extended within) found.1, found.2)

  closed_found : (k : ℕ) → Reaches k → (ds : List Decision) (p : ValuesLeft) → Extends w.size m p → many_open w p < suc k → (o : Option ValuesLeft) → closure w p ≡ o → Found (behind_closing (leaves_within k w) w ds o)
  unfolding many_open
  closed_found k reaches ds p extended few None e = absurd (subst (IsKept w.size m) e (closure_so w m p solves extended))
  closed_found k reaches ds p extended few (Some q) e =
      let fewer_now : many_open w q ≤ many_open w p = fewer (λ d. is_open (q d)) (λ d. is_open (p d)) (all_cells w) (closure_opens_none w p q e) in
      below_found k reaches ds q (subst (IsKept w.size m) e (closure_so w m p solves extended)) (omega (arith, fewer_now, few)) (chosen w ds q) refl

  reaches_all : (k : ℕ) → Reaches k
  reaches_all zero ds p extended few = absurd (omega (arith, few))
  reaches_all (suc k) ds p extended few = closed_found k (reaches_all k) ds p extended few (closure w p) refl

pub filter_short : (f : Cell → Bool) (cs : List Cell) → length (filter f cs) ≤ length cs
filter_short f [] = omega arith
filter_short f (c ∷ cs) = by (f c) (filter_short f cs)
  where
    by : (b : Bool) → length (filter f cs) ≤ length cs → length (if b then c ∷ filter f cs else filter f cs) ≤ suc (length cs)
    by true rest = omega (arith, rest)
    by false rest = omega (arith, rest)

pub leaves_reach : LeavesReachAll
unfolding many_open
leaves_reach w m all solves =
    let few : length (all_cells w) ≡ many_cells w = length-map-range_with_len (cell_of w) 0 (many_cells w) in
    let short = filter_short (λ c. is_open (all_left w c)) (all_cells w) in
    reaches_all w m all solves (suc (many_cells w)) [] (all_left w) (all_at_first w m solves) (omega (arith, few, short))
