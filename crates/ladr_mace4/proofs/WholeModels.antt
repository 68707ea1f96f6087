-- Whole tables of a problem's symbols and of its Skolem symbols.
use Rattle.std.proofs.Common.{◌≡◌, inl, inr, ℕ, zero, suc, ◌+◌, ◌*◌, ◌^◌, ◌<◌, ◌≤◌, ◌||◌, ◌==◌, Bool, true, false, if◌then◌else◌, List, [], ◌∷◌, ◌++◌, map, length, Option, Some, slice_get, refl, sym, ap, ap₂, subst, ◌∙◌, append_assoc, arith}
use Rattle.std.specs.List.{range_with_len}
use Rattle.std.specs.Option.{option_map_or}
use Rattle.std.proofs.lemmas.Bool.{or_cases, or_left, or_right, false≢true, eqb-true, eq-eqb}
use Rattle.std.proofs.lemmas.List.{length-append, length-map}
use Rattle.std.proofs.lemmas.Nat.{mul-le}
use Rattle.std.proofs.Math.Nat.{pow-zero, pow-suc}
use Rattle.std.proofs.lemmas.List.Folds.{list_any-append}
use Rattle.cell_search.specs.Finites.{IsRowFor, AreTablesFor, tables_over}
use Rattle.clausify.specs.Behind.{AreFor, StandBehind}
use Rattle.clausify.specs.Input.{numbers_passing, is_used, used_symbols, skolems}
use Rattle.fol_core.specs.Free.{is_in}
use Rattle.fol_core.specs.Occurs.{occurs_in}
use Rattle.fol_core.specs.Literals.{equality, AreTrueClauses}
use Rattle.fol_core.specs.SkolemAxioms.{SkolemAxiom}
use Rattle.fol_problem.specs.Stated.{Stated, IsCountermodel}
use Rattle.fol_core.specs.SymbolTable.{Symbol, kind_at, arity_at}
use Rattle.fol_core.specs.declared.symbols.Kind.{Kind}
use Rattle.fol_core.specs.declared.symbols.Kind.TheVariants.{Function}
use Rattle.ladr_cells.proofs.Celled.{block_in, found_in, passes, at_end}
use Rattle.ladr_cells.proofs.Whole.{none_found, same_rows, same_meaning}
use Rattle.ladr_cells.specs.Worlds.{blocks_for, clauses_for, world_for, ground_size}
use Rattle.ladr_mace4.proofs.Printable.{listings_rows, all_tellable}
use Rattle.ladr_mace4.specs.Models.{AreFullRows, IsWholeModel}
use Rattle.ladr_mace4.specs.Rooms.{refused_cells}
use Rattle.mace_cells.specs.declared.way.Way.{Way}
use Rattle.ladr_mace4.specs.Skolems.{all_symbols, all_axioms}
use Rattle.ladr_models.specs.ReadsBack.{AreRows, IsPrintable}
use Rattle.ladr_problem.specs.Names.{AreTellable}
use Rattle.mace_cells.specs.World.{World}
use Rattle.mace_ground.specs.Cells.{Block, blocks_of, cells_in, found}
use Rattle.mace_ground.specs.Instances.{ground_literals}
use Rattle.model_tables.specs.Size.{bound_of, AllBelow, IsListing, AreListings, formulas_of}
use Rattle.model_tables.specs.Tables.{Listing, Finite, listing, row_of, meaning_of}

-- rows, and full rows behind them
rows_both : (n : ℕ) (ss more : List Symbol) (ls rest : List Listing) → AreRows n ss ls → AreFullRows n more rest → AreRows n (ss ++ more) (ls ++ rest)
rows_both n [] [] [] [] h f = tt
rows_both n [] [] [] (l ∷ rest) h f = absurd f
rows_both n [] (s ∷ more) [] [] h f = absurd f
rows_both n [] (s ∷ more) [] (l ∷ rest) h f = ((true, f.0), rows_both n [] more [] rest tt f.1)
rows_both n [] more (l ∷ ls) rest h f = absurd h
rows_both n (s ∷ ss) more [] rest h f = absurd h
rows_both n (s ∷ ss) more (l ∷ ls) rest h f = (h.0, rows_both n ss more ls rest h.1 f)

pub whole_rows : (p : Stated) (n : ℕ) (u : Finite) → StandBehind p → IsWholeModel p n u → AreRows n (all_symbols p) u.rows
whole_rows p n u stand is =
    subst (λ (ss : List Symbol). AreRows n ss u.rows) (sym stand.table)
    (subst (AreRows n (p.symbols ++ skolems p.symbols p.formulas)) (sym is.parts)
    (rows_both n p.symbols (skolems p.symbols p.formulas) is.own is.skolem (listings_rows n (formulas_of p) 0 p.symbols is.own is.interpretation.1) is.full))

pub model_printable : (n k : ℕ) (p : Stated) (u : Finite) → StandBehind p → AreTellable p.symbols → n ≤ 200 → k < 2 ^ 64 → IsWholeModel p n u → IsPrintable n k (all_symbols p) u
model_printable n k p u stand told most number is = record {
  most = most;
  number = number;
  tellable = all_tellable p stand told;
  size = is.interpretation.0;
  rows = whole_rows p n u stand is;
}

-- where there are few enough cells there are few enough Skolem symbols
some_cells : (n k : ℕ) → 1 ≤ n → 1 ≤ n ^ k
some_cells n zero h = let e = pow-zero n in omega (arith, e)
some_cells n (suc k) h =
    let e : n ^ suc k ≡ n ^ k * n = pow-suc n k in
    let le = mul-le 1 1 (n ^ k) n (some_cells n k h) h in
    omega (arith, e, le)

few_blocks : (table : List Symbol) (n : ℕ) (ss : List ℕ) → 1 ≤ n → length ss ≤ cells_in n (blocks_of table ss)
few_blocks table n [] h = omega arith
few_blocks table n (s ∷ ss) h = omega (arith, some_cells n (arity_at table s) h, few_blocks table n ss h)

pub few_skolems : (p : Stated) (n : ℕ) → 1 ≤ n → ground_size n p < refused_cells → length (all_axioms p) ≤ equality
few_skolems p n some room =
    let own = used_symbols p.symbols p.formulas in
    let more = map (λ w. w.symbol) (all_axioms p) in
    let blocks : length (own ++ more) ≤ cells_in n (blocks_for p) = few_blocks (all_symbols p) n (own ++ more) some in
    let few : cells_in n (blocks_for p) + ground_literals n (clauses_for p) < refused_cells = room in
    let both : length (own ++ more) ≡ length own + length more = length-append own more in
    let same : length more ≡ length (all_axioms p) = length-map (all_axioms p) (λ w. w.symbol) in
    omega (arith, blocks, both, same, few)

-- the numbers that pass a test
passed : (test : ℕ → Bool) (n left s : ℕ) → is_in s (numbers_passing test n left) ≡ true → (test s ≡ true) × (s < n + left)
passed test n zero s h = absurd (false≢true h)
passed test n (suc left) s h = by (test n) refl h (λ more. (let r = passed test (n + 1) left s more in (r.0, omega (arith, r.1))))
  where
    by : (t : Bool) → test n ≡ t → is_in s (if t then n ∷ numbers_passing test (n + 1) left else numbers_passing test (n + 1) left) ≡ true
        → (is_in s (numbers_passing test (n + 1) left) ≡ true → (test s ≡ true) × (s < n + suc left)) → (test s ≡ true) × (s < n + suc left)
    by false d i rest = rest i
    by true d i rest = elim (or_cases (s == n) (is_in s (numbers_passing test (n + 1) left)) i) [
      | inl e ↦ (let same = eqb-true s n e in (ap test same ∙ d, omega (arith, same)))
      | inr more ↦ rest more
    ]

-- the numbers of Skolem symbols
skolem_place : (n : ℕ) (ss : List Symbol) (ws : List SkolemAxiom) (s : ℕ) → AreFor n ss ws → is_in s (map (λ w. w.symbol) ws) ≡ true → (n ≤ s) × (s < n + length ss)
skolem_place n [] [] s f h = absurd (false≢true h)
skolem_place n [] (w ∷ ws) s f h = absurd f
skolem_place n (x ∷ ss) [] s f h = absurd f
skolem_place n (x ∷ ss) (w ∷ ws) s f h = elim (or_cases (s == w.symbol) (is_in s (map (λ w. w.symbol) ws)) h) [
  | inl e ↦ (let same = eqb-true s w.symbol e in (omega (arith, same, f.0), omega (arith, same, f.0)))
  | inr more ↦ (let r = skolem_place (suc n) ss ws s f.3 more in (omega (arith, r.0), omega (arith, r.1)))
]

not_true : (b : Bool) → (b ≡ true → ⊥) → b ≡ false
not_true true h = absurd (h refl)
not_true false h = refl

-- rows, one behind the other
range_both : (f : ℕ → Listing) (k m j all at : ℕ) → all ≡ m + j → at ≡ k + m → map f (range_with_len k all) ≡ map f (range_with_len k m) ++ map f (range_with_len at j)
range_both f k zero j all at e here =
    let many : all ≡ j = omega (arith, e) in
    let same : k ≡ at = omega (arith, here) in
    ap₂ (λ (i l : ℕ). map f (range_with_len i l)) same many
range_both f k (suc m) j all at e here =
    let more : all ≡ suc (m + j) = omega (arith, e) in
    ap (λ (l : ℕ). map f (range_with_len k l)) more ∙ ap (λ (ls : List Listing). f k ∷ ls) (range_both f (k + 1) m j (m + j) at refl (omega (arith, here)))

module _ (p : Stated) (way : Way) (n : ℕ) (stand : StandBehind p) (t : Finite) (whole : AreTablesFor (world_for p n way) t) where
  abbrev table : List Symbol
  table = all_symbols p

  abbrev w : World
  w = world_for p n way

  abbrev own : List ℕ
  own = used_symbols p.symbols p.formulas

  abbrev more : List ℕ
  more = map (λ w. w.symbol) (all_axioms p)

  abbrev all : List ℕ
  all = own ++ more

  abbrev behind : List Symbol
  behind = skolems p.symbols p.formulas

  in_both : (s : ℕ) → is_in s all ≡ (is_in s own || is_in s more)
  in_both s = list_any-append (λ y. s == y) own more

  abbrev row_at : ℕ → Listing
  row_at s = listing (kind_at table s) (row_of t s)

  -- the row of a symbol, which has cells or none
  listing_at : (k : ℕ) (s : Symbol) (used : Bool) → slice_get table k ≡ Some s → is_in k all ≡ used → IsListing n s used (row_at k)
  listing_at k s true there here =
      let q = found_in table n 0 k all here in
      let row : IsRowFor w (Some (q.0, block_in table k)) (row_of t k) = subst (λ (o : Option (ℕ × Block)). IsRowFor w o (row_of t k)) q.1 (whole.rows k) in
      let kind : kind_at table k ≡ s.kind = ap (λ (o : Option Symbol). option_map_or (λ s. s.kind) o Function) there in
      let arity : arity_at table k ≡ s.arity = ap (λ (o : Option Symbol). option_map_or (λ s. s.arity) o 0) there in
      (kind, row.0 ∙ ap (λ (a : ℕ). n ^ a) arity, subst (λ (c : Kind). AllBelow (bound_of n c) (row_of t k)) kind row.1)
  listing_at k s false there here =
      let row : row_of t k ≡ [] = subst (λ (o : Option (ℕ × Block)). IsRowFor w o (row_of t k)) (none_found table n 0 k all here) (whole.rows k) in
      let kind : kind_at table k ≡ s.kind = ap (λ (o : Option Symbol). option_map_or (λ s. s.kind) o Function) there in
      (kind, ap (λ (vs : List ℕ). length vs) row, subst (AllBelow (bound_of n s.kind)) (sym row) tt)

  -- a symbol of the problem has cells where a formula has it
  own_here : (k : ℕ) → k < length p.symbols → is_in k all ≡ occurs_in k (formulas_of p)
  own_here k below = by (occurs_in k (formulas_of p)) refl
    where
      none_more : is_in k more ≡ false
      none_more = not_true (is_in k more) (λ h. (let r = skolem_place (length p.symbols) behind (all_axioms p) k stand.witnesses h in omega (arith, r.0, below)))

      by : (b : Bool) → occurs_in k (formulas_of p) ≡ b → is_in k all ≡ b
      by true e = in_both k ∙ or_left (is_in k own) (is_in k more) (passes (is_used p.formulas) 0 (length p.symbols) k e (omega arith) (omega (arith, below)))
      by false e =
          let none_own : is_in k own ≡ false = not_true (is_in k own) (λ h. false≢true (sym e ∙ (passed (is_used p.formulas) 0 (length p.symbols) k h).0)) in
          in_both k ∙ ap₂ (λ (a b : Bool). a || b) none_own none_more

  own_rows : (front rest behind_them : List Symbol) → (front ++ rest) ++ behind_them ≡ table → length front + length rest ≤ length p.symbols → AreListings n (formulas_of p) (length front) rest (map row_at (range_with_len (length front) (length rest)))
  own_rows front [] behind_them e within = tt
  own_rows front (s ∷ rest) behind_them e within =
      let k = length front in
      let there : slice_get table k ≡ Some s = ap (λ (xs : List Symbol). slice_get xs k) (sym e ∙ append_assoc front (s ∷ rest) behind_them) ∙ at_end front s (rest ++ behind_them) in
      let longer : length (front ++ s ∷ []) ≡ suc k = omega (arith, length-append front (s ∷ [])) in
      let next : suc k ≡ k + 1 = omega arith in
      let further = own_rows (front ++ s ∷ []) rest behind_them (ap (λ (xs : List Symbol). xs ++ behind_them) (append_assoc front (s ∷ []) rest) ∙ e) (omega (arith, longer, within)) in
      let at_next : AreListings n (formulas_of p) (suc k) rest (map row_at (range_with_len (suc k) (length rest))) =
      subst (λ (i : ℕ). AreListings n (formulas_of p) i rest (map row_at (range_with_len i (length rest)))) longer further in (
        listing_at k s (occurs_in k (formulas_of p)) there (own_here k (omega (arith, within))),
        subst (λ (i : ℕ). AreListings n (formulas_of p) (suc k) rest (map row_at (range_with_len i (length rest)))) next at_next,
      )

  full_rows : (front rest : List Symbol) (ws : List SkolemAxiom) → AreFor (length front) rest ws → front ++ rest ≡ table → ((s : ℕ) → is_in s (map (λ w. w.symbol) ws) ≡ true → is_in s all ≡ true) → AreFullRows n rest (map row_at (range_with_len (length front) (length rest)))
  full_rows front [] [] f e among = tt
  full_rows front [] (x ∷ ws) f e among = absurd f
  full_rows front (s ∷ rest) [] f e among = absurd f
  full_rows front (s ∷ rest) (x ∷ ws) f e among =
      let k = length front in
      let there : slice_get table k ≡ Some s = ap (λ (xs : List Symbol). slice_get xs k) (sym e) ∙ at_end front s rest in
      let longer : length (front ++ s ∷ []) ≡ suc k = omega (arith, length-append front (s ∷ [])) in
      let longer' : length (front ++ s ∷ []) ≡ k + 1 = omega (arith, longer) in
      let same : (k == x.symbol) ≡ true = eq-eqb k x.symbol (sym f.0) in
      let here : is_in k all ≡ true = among k (or_left (k == x.symbol) (is_in k (map (λ w. w.symbol) ws)) same) in
      let further =
      full_rows (front ++ s ∷ []) rest ws (subst (λ (i : ℕ). AreFor i rest ws) (sym longer) f.3) (append_assoc front (s ∷ []) rest ∙ e) (λ i h. among i (or_right (i == x.symbol) (is_in i (map (λ w. w.symbol) ws)) h)) in
      (listing_at k s true there here, subst (λ (i : ℕ). AreFullRows n rest (map row_at (range_with_len i (length rest)))) longer' further)

  -- no symbol behind the table has values
  pub none_behind : (s : ℕ) → length table ≤ s → row_of t s ≡ []
  none_behind s past =
      let many : length table ≡ length p.symbols + length behind = ap (λ (ss : List Symbol). length ss) stand.table ∙ length-append p.symbols behind in
      let none_own : is_in s own ≡ false = not_true (is_in s own) (λ h. (let r = passed (is_used p.formulas) 0 (length p.symbols) s h in omega (arith, r.1, many, past))) in
      let none_more : is_in s more ≡ false = not_true (is_in s more) (λ h. (let r = skolem_place (length p.symbols) behind (all_axioms p) s stand.witnesses h in omega (arith, r.1, many, past))) in
      subst (λ (o : Option (ℕ × Block)). IsRowFor w o (row_of t s)) (none_found table n 0 s all (in_both s ∙ ap₂ (λ (a b : Bool). a || b) none_own none_more)) (whole.rows s)

  -- the tables for all symbols are whole, and mean the same
  pub whole_over : AreTablesFor w (tables_over table t)
  whole_over = record { size = whole.size; rows = λ s. subst (IsRowFor w (found n w.blocks s)) (sym (same_rows table t none_behind s)) (whole.rows s) }

  pub whole_model : IsCountermodel (meaning_of t) p.formulas → AreTrueClauses (meaning_of t) (clauses_for p) → IsWholeModel p n (tables_over table t)
  whole_model says holds =
      let many : length table ≡ length p.symbols + length behind = ap (λ (ss : List Symbol). length ss) stand.table ∙ length-append p.symbols behind in
      record {
        own = map row_at (range_with_len 0 (length p.symbols));
        skolem = map row_at (range_with_len (length p.symbols) (length behind));
        parts = range_both row_at 0 (length p.symbols) (length behind) (length table) (length p.symbols) many (omega arith);
        interpretation = (whole.size, own_rows [] p.symbols behind (sym stand.table) (omega arith));
        full = full_rows p.symbols behind (all_axioms p) stand.witnesses (sym stand.table) (λ s h. in_both s ∙ or_right (is_in s own) (is_in s more) h);
        says = subst (λ m. IsCountermodel m p.formulas) (sym (same_meaning table t none_behind)) says;
        holds = subst (λ m. AreTrueClauses m (clauses_for p)) (sym (same_meaning table t none_behind)) holds;
      }
