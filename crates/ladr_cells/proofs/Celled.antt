-- The clauses of what is stated have cells for each of their terms.
use Rattle.std.proofs.Common.{◌≡◌, inl, inr, ℕ, zero, suc, ◌+◌, ◌<◌, ◌≤◌, Bool, true, false, ◌==◌, ◌||◌, if◌then◌else◌, ◌^◌, List, [], ◌∷◌, ◌++◌, map, length, Option, Some, slice_get, refl, sym, ap, subst, ◌∙◌, append_assoc, length-append, arith}
use Rattle.std.specs.Prelude.{MatchBool}
use Rattle.std.specs.List.{AllByRecursion}
use Rattle.std.specs.Option.{option_map_or}
use Rattle.std.proofs.lemmas.Bool.{or_cases, or_left, or_right, eqb-true, eq-eqb, false≢true, false_from_ne_true}
use Rattle.std.proofs.lemmas.Bool.Decides.{nat_tests}
use Rattle.std.proofs.lemmas.List.Folds.{list_any-append}
use Rattle.std.proofs.lemmas.Option.{slice_get_within}
use Rattle.cell_choice.specs.Numbers.{NamesBelow}
use Rattle.cell_search.specs.Searchable.{count_of, HasCells, IsOfCells, AreOfCells, IsEquationOfCells, IsAtomOfCells, IsClauseOfCells, HasAllCells}
use Rattle.clausify.specs.Behind.{AreFor, StandBehind, SkolemsStandBehind}
use Rattle.clausify.specs.Input.{formulas, is_used, numbers_passing, used_symbols, skolems, skolem_numbers, with_skolems, axioms_in_table}
use Rattle.fol_core.specs.Bound.{IsOnce, uses_symbol}
use Rattle.fol_core.specs.Free.{is_in}
use Rattle.fol_core.specs.Literals.{ClauseTree, equality}
use Rattle.fol_core.specs.Occurs.{occurs_in, size_needed, above_elements, above_all_elements}
use Rattle.fol_core.specs.SkolemAxioms.{SkolemAxiom}
use Rattle.fol_problem.specs.Stated.{Said, Stated}
use Rattle.fol_core.specs.SymbolTable.{Symbol, symbol, kind_at, arity_at}
use Rattle.fol_core.specs.Tree.{Tree, var, elem, app, Trees, none, more}
use Rattle.fol_core.specs.declared.symbols.Kind.{Kind}
use Rattle.fol_core.specs.declared.symbols.Kind.TheVariants.{Function, Relation}
use Rattle.fol_core.proofs.Places.{slice_get_more}
use Rattle.mace_cells.specs.World.{World}
use Rattle.mace_cells.specs.declared.way.Way.{Way}
use Rattle.mace_ground.specs.Cells.{Block, blocks_of, found_from}
use Rattle.ladr_cells.specs.Fitting.{IsUseOf, FitsTable}
use Rattle.ladr_cells.specs.Uses.{Use, applies, mentions, IsTermOf, AreTermsOf, IsFormulaOf}
use Rattle.ladr_cells.specs.Worlds.{clauses_for, world_for}
use Rattle.ladr_cells.proofs.Clausal.{IsEquationOf, IsAtomOf, IsClauseOf, IsSkolemUse, rows_fit}
use Rattle.ladr_cells.proofs.Uses.{formula_weaker, all_weaker}

-- a use of a symbol that has cells, or the name of an element
abbrev IsCelled : World → Use → Type 0
IsCelled w (applies Function s n) = HasCells w Function s n
IsCelled w (applies Relation s n) = ((s == equality) ≡ false) × HasCells w Relation s n
IsCelled w (mentions k) = k < w.size

module _ (w : World) where
  mutual
    term_of_cells : (t : Tree) → IsTermOf (IsCelled w) t → IsOfCells w t
    term_of_cells (var x) h = tt
    term_of_cells (elem k) h = h
    term_of_cells (app s ts) h = (h.0, terms_of_cells ts h.1)

    terms_of_cells : (ts : Trees) → AreTermsOf (IsCelled w) ts → AreOfCells w ts
    terms_of_cells none h = tt
    terms_of_cells (more t ts) h = (term_of_cells t h.0, terms_of_cells ts h.1)

  sides_of_cells : (ts : Trees) → IsEquationOf (IsCelled w) ts → IsEquationOfCells w ts
  sides_of_cells none h = absurd h
  sides_of_cells (more s none) h = absurd h
  sides_of_cells (more s (more t none)) h = (term_of_cells s h.0, term_of_cells t h.1)
  sides_of_cells (more s (more t (more u ts))) h = absurd h

  atom_of_cells : (t : Tree) → IsAtomOf (IsCelled w) t → IsAtomOfCells w t
  atom_of_cells (var x) h = absurd h
  atom_of_cells (elem k) h = absurd h
  atom_of_cells (app r ts) h = by (r == equality) h
    where
      by : (b : Bool) → MatchBool b (IsEquationOf (IsCelled w) ts) (IsCelled w (applies Relation r (count_of ts)) × AreTermsOf (IsCelled w) ts)
          → MatchBool b (IsEquationOfCells w ts) (HasCells w Relation r (count_of ts) × AreOfCells w ts)
      by true h = sides_of_cells ts h
      by false h = (h.0.1, terms_of_cells ts h.1)

  clause_of_cells : (c : ClauseTree) → IsClauseOf (IsCelled w) c → IsClauseOfCells w c
  clause_of_cells [] h = tt
  clause_of_cells (l ∷ c) h = (atom_of_cells l.atom h.0, clause_of_cells c h.1)

-- the name of an element below k, or a use of a function or a relation, which isn't equality
abbrev IsNamed : ℕ → Use → Type 0
IsNamed k (applies Function s n) = Unit {0}
IsNamed k (applies Relation s n) = (s == equality) ≡ false
IsNamed k (mentions j) = j < k

module _ (k : ℕ) where
  mutual
    term_named : (t : Tree) → IsTermOf (IsNamed k) t → above_elements t ≤ k
    term_named (var x) h = omega arith
    term_named (elem j) h = omega (arith, h)
    term_named (app s ts) h = terms_named ts h.1

    terms_named : (ts : Trees) → AreTermsOf (IsNamed k) ts → above_all_elements ts ≤ k
    terms_named none h = omega arith
    terms_named (more t ts) h = omega (arith, term_named t h.0, terms_named ts h.1)

  sides_named : (ts : Trees) → IsEquationOf (IsNamed k) ts → above_all_elements ts ≤ k
  sides_named none h = absurd h
  sides_named (more s none) h = absurd h
  sides_named (more s (more t none)) h = omega (arith, term_named s h.0, term_named t h.1)
  sides_named (more s (more t (more u ts))) h = absurd h

  atom_named : (t : Tree) → IsAtomOf (IsNamed k) t → above_elements t ≤ k
  atom_named (var x) h = absurd h
  atom_named (elem j) h = absurd h
  atom_named (app r ts) h = by (r == equality) h
    where
      by : (b : Bool) → MatchBool b (IsEquationOf (IsNamed k) ts) (IsNamed k (applies Relation r (count_of ts)) × AreTermsOf (IsNamed k) ts) → above_all_elements ts ≤ k
      by true h = sides_named ts h
      by false h = terms_named ts h.1

  clause_named : (c : ClauseTree) → IsClauseOf (IsNamed k) c → NamesBelow k c
  clause_named [] h = tt
  clause_named (l ∷ c) h = (atom_named l.atom h.0, clause_named c h.1)

  skolems_named : (ws : List SkolemAxiom) → AllByRecursion (IsSkolemUse (IsNamed k)) ws
  skolems_named [] = tt
  skolems_named (w ∷ ws) = (tt, skolems_named ws)

-- the block of a symbol is found among those of some symbols
abbrev pub block_in : List Symbol → ℕ → Block
block_in table s = record { kind = kind_at table s; symbol = s; arity = arity_at table s }

pub found_in : (table : List Symbol) (n k s : ℕ) (ss : List ℕ) → is_in s ss ≡ true → (first : ℕ) × (found_from n k (blocks_of table ss) s ≡ Some (first, block_in table s))
found_in table n k s [] h = absurd (false≢true h)
found_in table n k s (x ∷ ss) h = by (s == x) refl (λ e. found_in table n (k + n ^ arity_at table x) s ss e)
  where
    later : ℕ
    later = k + n ^ arity_at table x

    by : (b : Bool) → (s == x) ≡ b → (is_in s ss ≡ true → (first : ℕ) × (found_from n later (blocks_of table ss) s ≡ Some (first, block_in table s)))
        → (first : ℕ) × ((if b then Some (k, block_in table x) else found_from n later (blocks_of table ss) s) ≡ Some (first, block_in table s))
    by true e rest = (k, ap (λ (y : ℕ). Some (k, block_in table y)) (sym (eqb-true s x e)))
    by false e rest = rest (ap (λ (b : Bool). b || is_in s ss) (sym e) ∙ h)

-- the symbols of the blocks are these again
symbols_back : (table : List Symbol) (ss : List ℕ) → map (λ b. b.symbol) (blocks_of table ss) ≡ ss
symbols_back table [] = refl
symbols_back table (s ∷ ss) = ap (λ (xs : List ℕ). s ∷ xs) (symbols_back table ss)

-- numbers that rise, from a on and below b
abbrev Rises : ℕ → List ℕ → ℕ → Type 0
Rises a [] b = a ≤ b
Rises a (x ∷ xs) b = (a ≤ x) × Rises (suc x) xs b

rises_from : (a b c : ℕ) (xs : List ℕ) → a ≤ b → Rises b xs c → Rises a xs c
rises_from a b c [] h k = omega (arith, h, k)
rises_from a b c (x ∷ xs) h k = (omega (arith, h, k.0), k.1)

rises_on : (a b c : ℕ) (xs ys : List ℕ) → Rises a xs b → Rises b ys c → Rises a (xs ++ ys) c
rises_on a b c [] ys h k = rises_from a b c ys h k
rises_on a b c (x ∷ xs) ys h k = (h.0, rises_on (suc x) b c xs ys h.1 k)

rises_above : (a b : ℕ) (xs : List ℕ) → Rises a xs b → (x : ℕ) → is_in x xs ≡ true → a ≤ x
rises_above a b [] h x i = absurd (false≢true i)
rises_above a b (y ∷ ys) h x i = elim (or_cases (x == y) (is_in x ys) i) [
  | inl e ↦ omega (arith, eqb-true x y e, h.0)
  | inr j ↦ omega (arith, h.0, rises_above (suc y) b ys h.1 x j)
]

rises_once : (a b : ℕ) (xs : List ℕ) → Rises a xs b → IsOnce xs
rises_once a b [] h = tt
rises_once a b (x ∷ xs) h = (false_from_ne_true (is_in x xs) (λ i. absurd (omega (arith, rises_above (suc x) b xs h.1 x i))), rises_once (suc x) b xs h.1)

passing_rises : (test : ℕ → Bool) (n left : ℕ) → Rises n (numbers_passing test n left) (n + left)
passing_rises test n zero = omega arith
passing_rises test n (suc left) = by (test n) (rest (passing_rises test (n + 1) left))
  where
    rest : Rises (n + 1) (numbers_passing test (n + 1) left) (n + 1 + left) → Rises (suc n) (numbers_passing test (n + 1) left) (n + suc left)
    rest h = subst (λ (k : ℕ). Rises (suc n) (numbers_passing test (n + 1) left) k) (omega arith) (rises_from (suc n) (n + 1) (n + 1 + left) (numbers_passing test (n + 1) left) (omega arith) h)

    by : (b : Bool) → Rises (suc n) (numbers_passing test (n + 1) left) (n + suc left) → Rises n (if b then n ∷ numbers_passing test (n + 1) left else numbers_passing test (n + 1) left) (n + suc left)
    by true h = (omega arith, h)
    by false h = rises_from n (suc n) (n + suc left) (numbers_passing test (n + 1) left) (omega arith) h

differs : (n s : ℕ) → n ≤ s → (s == n) ≡ false → n + 1 ≤ s
differs n s a e = grind (arith, nat_tests)

pub passes : (test : ℕ → Bool) (n left s : ℕ) → test s ≡ true → n ≤ s → s < n + left → is_in s (numbers_passing test n left) ≡ true
passes test n zero s h a b = absurd (omega (arith, a, b))
passes test n (suc left) s h a b = by (test n) refl (s == n) refl (λ more. passes test (n + 1) left s h more (omega (arith, b)))
  where
    by : (t : Bool) → test n ≡ t → (e : Bool) → (s == n) ≡ e → (n + 1 ≤ s → is_in s (numbers_passing test (n + 1) left) ≡ true)
        → is_in s (if t then n ∷ numbers_passing test (n + 1) left else numbers_passing test (n + 1) left) ≡ true
    by true d true e rest = or_left (s == n) _ e
    by true d false e rest = or_right (s == n) _ (rest (differs n s a e))
    by false d true e rest = absurd (false≢true (sym d ∙ ap test (sym (eqb-true s n e)) ∙ h))
    by false d false e rest = rest (differs n s a e)

-- Skolem symbols, whose numbers are n and those behind it
pub skolems_rise : (n : ℕ) (ss : List Symbol) (ws : List SkolemAxiom) → AreFor n ss ws → Rises n (map (λ w. w.symbol) ws) (n + length ws)
skolems_rise n [] [] h = omega arith
skolems_rise n [] (w ∷ ws) h = absurd h
skolems_rise n (s ∷ ss) [] h = absurd h
skolems_rise n (s ∷ ss) (w ∷ ws) h = (
  omega (arith, h.0),
  subst (λ (k : ℕ). Rises (suc w.symbol) (map (λ w. w.symbol) ws) k) (omega arith)
      (subst (λ (k : ℕ). Rises (suc k) (map (λ w. w.symbol) ws) (suc n + length ws)) (sym h.0) (skolems_rise (suc n) ss ws h.3)),
)

-- each stands in the table behind the front as a function with an argument for each variable
abbrev StandsAs : List Symbol → SkolemAxiom → Type 0
StandsAs table w = (kind_at table w.symbol ≡ Function) × (arity_at table w.symbol ≡ length w.variables)

pub at_end : (front : List Symbol) (s : Symbol) (ss : List Symbol) → slice_get (front ++ s ∷ ss) (length front) ≡ Some s
at_end [] s ss = refl
at_end (x ∷ front) s ss = at_end front s ss

skolems_stand : (front ss : List Symbol) (ws : List SkolemAxiom) → AreFor (length front) ss ws → AllByRecursion (StandsAs (front ++ ss)) ws
skolems_stand front [] [] h = tt
skolems_stand front [] (w ∷ ws) h = absurd h
skolems_stand front (s ∷ ss) [] h = absurd h
skolems_stand front (s ∷ ss) (w ∷ ws) h =
    let there : slice_get (front ++ s ∷ ss) w.symbol ≡ Some s = ap (slice_get (front ++ s ∷ ss)) h.0 ∙ at_end front s ss in
    let longer : length (front ++ s ∷ []) ≡ suc (length front) = omega (arith, length-append front (s ∷ [])) in
    let rest = skolems_stand (front ++ s ∷ []) ss ws (subst (λ (k : ℕ). AreFor k ss ws) (sym longer) h.3) in (
      (ap (λ (o : Option Symbol). option_map_or (λ s. s.kind) o Function) there ∙ h.1, ap (λ (o : Option Symbol). option_map_or (λ s. s.arity) o 0) there ∙ sym h.2),
      subst (λ (t : List Symbol). AllByRecursion (StandsAs t) ws) (append_assoc front (s ∷ []) ss) rest,
    )

-- each of some witnesses, whose symbols are among these
among : (Q : SkolemAxiom → Type 0) (ss : List ℕ) (ws : List SkolemAxiom) → ((x : ℕ) → is_in x (map (λ w. w.symbol) ws) ≡ true → is_in x ss ≡ true) → AllByRecursion Q ws
    → AllByRecursion (λ w. Q w × (is_in w.symbol ss ≡ true)) ws
among Q ss [] f h = tt
among Q ss (w ∷ ws) f h =
    let symbols = map (λ (w : SkolemAxiom). w.symbol) ws in
    ((h.0, f w.symbol (or_left (w.symbol == w.symbol) (is_in w.symbol symbols) (eq-eqb w.symbol w.symbol refl))), among Q ss ws (λ x i. f x (or_right (x == w.symbol) (is_in x symbols) i)) h.1)

module _ (p : Stated) (n : ℕ) (way : Way) (fits : FitsTable p) (some : 0 < n) (needed : size_needed (formulas p.formulas) ≤ n) (few : length p.symbols ≤ equality) (stand : StandBehind p) where
  abbrev table : List Symbol
  table = with_skolems p.symbols p

  abbrev own : List ℕ
  own = used_symbols p.symbols p.formulas

  abbrev witnesses : List SkolemAxiom
  witnesses = axioms_in_table p.symbols p

  abbrev all : List ℕ
  all = own ++ map (λ w. w.symbol) witnesses

  abbrev w : World
  w = world_for p n way

  rising : Rises 0 all (length p.symbols + length witnesses)
  rising = rises_on 0 (length p.symbols) (length p.symbols + length witnesses) own (map (λ w. w.symbol) witnesses)
      (subst (Rises 0 own) (omega arith) (passing_rises (is_used p.formulas) 0 (length p.symbols))) (skolems_rise (length p.symbols) (skolems p.symbols p.formulas) witnesses stand.witnesses)

  -- a symbol among them has the cells of the table's kind and arity
  celled : (s : ℕ) (kind : Kind) (arity : ℕ) → is_in s all ≡ true → kind_at table s ≡ kind → arity_at table s ≡ arity → HasCells w kind s arity
  celled s kind arity i k a = let q = found_in table n 0 s all i in (q.0, (block_in table s, (q.1, k, a)))

  own_celled : (kind : Kind) (s arity : ℕ) → is_used p.formulas s ≡ true → IsUseOf p.symbols (applies kind s arity) → ((s == equality) ≡ false) × HasCells w kind s arity
  own_celled kind s arity used u =
      let within = slice_get_within p.symbols s (symbol u.0 arity kind) u.1 in
      let there : slice_get table s ≡ Some (symbol u.0 arity kind) =
      ap (λ (t : List Symbol). slice_get t s) stand.table ∙ slice_get_more p.symbols (skolems p.symbols p.formulas) s (symbol u.0 arity kind) u.1 in
      let here : is_in s own ≡ true = passes (is_used p.formulas) 0 (length p.symbols) s used (omega arith) (omega (arith, within)) in
      let among_all : is_in s all ≡ true = list_any-append (λ y. s == y) own (map (λ w. w.symbol) witnesses) ∙ or_left (is_in s own) _ here in (
        apart s (omega (arith, within, few)),
        celled s kind arity among_all (ap (λ (o : Option Symbol). option_map_or (λ s. s.kind) o Function) there) (ap (λ (o : Option Symbol). option_map_or (λ s. s.arity) o 0) there),
      )
    where
      apart : (s : ℕ) → s < equality → (s == equality) ≡ false
      apart s l = false_from_ne_true (s == equality) (λ e. absurd (omega (arith, eqb-true s equality e, l)))

  use_celled : (kind : Kind) (s arity : ℕ) → is_used p.formulas s ≡ true → IsUseOf p.symbols (applies kind s arity) → IsCelled w (applies kind s arity)
  use_celled Function s arity used u = (own_celled Function s arity used u).1
  use_celled Relation s arity used u = own_celled Relation s arity used u

  formulas_celled : (ss : List Said) → ((s : ℕ) → occurs_in s (formulas ss) ≡ true → is_used p.formulas s ≡ true) → size_needed (formulas ss) ≤ n
      → AllByRecursion (λ s. IsFormulaOf (IsUseOf p.symbols) s.formula) ss → AllByRecursion (λ s. IsFormulaOf (IsCelled w) s.formula) ss
  formulas_celled [] used below h = tt
  formulas_celled (x ∷ ss) used below h = (
    formula_weaker (IsUseOf p.symbols) (IsCelled w) x.formula (λ kind s m e u. use_celled kind s m (used s (or_left (uses_symbol s x.formula) (occurs_in s (formulas ss)) e)) u)
        (λ k l u. omega (arith, l, below)) h.0,
    formulas_celled ss (λ s e. used s (or_right (uses_symbol s x.formula) (occurs_in s (formulas ss)) e)) (omega (arith, below)) h.1,
  )

  use_named : (kind : Kind) (s arity : ℕ) → IsUseOf p.symbols (applies kind s arity) → IsNamed w.fixed (applies kind s arity)
  use_named Function s arity u = tt
  use_named Relation s arity u =
      let within = slice_get_within p.symbols s (symbol u.0 arity Relation) u.1 in
      false_from_ne_true (s == equality) (λ e. absurd (omega (arith, eqb-true s equality e, within, few)))

  formulas_named : (ss : List Said) → size_needed (formulas ss) ≤ w.fixed → AllByRecursion (λ s. IsFormulaOf (IsUseOf p.symbols) s.formula) ss → AllByRecursion (λ s. IsFormulaOf (IsNamed w.fixed) s.formula) ss
  formulas_named [] below h = tt
  formulas_named (x ∷ ss) below h = (
    formula_weaker (IsUseOf p.symbols) (IsNamed w.fixed) x.formula (λ kind s m e u. use_named kind s m u) (λ k l u. omega (arith, l, below)) h.0,
    formulas_named ss (omega (arith, below)) h.1,
  )

  witnesses_celled : AllByRecursion (IsSkolemUse (IsCelled w)) witnesses
  witnesses_celled =
      let stands = subst (λ (t : List Symbol). AllByRecursion (StandsAs t) witnesses) (sym stand.table) (skolems_stand p.symbols (skolems p.symbols p.formulas) witnesses stand.witnesses) in
      let symbols = map (λ (w : SkolemAxiom). w.symbol) witnesses in
      all_weaker (λ v. StandsAs table v × (is_in v.symbol all ≡ true)) (IsSkolemUse (IsCelled w)) (λ v h. celled v.symbol Function (length v.variables) h.1 h.0.0 h.0.1) witnesses
      (among (StandsAs table) all witnesses (λ x i. list_any-append (λ y. x == y) own symbols ∙ or_right (is_in x own) (is_in x symbols) i) stands)

  relation_apart : (r m : ℕ) → IsCelled w (applies Relation r m) → (r == equality) ≡ false
  relation_apart r m h = h.0

  has_all_cells : HasAllCells w
  has_all_cells = record {
    some = some;
    fits = needed;
    once = subst IsOnce (sym (symbols_back table all)) (rises_once 0 (length p.symbols + length witnesses) all rising);
    clauses = all_weaker (IsClauseOf (IsCelled w)) (IsClauseOfCells w) (clause_of_cells w) (clauses_for p)
        (rows_fit (IsCelled w) relation_apart (skolem_numbers p.symbols p) 1 0 p.formulas (formulas_celled p.formulas (λ s e. e) needed fits) witnesses_celled);
    named = all_weaker (IsClauseOf (IsNamed w.fixed)) (NamesBelow w.fixed) (clause_named w.fixed) (clauses_for p)
        (rows_fit (IsNamed w.fixed) (λ r m h. h) (skolem_numbers p.symbols p) 1 0 p.formulas (formulas_named p.formulas (omega arith) fits) (skolems_named w.fixed witnesses));
  }

pub cells_for_all : SkolemsStandBehind → (p : Stated) (n : ℕ) (way : Way) → FitsTable p → 0 < n → size_needed (formulas p.formulas) ≤ n → length p.symbols ≤ equality
    → length (axioms_in_table p.symbols p) ≤ equality → HasAllCells (world_for p n way)
cells_for_all stand p n way fits some needed few fewer = has_all_cells p n way fits some needed few (stand p few fewer)
