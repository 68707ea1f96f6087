-- Passes that change something take values away, so in the end one changes nothing.
use Rattle.std.proofs.Common.{◌≡◌, ℕ, zero, suc, ◌+◌, ◌*◌, ◌^◌, ◌<◌, ◌≤◌, ◌==◌, nat_lt, max, Bool, true, false, not, if◌then◌else◌, MatchBool, List, [], ◌∷◌, ◌++◌, length, map, Option, None, Some, inl, inr, refl, sym, ap, ◌∙◌, subst, arith}
use Rattle.std.specs.Prelude.{◌⊎◌}
use Rattle.std.specs.List.{AllByRecursion, filter, range_with_len, list_all}
use Rattle.std.specs.Option.{option_and_then}
use Rattle.std.proofs.Math.Nat.{suc-mul}
use Rattle.std.proofs.lemmas.Bool.{cases_lt}
use Rattle.std.proofs.lemmas.List.FromFn.{length-map-range_with_len}
use Rattle.std.proofs.lemmas.Option.{none-some, same_Some, option_and_then_some}
use Rattle.fol_core.specs.Literals.{ClauseTree, equality}
use Rattle.fol_core.specs.Tree.{Tree, var, elem, app, Trees, none, more, list_of}
use Rattle.fol_core.specs.Truth.{Assignment}
use Rattle.fol_core.specs.declared.symbols.Kind.{Kind}
use Rattle.fol_core.specs.declared.symbols.Kind.TheVariants.{Function, Relation}
use Rattle.mace_cells.specs.World.{World, cell_of, many_cells}
use Rattle.mace_ground.proofs.Numbering.{by_number}
use Rattle.mace_ground.specs.Cells.{Cell, cell, digits}
use Rattle.mace_ground.specs.Instances.{assigned_by, variables_in}
use Rattle.model_tables.specs.Size.{AllBelow}
use Rattle.model_tables.specs.Tables.{place_from}
use Rattle.plain_search.proofs.Reaching.{IsIn, cell_itself}
use Rattle.plain_search.proofs.Sounding.{all_below, joined_some, same_cell}
use Rattle.plain_search.specs.Closing.{Told, nothing, contradiction, asks, asked_for, asked_by, joins, told, kept, narrowed, followed, Ground, ground, pass, passes, instances_of}
use Rattle.plain_search.specs.Fitting.{HasCells, IsOfCells, AreOfCells, IsEquationOfCells, IsAtomOfCells, IsClauseOfCells}
use Rattle.plain_search.specs.Known.{cell_for, known, all_known, Side, side, cell_side, term_side, equation_sides, sides, truth_known}
use Rattle.plain_search.specs.Lefts.{ValuesLeft, is_same_cell, with_left}
use Rattle.plain_search.specs.PlainLaws.{ClosureIsClosed}
use Rattle.plain_search.specs.Trying.{all_cells}

in_from : (w : World) (k a n : ℕ) → a ≤ k → k < a + n → IsIn (cell_of w k) (map (cell_of w) (range_with_len a n))
in_from w k a zero h l = absurd (omega (arith, h, l))
in_from w k a (suc n) h l = elim (cases_lt a k) [
  | inl less ↦ inr (in_from w k (a + 1) n (omega (arith, less)) (omega (arith, l)))
  | inr most ↦ inl (let same : k ≡ a = omega (arith, h, most) in ap (cell_of w) same)
]

-- a symbol that has cells has one for each list of as many elements
pub cell_there : (w : World) (kind : Kind) (s : ℕ) (xs : List ℕ) → HasCells w kind s (length xs) → AllBelow w.size xs → IsIn (cell kind s xs) (all_cells w)
cell_there w kind s xs (first, (b, h)) below =
    let p = by_number w.size w.blocks s first b xs h.0 (sym h.2) below in
    let same : cell_of w (first + place_from w.size 0 xs) ≡ cell kind s xs = p.1 ∙ ap (λ (k : Kind). cell k s xs) h.1 in
    subst (λ (c : Cell). IsIn c (all_cells w)) same (in_from w (first + place_from w.size 0 xs) 0 (many_cells w) (omega arith) (omega (arith, p.0)))

pub named_is : (n : ℕ) (kind : Kind) (s : ℕ) (xs : List ℕ) (c : Cell) → cell_for n kind s xs ≡ Some c → (cell kind s xs ≡ c) × AllBelow n xs
named_is n kind s xs c h = by (list_all (λ x. nat_lt x n) xs) refl h
  where
    by : (b : Bool) → list_all (λ x. nat_lt x n) xs ≡ b → (if b then Some (cell kind s xs) else None) ≡ Some c → (cell kind s xs ≡ c) × AllBelow n xs
    by false e g = absurd (none-some _ g)
    by true e g = (same_Some _ _ g, all_below n xs e)

-- what is asked is asked of a cell
module _ (w : World) (p : ValuesLeft) (e : Assignment) where
  many_known : (ts : Trees) (xs : List ℕ) → all_known w.size p e ts ≡ Some xs → length xs ≡ length (list_of ts)
  many_known none xs h = ap (λ (ys : List ℕ). length ys) (sym (same_Some _ _ h))
  many_known (more t ts) xs h =
      let j = joined_some (known w.size p e t) (all_known w.size p e ts) xs h in
      ap (λ (ys : List ℕ). length ys) j.1.1.2 ∙ ap suc (many_known ts j.1.0 j.1.1.1)

  abbrev IsOfWorld : Side → Type 0
  IsOfWorld a = (c : Cell) → a.cell ≡ Some c → IsIn c (all_cells w)

  unknown_cell : (o : Option ℕ) → IsOfWorld (side None o)
  unknown_cell o c h = absurd (none-some _ h)

  cell_side_in : (kind : Kind) (s : ℕ) (ts : Trees) → HasCells w kind s (length (list_of ts)) → IsOfWorld (cell_side w.size p e kind s ts)
  cell_side_in kind s ts has c h = option_and_then_some (cell_for w.size kind s) (all_known w.size p e ts) c h (λ xs a b.
      let r = named_is w.size kind s xs c b in
      let there = cell_there w kind s xs (subst (λ (k : ℕ). HasCells w kind s k) (sym (many_known ts xs a)) has) r.1 in
      subst (λ (d : Cell). IsIn d (all_cells w)) r.0 there)

  term_side_in : (t : Tree) → IsOfCells w t → IsOfWorld (term_side w.size p e t)
  term_side_in (var x) h = unknown_cell (Some (e x))
  term_side_in (elem k) h = unknown_cell (Some k)
  term_side_in (app s ts) h = cell_side_in Function s ts h.0

  abbrev AreOfWorld : Side × Side → Type 0
  AreOfWorld q = IsOfWorld q.0 × IsOfWorld q.1

  equation_in : (ts : Trees) → IsEquationOfCells w ts → AreOfWorld (equation_sides w.size p e ts)
  equation_in none h = absurd h
  equation_in (more s none) h = absurd h
  equation_in (more s (more t none)) h = (term_side_in s h.0, term_side_in t h.1)
  equation_in (more s (more t (more u us))) h = absurd h

  atom_in : (t : Tree) → IsAtomOfCells w t → AreOfWorld (sides w.size p e t)
  atom_in (var x) h = absurd h
  atom_in (elem k) h = absurd h
  atom_in (app r ts) h = by (r == equality) h
    where
      by : (b : Bool) → MatchBool b (IsEquationOfCells w ts) (HasCells w Relation r (length (list_of ts)) × AreOfCells w ts)
          → AreOfWorld (if b then equation_sides w.size p e ts else (cell_side w.size p e Relation r ts, side None (Some 1)))
      by true g = equation_in ts g
      by false g = (cell_side_in Relation r ts g.0, unknown_cell (Some 1))

  abbrev AsksOfWorld : Told → Type 0
  AsksOfWorld nothing = Unit {0}
  AsksOfWorld contradiction = Unit {0}
  AsksOfWorld (asks c v positive) = IsIn c (all_cells w)

  asked_for_in : (positive : Bool) (o : Option Cell) (r : Option ℕ) (t : Told) → ((c : Cell) → o ≡ Some c → IsIn c (all_cells w)) → AsksOfWorld t → AsksOfWorld (asked_for positive o r t)
  asked_for_in positive None r t f g = g
  asked_for_in positive (Some c) None t f g = g
  asked_for_in positive (Some c) (Some v) t f g = f c refl

  joins_in : (o : Option Bool) (a r : Told) → AsksOfWorld a → AsksOfWorld r → AsksOfWorld (joins o a r)
  joins_in (Some true) a r f g = tt
  joins_in (Some false) a r f g = g
  joins_in None a nothing f g = tt
  joins_in None a contradiction f g = f
  joins_in None a (asks c v positive) f g = tt

  told_in : (ls : ClauseTree) → IsClauseOfCells w ls → AsksOfWorld (told w.size p e ls)
  told_in [] h = tt
  told_in (l ∷ ls) h =
      let q = sides w.size p e l.atom in
      let both = atom_in l.atom h.0 in
      joins_in (truth_known l.positive q) (asked_by l.positive q) (told w.size p e ls)
      (asked_for_in l.positive q.0.cell q.1.value (asked_for l.positive q.1.cell q.0.value nothing) both.0 (asked_for_in l.positive q.1.cell q.0.value nothing both.1 tt)) (told_in ls h.1)

filter_takes : (t : ℕ → Bool) (us : List ℕ) → (length (filter t us) < length us) ⊎ (filter t us ≡ us)
filter_takes t [] = inr refl
filter_takes t (u ∷ us) = by (t u) (filter_takes t us)
  where
    by : (b : Bool) → (length (filter t us) < length us) ⊎ (filter t us ≡ us) → (length (if b then u ∷ filter t us else filter t us) < suc (length us)) ⊎ ((if b then u ∷ filter t us else filter t us) ≡ u ∷ us)
    by true (inl h) = inl (omega (arith, h))
    by true (inr h) = inr (ap (λ (xs : List ℕ). u ∷ xs) h)
    by false (inl h) = inl (omega (arith, h))
    by false (inr h) = inl (let e : length (filter t us) ≡ length us = ap (λ (xs : List ℕ). length xs) h in omega (arith, e))

pub kept_takes : (positive : Bool) (v : ℕ) (us : List ℕ) → (length (kept positive v us) < length us) ⊎ (kept positive v us ≡ us)
kept_takes true v us = filter_takes (λ u. u == v) us
kept_takes false v us = filter_takes (λ u. not (u == v)) us

-- how many values some cells have left
total : List Cell → ValuesLeft → ℕ
total [] p = 0
total (c ∷ cs) p = length (p c) + total cs p

module _ (p : ValuesLeft) (c : Cell) (us : List ℕ) where
  no_more : length us ≤ length (p c) → (d : Cell) → length (with_left p c us d) ≤ length (p d)
  no_more few d = by (is_same_cell c d) refl
    where
      by : (b : Bool) → is_same_cell c d ≡ b → length (if b then us else p d) ≤ length (p d)
      by true e = subst (λ (x : Cell). length us ≤ length (p x)) (same_cell c d e) few
      by false e = omega arith

  total_most : length us ≤ length (p c) → (cs : List Cell) → total cs (with_left p c us) ≤ total cs p
  unfolding total
  total_most few [] = omega arith
  total_most few (d ∷ ds) = let here = no_more few d in let rest = total_most few ds in omega (arith, here, rest)

  same_left : us ≡ p c → with_left p c us ≡ p
  same_left is = λ i d. (by d (is_same_cell c d) refl) i
    where
      by : (d : Cell) (b : Bool) → is_same_cell c d ≡ b → (if b then us else p d) ≡ p d
      by d true e = is ∙ ap p (same_cell c d e)
      by d false e = refl

  total_less : length us < length (p c) → (cs : List Cell) → IsIn c cs → total cs (with_left p c us) < total cs p
  unfolding total
  total_less few [] i = absurd i
  total_less few (d ∷ ds) (inl e) =
      let here : length (with_left p c us c) ≡ length us = ap (λ (b : Bool). length (if b then us else p c)) (cell_itself c) in
      let there : length (with_left p c us d) < length (p d) = subst (λ (x : Cell). length (with_left p c us x) < length (p x)) e (omega (arith, here, few)) in
      let rest = total_most (omega (arith, few)) ds in
      omega (arith, there, rest)
  total_less few (d ∷ ds) (inr i) = let here = no_more (omega (arith, few)) d in let rest = total_less few ds i in omega (arith, here, rest)

module _ (w : World) where
  all : ValuesLeft → ℕ
  all p = total (all_cells w) p

  -- nothing is changed, or fewer values are left
  abbrev Takes : ValuesLeft → Option ValuesLeft → Type 0
  Takes p None = Unit {0}
  Takes p (Some q) = (q ≡ p) ⊎ (all q < all p)

  narrowed_takes : (p : ValuesLeft) (c : Cell) (us : List ℕ) → IsIn c (all_cells w) → (length us < length (p c)) ⊎ (us ≡ p c) → Takes p (narrowed p c us)
  unfolding all
  narrowed_takes p c [] i h = tt
  narrowed_takes p c (u ∷ us) i (inl few) = inr (total_less p c (u ∷ us) few (all_cells w) i)
  narrowed_takes p c (u ∷ us) i (inr same) = inl (same_left p c (u ∷ us) same)

  followed_takes : (p : ValuesLeft) (e : Assignment) (t : Told) → AsksOfWorld w p e t → Takes p (followed p t)
  followed_takes p e nothing h = inl refl
  followed_takes p e contradiction h = tt
  followed_takes p e (asks c v positive) h = narrowed_takes p c (kept positive v (p c)) h (kept_takes positive v (p c))

  more_taken : (p q : ValuesLeft) (o : Option ValuesLeft) → (q ≡ p) ⊎ (all q < all p) → Takes q o → Takes p o
  unfolding all
  more_taken p q None h k = tt
  more_taken p q (Some r) (inl e) (inl f) = inl (f ∙ e)
  more_taken p q (Some r) (inl e) (inr l) = inr (let same : all q ≡ all p = ap all e in omega (arith, l, same))
  more_taken p q (Some r) (inr g) (inl f) = inr (let same : all r ≡ all q = ap all f in omega (arith, g, same))
  more_taken p q (Some r) (inr g) (inr l) = inr (omega (arith, g, l))

  then_takes : (p : ValuesLeft) (f : ValuesLeft → Option ValuesLeft) (o : Option ValuesLeft) → Takes p o → ((q : ValuesLeft) → Takes q (f q)) → Takes p (option_and_then f o)
  then_takes p f None h k = tt
  then_takes p f (Some q) h k = more_taken p q (f q) h (k q)

  -- the ground clauses are instances of such clauses
  abbrev pub AreGroundOfCells : List Ground → Type 0
  AreGroundOfCells [] = Unit {0}
  AreGroundOfCells (g ∷ gs) = IsClauseOfCells w g.clause × AreGroundOfCells gs

  pass_takes : (gs : List Ground) → AreGroundOfCells gs → (p : ValuesLeft) → Takes p (pass w.size gs p)
  pass_takes [] h p = inl refl
  pass_takes (g ∷ gs) h p =
      let e = assigned_by g.elements in
      let t = told w.size p e g.clause in
      then_takes p (pass w.size gs) (followed p t) (followed_takes p e t (told_in w p e g.clause h.0)) (pass_takes gs h.1)

  stays : (k : ℕ) (gs : List Ground) (p : ValuesLeft) → pass w.size gs p ≡ Some p → passes k w.size gs p ≡ Some p
  stays zero gs p is = refl
  stays (suc k) gs p is = ap (λ (o : Option ValuesLeft). option_and_then (passes k w.size gs) o) is ∙ stays k gs p is

  -- so many passes end where a pass changes nothing, or each took a value
  ends : (k : ℕ) (gs : List Ground) → AreGroundOfCells gs → (p q : ValuesLeft) → passes k w.size gs p ≡ Some q → (pass w.size gs q ≡ Some q) ⊎ (all q + k ≤ all p)
  unfolding all
  ends zero gs h p q is = inr (let same : all p ≡ all q = ap all (same_Some _ _ is) in omega (arith, same))
  ends (suc k) gs h p q is = by (pass w.size gs p) refl (pass_takes gs h p) is (ends k gs h)
    where
      by : (o : Option ValuesLeft) → pass w.size gs p ≡ o → Takes p o → option_and_then (passes k w.size gs) o ≡ Some q
          → ((r q : ValuesLeft) → passes k w.size gs r ≡ Some q → (pass w.size gs q ≡ Some q) ⊎ (all q + k ≤ all r)) → (pass w.size gs q ≡ Some q) ⊎ (all q + suc k ≤ all p)
      by None e takes g rest = absurd (none-some _ g)
      by (Some r) e (inl same) g rest =
          let fixed : pass w.size gs p ≡ Some p = e ∙ ap Some same in
          let through : passes k w.size gs p ≡ Some q = ap (passes k w.size gs) (sym same) ∙ g in
          let end : p ≡ q = same_Some _ _ (sym (stays k gs p fixed) ∙ through) in
          inl (subst (λ (x : ValuesLeft). pass w.size gs x ≡ Some x) end fixed)
      by (Some r) e (inr less) g rest = elim (rest r q g) [ inl closed ↦ inl closed | inr few ↦ inr (omega (arith, few, less)) ]

  of_cells_from : (c : ClauseTree) → IsClauseOfCells w c → (a k : ℕ) → (gs : List Ground) → AreGroundOfCells gs → AreGroundOfCells (map (λ j. ground c (digits w.size (variables_in c) j)) (range_with_len a k) ++ gs)
  of_cells_from c h a zero gs rest = rest
  of_cells_from c h a (suc k) gs rest = (h, of_cells_from c h (a + 1) k gs rest)

  pub instances_of_cells : (cs : List ClauseTree) → AllByRecursion (IsClauseOfCells w) cs → AreGroundOfCells (instances_of w.size cs)
  instances_of_cells [] h = tt
  instances_of_cells (c ∷ cs) h = of_cells_from c h.0 0 (w.size ^ variables_in c) (instances_of w.size cs) (instances_of_cells cs h.1)

few_values : (cs : List Cell) (p : ValuesLeft) (b : ℕ) → ((c : Cell) → length (p c) ≤ b) → total cs p ≤ length cs * b
unfolding total
few_values [] p b h = omega arith
few_values (c ∷ cs) p b h = let here = h c in let rest = few_values cs p b h in omega (arith, here, rest, suc-mul (length cs) b)

pub closure_is_closed : ClosureIsClosed
unfolding all
closure_is_closed w p q clauses small is =
    let many : length (all_cells w) ≡ many_cells w = length-map-range_with_len (cell_of w) 0 (many_cells w) in
    let few : total (all_cells w) p ≤ many_cells w * max w.size 2 = subst (λ (k : ℕ). total (all_cells w) p ≤ k * max w.size 2) many (few_values (all_cells w) p (max w.size 2) small) in
    elim (ends w (suc (many_cells w * max w.size 2)) (instances_of w.size w.clauses) (instances_of_cells w w.clauses clauses) p q is) [
      | inl closed ↦ closed
      | inr most ↦ absurd (omega (arith, most, few))
    ]
