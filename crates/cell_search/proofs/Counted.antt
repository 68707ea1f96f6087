-- In how many instances a cell counts.
use Rattle.std.proofs.Common.{◌≡◌, ℕ, zero, suc, ◌+◌, ◌-◌, ◌*◌, ◌/◌, ◌%◌, ◌^◌, ◌<◌, ◌≤◌, ◌==◌, ◌&&◌, ◌||◌, Bool, true, false, not, cond, if◌then◌else◌, MatchBool, List, [], ◌∷◌, ◌++◌, length, map, take, drop, set, get_or, Option, None, Some, refl, sym, ap, ap₂, ◌∙◌, subst, unwrap_or, arith}
use Rattle.std.specs.Prelude.{count_by}
use Rattle.std.specs.List.{AllByRecursion, list_any, range_with_len}
use Rattle.std.specs.Option.{option_and_then, option_map}
use Rattle.std.proofs.lemmas.Bool.{eq-eqb}
use Rattle.std.proofs.Math.Nat.{add-mul, mul_assoc, pow-succ', pow-zero, suc-mul}
use Rattle.std.proofs.lemmas.Nat.{div-add-mod'}
use Rattle.std.proofs.lemmas.List.{append-nil, append_assoc, length-drop, length-map, length-take-le, map-append, take_more}
use Rattle.std.proofs.lemmas.List.FromFn.{length-range_with_len}
use Rattle.std.proofs.lemmas.List.Sums.{sum_by-append, sum_by_push}
use Rattle.std.proofs.lemmas.Option.{none-some}
use Rattle.fol_core.specs.Literals.{ClauseTree, Lit, equality}
use Rattle.fol_core.specs.Tree.{Tree, var, elem, app, Trees, none, more, list_of, trees_of}
use Rattle.fol_core.specs.Truth.{Assignment}
use Rattle.fol_core.specs.declared.symbols.Kind.{Kind}
use Rattle.fol_core.specs.declared.symbols.Kind.TheVariants.{Function, Relation}
use Rattle.mace_cells.specs.Trails.{Partial}
use Rattle.mace_cells.specs.World.{World, cell_of, many_cells}
use Rattle.mace_cells.specs.declared.trail.TrailEntry.{TrailEntry}
use Rattle.mace_ground.proofs.Numbering.{digits_of, place_split}
use Rattle.mace_ground.specs.Cells.{Cell, digits}
use Rattle.mace_ground.specs.Instances.{assigned_by, ground_literals, variables_in}
use Rattle.model_tables.specs.Size.{AllBelow}
use Rattle.model_tables.specs.Tables.{place_from}
use Rattle.plain_search.specs.Closing.{Ground, ground, instances_of}
use Rattle.plain_search.specs.Fitting.{HasCells, AreOfCells, IsEquationOfCells, IsAtomOfCells, IsClauseOfCells}
use Rattle.plain_search.specs.Known.{Side, sides, cell_side, equation_sides, side, truth_known}
use Rattle.plain_search.specs.Known as plain
use Rattle.plain_search.specs.Lefts.{ValuesLeft, is_same_cell}
use Rattle.plain_search.specs.Trying.{counts_in, is_cell, is_known_true, is_side}
use Rattle.cell_search.proofs.Instances.{clauses_fit}
use Rattle.cell_search.proofs.Sounding.{cell_named}
use Rattle.cell_search.proofs.Tabling.{cells_differ}
use Rattle.cell_search.proofs.Telling.{atom_is, side_cell, term_cell}
use Rattle.cell_search.proofs.Trials.{count_cons, count_map, same_number}
use Rattle.cell_search.proofs.Viewing.{view_has_values}
use Rattle.cell_search.proofs.Ways.{range_more}
use Rattle.cell_search.specs.Counted.{counts_seen, equation_numbers, instances_of_clause, is_number, numbers_seen, side_seen, true_seen}
use Rattle.cell_search.specs.Following.{AreWellLeft}
use Rattle.cell_search.specs.Known.{all_seen, cell_number, cell_seen}
use Rattle.cell_search.specs.Searchable.{HasAllCells}
use Rattle.cell_search.specs.Telling.{HasValues, term_number}
use Rattle.cell_search.specs.Viewing.{left_in}

any_same : {X : Type 0} (f g : X → Bool) (P : X → Type 0) (xs : List X) → ((x : X) → P x → f x ≡ g x) → AllByRecursion P xs → list_any f xs ≡ list_any g xs
any_same f g P [] same all = refl
any_same f g P (x ∷ xs) same all = ap₂ (λ (a b : Bool). a || b) (same x all.0) (any_same f g P xs same all.1)

-- a cell by its number
module _ (w : World) (cells : HasAllCells w) (es : List TrailEntry) (p : ValuesLeft) (has : HasValues w es p) (e : Assignment) (k : ℕ) (few : k < many_cells w) where
  abbrev IsFew : Option ℕ → Type 0
  IsFew o = (j : ℕ) → o ≡ Some j → j < many_cells w

  cell_is : (o : Option ℕ) → IsFew o → is_cell (cell_of w k) (option_map (cell_of w) o) ≡ is_number k o
  cell_is None below = refl
  cell_is (Some j) below = same_number w (cells_differ w cells.once cells.some) k j few (below j refl)

  number_few : (kind : Kind) (s : ℕ) (ts : Trees) → IsFew (cell_seen w es e kind s ts)
  number_few kind s ts = by (all_seen w es e ts)
    where
      by : (o : Option (List ℕ)) → (j : ℕ) → option_and_then (cell_number w kind s) o ≡ Some j → j < many_cells w
      by None j h = absurd (none-some j h)
      by (Some xs) j h = (cell_named w kind s xs j h).0

  term_few : (t : Tree) → IsFew (term_number w es e t)
  term_few (var x) j h = absurd (none-some j h)
  term_few (elem x) j h = absurd (none-some j h)
  term_few (app s ts) j h = number_few Function s ts j h

  equation_cells : (ts : Trees) → IsEquationOfCells w ts → (is_cell (cell_of w k) (equation_sides w.size p e ts).0.cell || is_cell (cell_of w k) (equation_sides w.size p e ts).1.cell) ≡ (is_number k (equation_numbers w es e ts).0 || is_number k (equation_numbers w es e ts).1)
  equation_cells none h = absurd h
  equation_cells (more s none) h = absurd h
  equation_cells (more s (more t none)) h =
      ap₂ (λ (a b : Bool). a || b)
      (ap (is_cell (cell_of w k)) (term_cell w es p has e s h.0) ∙ cell_is (term_number w es e s) (term_few s))
      (ap (is_cell (cell_of w k)) (term_cell w es p has e t h.1) ∙ cell_is (term_number w es e t) (term_few t))
  equation_cells (more s (more t (more u us))) h = absurd h

  side_is : (l : Lit) → IsAtomOfCells w l.atom → is_side w.size p e (cell_of w k) l ≡ side_seen w es e k l
  side_is l h = by l.atom h
    where
      by : (t : Tree) → IsAtomOfCells w t → (is_cell (cell_of w k) (sides w.size p e t).0.cell || is_cell (cell_of w k) (sides w.size p e t).1.cell) ≡ (is_number k (numbers_seen w es e t).0 || is_number k (numbers_seen w es e t).1)
      by (var x) h = absurd h
      by (elem x) h = absurd h
      by (app r ts) h = at (r == equality) h
        where
          at : (b : Bool) → MatchBool b (IsEquationOfCells w ts) (HasCells w Relation r (length (list_of ts)) × AreOfCells w ts)
              → (is_cell (cell_of w k) (if b then equation_sides w.size p e ts else (cell_side w.size p e Relation r ts, side None (Some 1))).0.cell || is_cell (cell_of w k) (if b then equation_sides w.size p e ts else (cell_side w.size p e Relation r ts, side None (Some 1))).1.cell)
              ≡ (is_number k (if b then equation_numbers w es e ts else (cell_seen w es e Relation r ts, None)).0 || is_number k (if b then equation_numbers w es e ts else (cell_seen w es e Relation r ts, None)).1)
          at true g = equation_cells ts g
          at false g = ap (λ (b : Bool). b || false) (ap (is_cell (cell_of w k)) (side_cell w es p has e Relation r ts g.0 g.1) ∙ cell_is (cell_seen w es e Relation r ts) (number_few Relation r ts))

  true_is : (l : Lit) → IsAtomOfCells w l.atom → is_known_true w.size p e l ≡ true_seen w es e l
  true_is l h = ap (λ (o : Option Bool). unwrap_or (option_map (λ b. if l.positive then b else not b) o) false) (atom_is w es p has e l.atom h)

  pub counts_is : (c : ClauseTree) → IsClauseOfCells w c → (not (list_any (is_known_true w.size p e) c) && list_any (is_side w.size p e (cell_of w k)) c) ≡ counts_seen w es e c k
  counts_is c h =
      ap₂ (λ (a b : Bool). not a && b)
      (any_same (is_known_true w.size p e) (true_seen w es e) (λ l. IsAtomOfCells w l.atom) c true_is (atoms c h))
      (any_same (is_side w.size p e (cell_of w k)) (side_seen w es e k) (λ l. IsAtomOfCells w l.atom) c side_is (atoms c h))
    where
      atoms : (d : ClauseTree) → IsClauseOfCells w d → AllByRecursion (λ l. IsAtomOfCells w l.atom) d
      atoms [] g = tt
      atoms (l ∷ d) g = (g.0, atoms d g.1)

-- the instances of some clauses
module _ (w : World) (t : Partial) (cells : HasAllCells w) (well : AreWellLeft w t) (k : ℕ) (few : k < many_cells w) where
  abbrev p : ValuesLeft
  p = left_in w t

  abbrev seen_in : Ground → Bool
  seen_in g = counts_seen w t.entries (assigned_by g.elements) g.clause k

  clause_counts : (c : ClauseTree) → IsClauseOfCells w c → (ks : List ℕ) → count_by (counts_in w.size p (cell_of w k)) (map (λ j. ground c (digits w.size (variables_in c) j)) ks) ≡ count_by seen_in (map (λ j. ground c (digits w.size (variables_in c) j)) ks)
  clause_counts c fits [] = refl
  clause_counts c fits (j ∷ ks) =
      let g : Ground = ground c (digits w.size (variables_in c) j) in
      count_cons (counts_in w.size p (cell_of w k)) g (map (λ i. ground c (digits w.size (variables_in c) i)) ks)
      ∙ ap₂ (λ (b : Bool) (n : ℕ). cond b 1 0 + n) (counts_is w cells t.entries p (view_has_values w t cells well) (assigned_by (digits w.size (variables_in c) j)) k few c fits) (clause_counts c fits ks)
      ∙ sym (count_cons seen_in g (map (λ i. ground c (digits w.size (variables_in c) i)) ks))

  instances_counts : (cs : List ClauseTree) → AllByRecursion (IsClauseOfCells w) cs → count_by (counts_in w.size p (cell_of w k)) (instances_of w.size cs) ≡ count_by seen_in (instances_of w.size cs)
  instances_counts [] fits = refl
  instances_counts (c ∷ cs) fits =
      sum_by-append (λ g. cond (counts_in w.size p (cell_of w k) g) 1 0) (instances_of_clause w.size c) (instances_of w.size cs)
      ∙ ap₂ (λ (a b : ℕ). a + b) (clause_counts c fits.0 (range_with_len 0 (w.size ^ variables_in c))) (instances_counts cs fits.1)
      ∙ sym (sum_by-append (λ g. cond (seen_in g) 1 0) (instances_of_clause w.size c) (instances_of w.size cs))

  -- a cell counts as it is seen to count
  pub occurrences_seen : count_by (counts_in w.size p (cell_of w k)) (instances_of w.size w.clauses) ≡ count_by seen_in (instances_of w.size w.clauses)
  occurrences_seen = instances_counts w.clauses (clauses_fit w w.clauses cells.clauses)

-- no more often than there are literals
module _ (n : ℕ) (f : Ground → Bool) (none_in : (g : Ground) → g.clause ≡ [] → f g ≡ false) where
  pub clause_few : (c : ClauseTree) → count_by f (instances_of_clause n c) ≤ length c * n ^ variables_in c
  clause_few [] =
      let one : n ^ 0 ≡ 1 = pow-zero n in
      let off : ◌≡◌ {A = ℕ} (cond (f (ground [] [])) 1 0) 0 = ap {B = ℕ} (λ (b : Bool). cond b 1 0) (none_in (ground [] []) refl) in
      let all : count_by f (instances_of_clause n []) ≡ 0 = ap (λ (k : ℕ). count_by f (map (λ j. ground [] (digits n 0 j)) (range_with_len 0 k))) one ∙ count_cons f (ground [] []) [] ∙ ap (λ (k : ℕ). k + 0) off in
      omega (arith, all)
  clause_few (l ∷ c) =
      let below = most (map (λ j. ground (l ∷ c) (digits n (variables_in (l ∷ c)) j)) (range_with_len 0 (n ^ variables_in (l ∷ c)))) in
      let many = length-map (range_with_len 0 (n ^ variables_in (l ∷ c))) (λ j. ground (l ∷ c) (digits n (variables_in (l ∷ c)) j)) in
      let range = length-range_with_len 0 (n ^ variables_in (l ∷ c)) in
      let one : n ^ variables_in (l ∷ c) ≤ suc (length c) * n ^ variables_in (l ∷ c) = grind arith in
      omega (arith, below, many, range, one)
    where
      most : (gs : List Ground) → count_by f gs ≤ length gs
      most [] = omega arith
      most (g ∷ gs) = let rest = most gs in let one = count_cons f g gs in let bit = at_most (f g) in omega (arith, rest, one, bit)
        where
          at_most : (b : Bool) → cond b 1 0 ≤ 1
          at_most true = omega arith
          at_most false = omega arith

  pub all_few : (cs : List ClauseTree) → count_by f (instances_of n cs) ≤ ground_literals n cs
  all_few [] = omega arith
  all_few (c ∷ cs) =
      let both = sum_by-append (λ g. cond (f g) 1 0) (instances_of_clause n c) (instances_of n cs) in
      let first = clause_few c in
      let rest = all_few cs in
      omega (arith, both, first, rest)

-- an equation of other than two sides has none
module _ (w : World) (es : List TrailEntry) (e : Assignment) where
  no_two : (ts : List Tree) → (length ts ≡ 2 → ⊥) → equation_numbers w es e (trees_of ts) ≡ (None, None)
  no_two [] other = refl
  no_two (s ∷ []) other = refl
  no_two (s ∷ t ∷ []) other = absurd (other refl)
  no_two (s ∷ t ∷ u ∷ us) other = refl

  pub no_numbers : (r : ℕ) (ts : List Tree) → r ≡ equality → (length ts ≡ 2 → ⊥) → (None, None) ≡ numbers_seen w es e (app r (trees_of ts))
  no_numbers r ts is other =
      sym (ap (λ (b : Bool). if b then equation_numbers w es e (trees_of ts) else (cell_seen w es e Relation r (trees_of ts), None)) (eq-eqb r equality is) ∙ no_two ts other)

-- one more literal is none of these, or is one
pub any_more : {X : Type 0} (f : X → Bool) (xs : List X) (x : X) → list_any f (xs ++ x ∷ []) ≡ (list_any f xs || f x)
any_more f [] x = by (f x)
  where
    by : (b : Bool) → (b || false) ≡ b
    by true = refl
    by false = refl
any_more f (y ∷ xs) x = ap (λ (b : Bool). f y || b) (any_more f xs x) ∙ by (f y)
  where
    by : (b : Bool) → (b || (list_any f xs || f x)) ≡ ((b || list_any f xs) || f x)
    by true = refl
    by false = refl

-- an element is put in front of those behind it
drop_set : (xs : List ℕ) (i x : ℕ) → i < length xs → drop i (set xs i x) ≡ x ∷ drop (i + 1) xs
drop_set [] i x h = absurd (omega (arith, h))
drop_set (y ∷ xs) zero x h = refl
drop_set (y ∷ xs) (suc i) x h = drop_set xs i x (omega (arith, h)) ∙ ap (λ (j : ℕ). x ∷ drop j (y ∷ xs)) (let same : suc (i + 1) ≡ suc i + 1 = omega arith in same)

pub place_more : (n rest v k number : ℕ) (env : List ℕ) → k < v → v ≤ length env → rest * n ^ k + place_from n 0 (take k (drop (v - k) env)) ≡ number
    → rest / n * n ^ (k + 1) + place_from n 0 (take (k + 1) (drop (v - (k + 1)) (set env (v - 1 - k) (rest % n)))) ≡ number
place_more n rest v k number env few fits before =
    let same : v - 1 - k ≡ v - (k + 1) = omega (arith, few) in
    let next : v - (k + 1) + 1 ≡ v - k = omega (arith, few) in
    let put : drop (v - (k + 1)) (set env (v - 1 - k) (rest % n)) ≡ rest % n ∷ drop (v - k) env =
    ap (λ (i : ℕ). drop (v - (k + 1)) (set env i (rest % n))) same ∙ drop_set env (v - (k + 1)) (rest % n) (omega (arith, few, fits)) ∙ ap (λ (i : ℕ). rest % n ∷ drop i env) next in
    let front : take (k + 1) (rest % n ∷ drop (v - k) env) ≡ rest % n ∷ take k (drop (v - k) env) = ap (λ (i : ℕ). take i (rest % n ∷ drop (v - k) env)) (more_is k) in
    let long : length (take k (drop (v - k) env)) ≡ k = length-take-le k (drop (v - k) env) (let l = length-drop (v - k) env in omega (arith, l, few, fits)) in
    let split = place_split n (0 * n + rest % n) (take k (drop (v - k) env)) in
    let power : n ^ (k + 1) ≡ n * n ^ k = ap (λ (i : ℕ). n ^ i) (more_is k) ∙ pow-succ' n k in
    let whole = div-add-mod' rest n in
    let all : rest / n * (n * n ^ k) + ((0 * n + rest % n) * n ^ k + place_from n 0 (take k (drop (v - k) env))) ≡ number = sums (rest / n) (rest % n) (n ^ k) (place_from n 0 (take k (drop (v - k) env))) whole before in
    ap (λ (xs : List ℕ). rest / n * n ^ (k + 1) + place_from n 0 xs) (ap (take (k + 1)) put ∙ front)
    ∙ ap₂ (λ (a b : ℕ). rest / n * a + b) power (split ∙ ap (λ (i : ℕ). (0 * n + rest % n) * n ^ i + place_from n 0 (take k (drop (v - k) env))) long) ∙ all
  where
    more_is : (i : ℕ) → i + 1 ≡ suc i
    more_is i = omega arith

    sums : (q r p z : ℕ) → q * n + r ≡ rest → rest * p + z ≡ number → q * (n * p) + ((0 * n + r) * p + z) ≡ number
    sums q r p z whole before =
        let first : q * (n * p) ≡ q * n * p = sym (mul_assoc q n p) in
        let zero_more : (0 * n + r) * p ≡ r * p = let same : 0 * n + r ≡ r = omega arith in ap (λ (y : ℕ). y * p) same in
        let both : (q * n + r) * p ≡ q * n * p + r * p = add-mul (q * n) r p in
        let all : (q * n + r) * p ≡ rest * p = ap (λ (y : ℕ). y * p) whole in
        omega (arith, first, zero_more, both, all, before)

pub place_whole : (n rest v number : ℕ) (env : List ℕ) → number < n ^ v → rest * n ^ v + place_from n 0 (take v (drop (v - v) env)) ≡ number → place_from n 0 (take v env) ≡ number
place_whole n rest v number env small before =
    let all : v - v ≡ 0 = omega arith in
    let same : place_from n 0 (take v (drop (v - v) env)) ≡ place_from n 0 (take v env) = ap (λ (i : ℕ). place_from n 0 (take v (drop i env))) all in
    none rest before same
  where
    none : (r : ℕ) → r * n ^ v + place_from n 0 (take v (drop (v - v) env)) ≡ number → place_from n 0 (take v (drop (v - v) env)) ≡ place_from n 0 (take v env) → place_from n 0 (take v env) ≡ number
    none zero h same = let zero_more : 0 * n ^ v ≡ 0 = grind arith in omega (arith, h, same, zero_more)
    none (suc r) h same = let more = suc-mul r (n ^ v) in absurd (omega (arith, h, more, small))

-- one of some things passes
pub any_at : {X Y : Type 0} (g : X → Y) (f : Y → Bool) (xs : List X) (i : ℕ) (x : X) → i < length xs → x ≡ get_or xs i x → f (g x) ≡ true → true ≡ list_any f (map g xs)
any_at g f [] i x h is on = absurd (omega (arith, h))
any_at g f (y ∷ xs) zero x h is on = sym (ap (λ (b : Bool). b || list_any f (map g xs)) (ap (λ z. f (g z)) (sym is) ∙ on))
any_at g f (y ∷ xs) (suc i) x h is on = by (f (g y)) (any_at g f xs i x (omega (arith, h)) is on)
  where
    by : (b : Bool) → true ≡ list_any f (map g xs) → true ≡ (b || list_any f (map g xs))
    by true rest = refl
    by false rest = rest

-- what is added for the two sides of a literal
pub both_added : (first second before : Bool) (old middle new : ℕ) → middle ≡ old + cond (first && (not false && not before)) 1 0 → new ≡ middle + cond (second && (not first && not before)) 1 0
    → new + cond before 1 0 ≡ old + cond (before || (first || second)) 1 0
both_added true true true old middle new a b = omega (arith, a, b)
both_added true true false old middle new a b = omega (arith, a, b)
both_added true false true old middle new a b = omega (arith, a, b)
both_added true false false old middle new a b = omega (arith, a, b)
both_added false true true old middle new a b = omega (arith, a, b)
both_added false true false old middle new a b = omega (arith, a, b)
both_added false false true old middle new a b = omega (arith, a, b)
both_added false false false old middle new a b = omega (arith, a, b)

pub bit : (b : Bool) → cond b 1 0 ≤ 1
bit true = omega arith
bit false = omega arith

-- the literals up to a place
pub literals_more : {X : Type 0} (g : X → Lit) (xs : List X) (i : ℕ) (x : X) → i < length xs → x ≡ get_or xs i x → (f : Lit → Bool) → list_any f (map g (take (i + 1) xs)) ≡ (list_any f (map g (take i xs)) || f (g x))
literals_more g xs i x h is f =
    ap (λ ys. list_any f (map g ys)) (take_more xs i x h ∙ ap (λ y. take i xs ++ y ∷ []) (sym is)) ∙ ap (list_any f) (map-append g (take i xs) (x ∷ [])) ∙ any_more f (map g (take i xs)) (g x)

-- one more instance, one more clause
pub count_more : (f : Ground → Bool) (g : ℕ → Ground) (m : ℕ) → count_by f (map g (range_with_len 0 (m + 1))) ≡ count_by f (map g (range_with_len 0 m)) + cond (f (g m)) 1 0
count_more f g m =
    ap (λ (ks : List ℕ). count_by f (map g ks)) (range_more m) ∙ ap (count_by f) (map-append g (range_with_len 0 m) (m ∷ [])) ∙ sum_by_push (λ x. cond (f x) 1 0) (map g (range_with_len 0 m)) (g m)

pub count_few : (f : Ground → Bool) (g : ℕ → Ground) (m : ℕ) → count_by f (map g (range_with_len 0 m)) ≤ m
count_few f g zero = omega arith
count_few f g (suc m) =
    let more = count_more f g m in
    let rest = count_few f g m in
    let one = bit (f (g m)) in
    let same : m + 1 ≡ suc m = omega arith in
    let all : count_by f (map g (range_with_len 0 (suc m))) ≡ count_by f (map g (range_with_len 0 m)) + cond (f (g m)) 1 0 = ap (λ (k : ℕ). count_by f (map g (range_with_len 0 k))) (sym same) ∙ more in
    omega (arith, all, rest, one)

instances_append : (n : ℕ) (cs ds : List ClauseTree) → instances_of n (cs ++ ds) ≡ instances_of n cs ++ instances_of n ds
instances_append n [] ds = refl
instances_append n (c ∷ cs) ds = ap (λ (gs : List Ground). instances_of_clause n c ++ gs) (instances_append n cs ds) ∙ sym (append_assoc (instances_of_clause n c) (instances_of n cs) (instances_of n ds))

pub rows_more : (n : ℕ) (f : Ground → Bool) (rows : List (ℕ × ClauseTree)) (i : ℕ) (row : ℕ × ClauseTree) → i < length rows → row ≡ get_or rows i row
    → count_by f (instances_of n (map (λ r. r.1) (take (i + 1) rows))) ≡ count_by f (instances_of n (map (λ r. r.1) (take i rows))) + count_by f (instances_of_clause n row.1)
rows_more n f rows i row h is =
    ap (λ (rs : List (ℕ × ClauseTree)). count_by f (instances_of n (map (λ r. r.1) rs))) (take_more rows i row h ∙ ap (λ (r : ℕ × ClauseTree). take i rows ++ r ∷ []) (sym is))
    ∙ ap (λ (cs : List ClauseTree). count_by f (instances_of n cs)) (map-append (λ (r : ℕ × ClauseTree). r.1) (take i rows) (row ∷ []))
    ∙ ap (count_by f) (instances_append n (map (λ r. r.1) (take i rows)) (row.1 ∷ []) ∙ ap (λ (gs : List Ground). instances_of n (map (λ r. r.1) (take i rows)) ++ gs) (append-nil (instances_of_clause n row.1)))
    ∙ sum_by-append (λ g. cond (f g) 1 0) (instances_of n (map (λ r. r.1) (take i rows))) (instances_of_clause n row.1)

pub row_few : (n : ℕ) (rows : List (ℕ × ClauseTree)) (i : ℕ) (row : ℕ × ClauseTree) → i < length rows → row ≡ get_or rows i row
    → ground_literals n (map (λ r. r.1) (take i rows)) + length row.1 * n ^ variables_in row.1 ≤ ground_literals n (map (λ r. r.1) rows)
row_few n [] i row h is = absurd (omega (arith, h))
row_few n (r ∷ rows) zero row h is = let same : length row.1 * n ^ variables_in row.1 ≡ length r.1 * n ^ variables_in r.1 = ap (λ (q : ℕ × ClauseTree). length q.1 * n ^ variables_in q.1) is in omega (arith, same)
row_few n (r ∷ rows) (suc i) row h is = let rest = row_few n rows i row (omega (arith, h)) is in omega (arith, rest)

pub row_fits : (m : ℕ) (rows : List (ℕ × ClauseTree)) (i : ℕ) (row : ℕ × ClauseTree) → AllByRecursion (λ c. variables_in c ≤ m) (map (λ r. r.1) rows) → i < length rows → row ≡ get_or rows i row → variables_in row.1 ≤ m
row_fits m [] i row all h is = absurd (omega (arith, h))
row_fits m (r ∷ rows) zero row all h is = let same = ap (λ (q : ℕ × ClauseTree). variables_in q.1) is in let few = all.0 in omega (arith, same, few)
row_fits m (r ∷ rows) (suc i) row all h is = row_fits m rows i row all.1 (omega (arith, h)) is

pub power_few : (n m : ℕ) (c : ClauseTree) → 0 < m → length c * n ^ variables_in c ≤ m → n ^ variables_in c ≤ m
power_few n m [] some h = let one : n ^ 0 ≡ 1 = pow-zero n in omega (arith, one, some)
power_few n m (l ∷ c) some h = let more = suc-mul (length c) (n ^ variables_in (l ∷ c)) in omega (arith, h, more)

below_take : (n v : ℕ) (xs : List ℕ) → AllBelow n xs → AllBelow n (take v xs)
below_take n zero xs h = tt
below_take n (suc v) [] h = tt
below_take n (suc v) (x ∷ xs) h = (h.0, below_take n v xs h.1)

-- the elements that a number stands for
pub elements_are : (n v number : ℕ) (env : List ℕ) (c : ClauseTree) → v ≡ variables_in c → v ≤ length env → AllBelow n env → place_from n 0 (take v env) ≡ number → digits n (variables_in c) number ≡ take v env
elements_are n v number env c same fits below place =
    let long : length (take v env) ≡ variables_in c = length-take-le v env fits ∙ same in
    ap₂ (digits n) (sym long) (sym place) ∙ digits_of n (take v env) (below_take n v env below)
