-- The instances of clauses, and what they tell.
use Rattle.std.proofs.Common.{◌≡◌, ℕ, zero, suc, ◌+◌, ◌^◌, ◌<◌, ◌≤◌, ◌==◌, Bool, true, false, if◌then◌else◌, MatchBool, List, [], ◌∷◌, ◌++◌, length, map, get_or, slice_index, Option, None, Some, inl, inr, refl, sym, ap, ◌∙◌, subst, arith}
use Rattle.std.specs.List.{AllByRecursion, range_with_len}
use Rattle.std.specs.Option.{option_and_then}
use Rattle.std.proofs.lemmas.Bool.{cases_lt}
use Rattle.fol_core.specs.Literals.{ClauseTree, equality}
use Rattle.fol_core.specs.Tree.{Tree, var, elem, app, Trees, none, more, list_of}
use Rattle.fol_core.specs.Truth.{Assignment}
use Rattle.fol_core.specs.declared.symbols.Kind.{Kind}
use Rattle.fol_core.specs.declared.symbols.Kind.TheVariants.{Function, Relation}
use Rattle.mace_cells.specs.World.{World}
use Rattle.mace_ground.proofs.Numbering.{digits_of, place_below}
use Rattle.mace_ground.specs.Cells.{digits}
use Rattle.mace_ground.specs.Instances.{above_variables, above_all_variables, variables_in, IsInstance}
use Rattle.model_tables.specs.Size.{AllBelow}
use Rattle.model_tables.specs.Tables.{place_from}
use Rattle.plain_search.specs.Closing.{asked_by, joins, told, Ground, ground, instances_of}
use Rattle.plain_search.specs.Fitting as plain
use Rattle.plain_search.specs.Known.{cell_for, value_left, joined, known, all_known, Side, side, cell_side, term_side, equation_sides, sides, truth_known}
use Rattle.plain_search.specs.Lefts.{ValuesLeft}
use Rattle.plain_search.specs.Orders.{IsInstanceIn}
use Rattle.cell_search.specs.Searchable.{count_of, HasCells, IsOfCells, AreOfCells, IsEquationOfCells, IsAtomOfCells, IsClauseOfCells}

-- instances among others
in_front : (g : Ground) (gs hs : List Ground) → IsInstanceIn g gs → IsInstanceIn g (gs ++ hs)
in_front g [] hs i = absurd i
in_front g (h ∷ gs) hs (inl e) = inl e
in_front g (h ∷ gs) hs (inr i) = inr (in_front g gs hs i)

in_back : (g : Ground) (gs hs : List Ground) → IsInstanceIn g hs → IsInstanceIn g (gs ++ hs)
in_back g [] hs i = i
in_back g (h ∷ gs) hs i = inr (in_back g gs hs i)

in_range : (f : ℕ → Ground) (k a n : ℕ) → a ≤ k → k < a + n → IsInstanceIn (f k) (map f (range_with_len a n))
in_range f k a zero low high = absurd (omega (arith, low, high))
in_range f k a (suc n) low high = elim (cases_lt a k) [
  | inl less ↦ inr (in_range f k (a + 1) n (omega (arith, less)) (omega (arith, high)))
  | inr most ↦ inl (ap f (omega (arith, low, most)))
]

-- the instance of a clause with these elements
abbrev pub numbered : ℕ → ClauseTree → ℕ → Ground
numbered n c k = ground c (digits n (variables_in c) k)

of_clause : (n : ℕ) (c : ClauseTree) (xs : List ℕ) → IsInstance n c xs → IsInstanceIn (ground c xs) (map (numbered n c) (range_with_len 0 (n ^ variables_in c)))
of_clause n c xs is =
    let many : length xs ≡ variables_in c = is.0 in
    let low = place_below n xs is.1 in
    let few : place_from n 0 xs < n ^ variables_in c = subst (λ (k : ℕ). place_from n 0 xs < n ^ k) many low in
    let same : digits n (variables_in c) (place_from n 0 xs) ≡ xs = ap (λ (k : ℕ). digits n k (place_from n 0 xs)) (sym many) ∙ digits_of n xs is.1 in
    subst (λ (ys : List ℕ). IsInstanceIn (ground c ys) (map (numbered n c) (range_with_len 0 (n ^ variables_in c)))) same
    (in_range (numbered n c) (place_from n 0 xs) 0 (n ^ variables_in c) (omega arith) (omega (arith, few)))

pub row_instance : (n : ℕ) (rows : List (ℕ × ClauseTree)) (i : ℕ) (row : ℕ × ClauseTree) (xs : List ℕ) → i < length rows → row ≡ get_or rows i row → IsInstance n row.1 xs
    → IsInstanceIn (ground row.1 xs) (instances_of n (map (λ r. r.1) rows))
row_instance n [] i row xs h is inst = absurd (omega (arith, h))
row_instance n (r ∷ rows) zero row xs h is inst =
    in_front (ground row.1 xs) (map (numbered n r.1) (range_with_len 0 (n ^ variables_in r.1))) (instances_of n (map (λ r. r.1) rows))
    (subst (λ (c : ClauseTree). IsInstanceIn (ground row.1 xs) (map (numbered n c) (range_with_len 0 (n ^ variables_in c)))) (ap (λ (q : ℕ × ClauseTree). q.1) is) (of_clause n row.1 xs inst))
row_instance n (r ∷ rows) (suc i) row xs h is inst =
    in_back (ground row.1 xs) (map (numbered n r.1) (range_with_len 0 (n ^ variables_in r.1))) (instances_of n (map (λ r. r.1) rows))
    (row_instance n rows i row xs (omega (arith, h)) is inst)

pub clause_instance : (n : ℕ) (cs : List ClauseTree) (i : ℕ) (c : ClauseTree) (xs : List ℕ) → i < length cs → c ≡ get_or cs i c → IsInstance n c xs → IsInstanceIn (ground c xs) (instances_of n cs)
clause_instance n [] i c xs h is inst = absurd (omega (arith, h))
clause_instance n (d ∷ cs) zero c xs h is inst =
    in_front (ground c xs) (map (numbered n d) (range_with_len 0 (n ^ variables_in d))) (instances_of n cs)
    (subst (λ (b : ClauseTree). IsInstanceIn (ground c xs) (map (numbered n b) (range_with_len 0 (n ^ variables_in b)))) is (of_clause n c xs inst))
clause_instance n (d ∷ cs) (suc i) c xs h is inst =
    in_back (ground c xs) (map (numbered n d) (range_with_len 0 (n ^ variables_in d))) (instances_of n cs) (clause_instance n cs i c xs (omega (arith, h)) is inst)

-- the elements of the first variables, 0 where none is given
abbrev pub first_elements : ℕ → List ℕ → List ℕ
first_elements zero xs = []
first_elements (suc m) [] = 0 ∷ first_elements m []
first_elements (suc m) (x ∷ xs) = x ∷ first_elements m xs

first_many : (m : ℕ) (xs : List ℕ) → length (first_elements m xs) ≡ m
first_many zero xs = refl
first_many (suc m) [] = ap suc (first_many m [])
first_many (suc m) (x ∷ xs) = ap suc (first_many m xs)

first_below : (n m : ℕ) (xs : List ℕ) → 0 < n → AllBelow n xs → AllBelow n (first_elements m xs)
first_below n zero xs some below = tt
first_below n (suc m) [] some below = (some, first_below n m [] some tt)
first_below n (suc m) (x ∷ xs) some below = (below.0, first_below n m xs some below.1)

pub first_same : (m : ℕ) (xs : List ℕ) (i : ℕ) → i < m → slice_index (first_elements m xs) i ≡ slice_index xs i
first_same zero xs i h = absurd (omega (arith, h))
first_same (suc m) [] zero h = refl
first_same (suc m) [] (suc i) h = first_same m [] i (omega (arith, h))
first_same (suc m) (x ∷ xs) zero h = refl
first_same (suc m) (x ∷ xs) (suc i) h = first_same m xs i (omega (arith, h))

pub is_instance : (n : ℕ) (c : ClauseTree) (xs : List ℕ) → 0 < n → AllBelow n xs → IsInstance n c (first_elements (variables_in c) xs)
is_instance n c xs some below = (first_many (variables_in c) xs, first_below n (variables_in c) xs some below)

-- what is told hangs on the elements of a clause's variables alone
module _ (n : ℕ) (p : ValuesLeft) (e d : Assignment) where
  mutual
    known_alike : (t : Tree) → ((x : ℕ) → x < above_variables t → e x ≡ d x) → known n p e t ≡ known n p d t
    known_alike (var x) h = ap Some (h x (omega arith))
    known_alike (elem k) h = refl
    known_alike (app s ts) h = ap (λ (o : Option (List ℕ)). value_left p (option_and_then (cell_for n Function s) o)) (all_alike ts h)

    all_alike : (ts : Trees) → ((x : ℕ) → x < above_all_variables ts → e x ≡ d x) → all_known n p e ts ≡ all_known n p d ts
    all_alike none h = refl
    all_alike (more t ts) h =
        ap (λ (o : Option ℕ). joined o (all_known n p e ts)) (known_alike t (λ x i. h x (omega (arith, i))))
        ∙ ap (joined (known n p d t)) (all_alike ts (λ x i. h x (omega (arith, i))))

  cell_alike : (kind : Kind) (s : ℕ) (ts : Trees) → ((x : ℕ) → x < above_all_variables ts → e x ≡ d x) → cell_side n p e kind s ts ≡ cell_side n p d kind s ts
  cell_alike kind s ts h = ap (λ (o : Option (List ℕ)). side (option_and_then (cell_for n kind s) o) (value_left p (option_and_then (cell_for n kind s) o))) (all_alike ts h)

  term_alike : (t : Tree) → ((x : ℕ) → x < above_variables t → e x ≡ d x) → term_side n p e t ≡ term_side n p d t
  term_alike (var x) h = ap (λ (v : ℕ). side None (Some v)) (h x (omega arith))
  term_alike (elem k) h = refl
  term_alike (app s ts) h = cell_alike Function s ts h

  equation_alike : (ts : Trees) → ((x : ℕ) → x < above_all_variables ts → e x ≡ d x) → equation_sides n p e ts ≡ equation_sides n p d ts
  equation_alike none h = refl
  equation_alike (more s none) h = refl
  equation_alike (more s (more t none)) h =
      ap (λ (a : Side). (a, term_side n p e t)) (term_alike s (λ x i. h x (omega (arith, i))))
      ∙ ap (λ (b : Side). (term_side n p d s, b)) (term_alike t (λ x i. h x (omega (arith, i))))
  equation_alike (more s (more t (more u us))) h = refl

  atom_alike : (t : Tree) → ((x : ℕ) → x < above_variables t → e x ≡ d x) → sides n p e t ≡ sides n p d t
  atom_alike (var x) h = refl
  atom_alike (elem k) h = refl
  atom_alike (app r ts) h = by (r == equality)
    where
      by : (b : Bool) → (if b then equation_sides n p e ts else (cell_side n p e Relation r ts, side None (Some 1))) ≡ (if b then equation_sides n p d ts else (cell_side n p d Relation r ts, side None (Some 1)))
      by true = equation_alike ts h
      by false = ap (λ (a : Side). (a, side None (Some 1))) (cell_alike Relation r ts h)

  pub told_alike : (ls : ClauseTree) → ((x : ℕ) → x < variables_in ls → e x ≡ d x) → told n p e ls ≡ told n p d ls
  told_alike [] h = refl
  told_alike (l ∷ ls) h =
      ap (λ (q : Side × Side). joins (truth_known l.positive q) (asked_by l.positive q) (told n p e ls)) (atom_alike l.atom (λ x i. h x (omega (arith, i))))
      ∙ ap (joins (truth_known l.positive (sides n p d l.atom)) (asked_by l.positive (sides n p d l.atom))) (told_alike ls (λ x i. h x (omega (arith, i))))

-- the terms have cells, in the words of the plain search
count_is : (ts : Trees) → count_of ts ≡ length (list_of ts)
count_is none = refl
count_is (more t ts) = ap suc (count_is ts)

module _ (w : World) where
  mutual
    term_fits : (t : Tree) → IsOfCells w t → plain.IsOfCells w t
    term_fits (var x) h = tt
    term_fits (elem k) h = h
    term_fits (app s ts) h = (subst (HasCells w Function s) (count_is ts) h.0, terms_fit ts h.1)

    terms_fit : (ts : Trees) → AreOfCells w ts → plain.AreOfCells w ts
    terms_fit none h = tt
    terms_fit (more t ts) h = (term_fits t h.0, terms_fit ts h.1)

  equation_fits : (ts : Trees) → IsEquationOfCells w ts → plain.IsEquationOfCells w ts
  equation_fits none h = h
  equation_fits (more s none) h = h
  equation_fits (more s (more t none)) h = (term_fits s h.0, term_fits t h.1)
  equation_fits (more s (more t (more u us))) h = h

  atom_fits : (t : Tree) → IsAtomOfCells w t → plain.IsAtomOfCells w t
  atom_fits (var x) h = h
  atom_fits (elem k) h = h
  atom_fits (app r ts) h = by (r == equality) h
    where
      by : (b : Bool) → MatchBool b (IsEquationOfCells w ts) (HasCells w Relation r (count_of ts) × AreOfCells w ts)
          → MatchBool b (plain.IsEquationOfCells w ts) (plain.HasCells w Relation r (length (list_of ts)) × plain.AreOfCells w ts)
      by true g = equation_fits ts g
      by false g = (subst (HasCells w Relation r) (count_is ts) g.0, terms_fit ts g.1)

  pub clause_fits : (ls : ClauseTree) → IsClauseOfCells w ls → plain.IsClauseOfCells w ls
  clause_fits [] h = tt
  clause_fits (l ∷ ls) h = (atom_fits l.atom h.0, clause_fits ls h.1)

  pub clauses_fit : (cs : List ClauseTree) → AllByRecursion (IsClauseOfCells w) cs → AllByRecursion (plain.IsClauseOfCells w) cs
  clauses_fit [] h = tt
  clauses_fit (c ∷ cs) h = (clause_fits c h.0, clauses_fit cs h.1)
