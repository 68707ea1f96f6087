-- Lines numbered one by one, each at its place.
use Rattle.std.proofs.Common.{◌≡◌, ℕ, zero, suc, ◌+◌, ◌<◌, ◌==◌, Bool, true, false, if◌then◌else◌, refl, sym, ap, ap₂, ◌∙◌, subst, List, [], ◌∷◌, ◌++◌, length, Option, Some, None, Result, IfOk, arith, length-append, eqb-true, eq-eqb}
use Rattle.std.specs.Prelude.{slice_get}
use Rattle.std.specs.Option.{option_map, option_map_or}
use Rattle.std.proofs.lemmas.Result.{IfOk-weaker}
use Rattle.clause_store.specs.Ancestors.{line_parents, parents_in}
use Rattle.clause_store.specs.Lines.{PlainLine, plain_line, plain_tree, plain_trees, formula_line, formula_lines}
use Rattle.clause_store.specs.Marks.{line_under_number, plain_parents, parents_at}
use Rattle.derivation.specs.Lines.{InputRow, LineTree, line_at}
use Rattle.derivation.specs.declared.line.Line.{Line}
use Rattle.fol_problem.specs.Stated.{Said, all_said}
use Rattle.fol_problem.specs.declared.problem.Input.{Input}
use Rattle.held_clauses.specs.declared.made.MadeLine.{MadeLine}
use Rattle.prover_proofs.specs.SearchLines.{clausal_line, clausal_lines, stated_lines, numbered_line, numbered_lines, with_made}

-- lines are numbered one by one from a number on
abbrev pub AreCounted : ℕ → List PlainLine → Type 0
AreCounted n [] = Unit {0}
AreCounted n (l ∷ ls) = (l.number ≡ n) × AreCounted (suc n) ls

counted_append : (n : ℕ) (xs ys : List PlainLine) → AreCounted n xs → AreCounted (n + length xs) ys → AreCounted n (xs ++ ys)
counted_append n [] ys h k = let e : n + 0 ≡ n = omega arith in subst (λ m. AreCounted m ys) e k
counted_append n (x ∷ xs) ys h k = let e : n + suc (length xs) ≡ suc n + length xs = omega arith in (h.0, counted_append (suc n) xs ys h.1 (subst (λ m. AreCounted m ys) e k))

pub counted_at : (n k : ℕ) (ls : List PlainLine) (l : PlainLine) → AreCounted n ls → slice_get ls k ≡ Some l → l.number ≡ n + k
counted_at n k [] l h e = cc
counted_at n zero (x ∷ ls) l h e = let same : x ≡ l = cc in let number = ap (λ (y : PlainLine). y.number) same in omega (arith, number, h.0)
counted_at n (suc k) (x ∷ ls) l h e = let rest = counted_at (suc n) k ls l h.1 e in omega (arith, rest)

-- elements of two lists, one behind the other
get_front : {X : Type 0} (xs ys : List X) (k : ℕ) (x : X) → slice_get xs k ≡ Some x → slice_get (xs ++ ys) k ≡ Some x
get_front [] ys k x e = cc
get_front (y ∷ xs) ys zero x e = e
get_front (y ∷ xs) ys (suc k) x e = get_front xs ys k x e

get_back : {X : Type 0} (xs ys : List X) (k m : ℕ) (x : X) → m ≡ length xs + k → slice_get ys k ≡ Some x → slice_get (xs ++ ys) m ≡ Some x
get_back [] ys k m x d e = let same : m ≡ k = omega (arith, d) in ap (slice_get ys) same ∙ e
get_back (y ∷ xs) ys k zero x d e = absurd (omega (arith, d))
get_back (y ∷ xs) ys k (suc m) x d e = get_back xs ys k m x (omega (arith, d)) e

-- lines for the elements of a list
module _ {X : Type 0} (f : ℕ → X → PlainLine) where
  abbrev pub lines_by : ℕ → List X → List PlainLine
  lines_by n [] = []
  lines_by n (x ∷ xs) = f n x ∷ lines_by (suc n) xs

  by_length : (n : ℕ) (xs : List X) → length (lines_by n xs) ≡ length xs
  by_length n [] = refl
  by_length n (x ∷ xs) = ap suc (by_length (suc n) xs)

  by_counted : ((m : ℕ) (x : X) → (f m x).number ≡ m) → (n : ℕ) (xs : List X) → AreCounted n (lines_by n xs)
  by_counted each n [] = tt
  by_counted each n (x ∷ xs) = (each n x, by_counted each (suc n) xs)

  by_at : (n k m : ℕ) (xs : List X) (x : X) → m ≡ n + k → slice_get xs k ≡ Some x → slice_get (lines_by n xs) k ≡ Some (f m x)
  by_at n k m [] x d e = cc
  by_at n zero m (y ∷ xs) x d e = let same : y ≡ x = cc in let number : n ≡ m = omega (arith, d) in ap₂ (λ (i : ℕ) (z : X). Some (f i z)) number same
  by_at n (suc k) m (y ∷ xs) x d e = by_at (suc n) k m xs x (omega (arith, d)) e

formulas_by : (n : ℕ) (is : List Input) → formula_lines n is ≡ lines_by formula_line n is
formulas_by n [] = refl
formulas_by n (i ∷ is) = ap (λ (ls : List PlainLine). formula_line n i ∷ ls) (formulas_by (suc n) is)

clausals_by : (ss : List Said) (n : ℕ) (rows : List InputRow) → clausal_lines ss n rows ≡ lines_by (clausal_line ss) n rows
clausals_by ss n [] = refl
clausals_by ss n (r ∷ rows) = ap (λ (ls : List PlainLine). clausal_line ss n r ∷ ls) (clausals_by ss (suc n) rows)

numbered_by : (n : ℕ) (ls : List MadeLine) → numbered_lines n ls ≡ lines_by numbered_line n ls
numbered_by n [] = refl
numbered_by n (l ∷ ls) = ap (λ (ks : List PlainLine). numbered_line n l ∷ ks) (numbered_by (suc n) ls)

-- all lines of a search, by its formulas, their clauses, and the lines that were made
module _ (is : List Input) (rows : List InputRow) (made : List MadeLine) where
  abbrev pub all_of : List PlainLine
  all_of = with_made (stated_lines (formula_lines 1 is) (all_said is) rows) made

  abbrev stated_by : List PlainLine
  stated_by = lines_by formula_line 1 is ++ lines_by (clausal_line (all_said is)) (suc (length is)) rows

  abbrev all_by : List PlainLine
  all_by = stated_by ++ lines_by numbered_line (suc (length is + length rows)) made

  stated_is : stated_lines (formula_lines 1 is) (all_said is) rows ≡ stated_by
  stated_is =
      ap (λ (fs : List PlainLine). fs ++ clausal_lines (all_said is) (suc (length fs)) rows) (formulas_by 1 is)
      ∙ ap (λ (n : ℕ). lines_by formula_line 1 is ++ clausal_lines (all_said is) (suc n) rows) (by_length formula_line 1 is)
      ∙ ap (λ (ls : List PlainLine). lines_by formula_line 1 is ++ ls) (clausals_by (all_said is) (suc (length is)) rows)

  stated_count : length stated_by ≡ length is + length rows
  stated_count =
      length-append (lines_by formula_line 1 is) (lines_by (clausal_line (all_said is)) (suc (length is)) rows)
      ∙ ap₂ (λ (a b : ℕ). a + b) (by_length formula_line 1 is) (by_length (clausal_line (all_said is)) (suc (length is)) rows)

  all_is : all_of ≡ all_by
  all_is =
      ap (λ (base : List PlainLine). with_made base made) stated_is
      ∙ ap (λ (n : ℕ). stated_by ++ numbered_lines (suc n) made) stated_count
      ∙ ap (λ (ls : List PlainLine). stated_by ++ ls) (numbered_by (suc (length is + length rows)) made)

  pub all_count : length all_of ≡ length is + length rows + length made
  all_count =
      ap (λ (ls : List PlainLine). length ls) all_is
      ∙ length-append stated_by (lines_by numbered_line (suc (length is + length rows)) made)
      ∙ ap₂ (λ (a b : ℕ). a + b) stated_count (by_length numbered_line (suc (length is + length rows)) made)

  pub all_counted : AreCounted 1 all_of
  all_counted = subst (λ (ls : List PlainLine). AreCounted 1 ls) (sym all_is)
      (counted_append 1 stated_by (lines_by numbered_line (suc (length is + length rows)) made)
      (counted_append 1 (lines_by formula_line 1 is) (lines_by (clausal_line (all_said is)) (suc (length is)) rows) (by_counted formula_line (λ m x. refl) 1 is)
      (subst (λ (n : ℕ). AreCounted n (lines_by (clausal_line (all_said is)) (suc (length is)) rows)) behind_formulas (by_counted (clausal_line (all_said is)) (λ m x. refl) (suc (length is)) rows)))
      (subst (λ (n : ℕ). AreCounted n (lines_by numbered_line (suc (length is + length rows)) made)) behind_clauses (by_counted numbered_line (λ m x. refl) (suc (length is + length rows)) made)))
    where
      behind_formulas : suc (length is) ≡ 1 + length (lines_by formula_line 1 is)
      behind_formulas = let e = by_length formula_line 1 is in omega (arith, e)

      behind_clauses : suc (length is + length rows) ≡ 1 + length stated_by
      behind_clauses = let e = stated_count in omega (arith, e)

  -- the line of a number
  at_place : (n k : ℕ) (l : PlainLine) → n ≡ suc k → slice_get all_by k ≡ Some l → line_under_number all_of n ≡ Some l
  at_place n k l d e = ap (line_under_number all_of) d ∙ ap (λ (ls : List PlainLine). slice_get ls k) all_is ∙ e

  pub formula_at : (n k : ℕ) (i : Input) → n ≡ suc k → slice_get is k ≡ Some i → line_under_number all_of n ≡ Some (formula_line n i)
  formula_at n k i d e = at_place n k (formula_line n i) d
      (get_front stated_by (lines_by numbered_line (suc (length is + length rows)) made) k (formula_line n i)
      (get_front (lines_by formula_line 1 is) (lines_by (clausal_line (all_said is)) (suc (length is)) rows) k (formula_line n i)
      (by_at formula_line 1 k n is i (omega (arith, d)) e)))

  pub clause_at : (n k j : ℕ) (r : InputRow) → n ≡ suc k → k ≡ length is + j → slice_get rows j ≡ Some r → line_under_number all_of n ≡ Some (clausal_line (all_said is) n r)
  clause_at n k j r d f e = at_place n k (clausal_line (all_said is) n r) d
      (get_front stated_by (lines_by numbered_line (suc (length is + length rows)) made) k (clausal_line (all_said is) n r)
      (get_back (lines_by formula_line 1 is) (lines_by (clausal_line (all_said is)) (suc (length is)) rows) j k (clausal_line (all_said is) n r) place
      (by_at (clausal_line (all_said is)) (suc (length is)) j n rows r (omega (arith, d, f)) e)))
    where
      place : k ≡ length (lines_by formula_line 1 is) + j
      place = let many = by_length formula_line 1 is in omega (arith, many, f)

  pub made_at : (n k j : ℕ) (l : MadeLine) → n ≡ suc k → k ≡ length is + length rows + j → slice_get made j ≡ Some l → line_under_number all_of n ≡ Some (numbered_line n l)
  made_at n k j l d f e = at_place n k (numbered_line n l) d
      (get_back stated_by (lines_by numbered_line (suc (length is + length rows)) made) j k (numbered_line n l) place
      (by_at numbered_line (suc (length is + length rows)) j n made l (omega (arith, d, f)) e))
    where
      place : k ≡ length stated_by + j
      place = let many = stated_count in omega (arith, many, f)

-- the line of a number in a derivation
none_below : (n m : ℕ) (ls : List PlainLine) → AreCounted n ls → m < n → line_at (plain_trees ls) m ≡ None
none_below n m [] c h = refl
none_below n m (l ∷ ls) c h = by (none_below (suc n) m ls c.1 (omega arith)) (l.number == m) refl
  where
    by : line_at (plain_trees ls) m ≡ None → (b : Bool) → (l.number == m) ≡ b → (if b then Some (plain_tree l) else line_at (plain_trees ls) m) ≡ None
    by rest true e = absurd (omega (arith, h, c.0, eqb-true l.number m e))
    by rest false e = rest

line_from : (n k m : ℕ) (ls : List PlainLine) → AreCounted n ls → m ≡ n + k → line_at (plain_trees ls) m ≡ option_map plain_tree (slice_get ls k)
line_from n k m [] c e = refl
line_from n zero m (l ∷ ls) c e = by (l.number == m) refl
  where
    by : (b : Bool) → (l.number == m) ≡ b → (if b then Some (plain_tree l) else line_at (plain_trees ls) m) ≡ Some (plain_tree l)
    by true d = refl
    by false d = absurd (clash (sym d ∙ eq-eqb l.number m (omega (arith, e, c.0))))
      where
        clash : false ≡ true → ⊥
        clash x = cc
line_from n (suc k) m (l ∷ ls) c e = by (line_from (suc n) k m ls c.1 (omega (arith, e))) (l.number == m) refl
  where
    by : line_at (plain_trees ls) m ≡ option_map plain_tree (slice_get ls k) → (b : Bool) → (l.number == m) ≡ b
        → (if b then Some (plain_tree l) else line_at (plain_trees ls) m) ≡ option_map plain_tree (slice_get ls k)
    by rest true d = absurd (omega (arith, e, c.0, eqb-true l.number m d))
    by rest false d = rest

pub tree_under : (ls : List PlainLine) (m : ℕ) → AreCounted 1 ls → line_at (plain_trees ls) m ≡ option_map plain_tree (line_under_number ls m)
tree_under ls zero c = none_below 1 0 ls c (omega arith)
tree_under ls (suc k) c = line_from 1 k (suc k) ls c (omega arith)

-- and its parents there
pub same_parents : (ls : List PlainLine) (m : ℕ) → AreCounted 1 ls → parents_at ls m ≡ parents_in (plain_trees ls) m
same_parents ls m c = by (line_under_number ls m) ∙ ap (λ (o : Option LineTree). option_map_or line_parents o []) (sym (tree_under ls m c))
  where
    by : (o : Option PlainLine) → option_map_or plain_parents o [] ≡ option_map_or line_parents (option_map plain_tree o) []
    by None = refl
    by (Some l) = refl

-- a line of the code that says so
pub is_said : {E : Type 0} (ls : List PlainLine) (n : ℕ) (r : Result Line E) (l : PlainLine) → line_under_number ls n ≡ Some l → IfOk r (λ k. plain_line k ≡ l) → IfOk r (λ k. line_under_number ls n ≡ Some (plain_line k))
is_said ls n r l e h = IfOk-weaker r (λ k. plain_line k ≡ l) (λ k. line_under_number ls n ≡ Some (plain_line k)) (λ k f. e ∙ ap Some (sym f)) h
