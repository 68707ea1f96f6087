-- Two elements exchanged that nothing names.
use Rattle.std.proofs.Common.{◌≡◌, inl, inr, ℕ, ◌<◌, ◌≤◌, ◌==◌, ◌||◌, nat_lt, Bool, not, if◌then◌else◌, List, [], ◌∷◌, map, refl, sym, ap, ap₂, ◌∙◌, arith}
use Rattle.std.specs.List.{AllByRecursion}
use Rattle.std.proofs.lemmas.Bool.{cases_lt, lt-ltb, ltb-true}
use Rattle.std.proofs.lemmas.Bool.Decides.{nat_tests}
use Rattle.fol_core.specs.Literals.{ClauseTree, equality, are_equal, is_true_atom, is_true_clause, IsTrueClause, AreTrueClauses}
use Rattle.fol_core.specs.Meaning.{Meaning, AllWithin}
use Rattle.fol_core.specs.Occurs.{above_elements, above_all_elements}
use Rattle.fol_core.specs.Tree.{Tree, var, elem, app, Trees, none, more}
use Rattle.fol_core.specs.Truth.{Assignment, value_of, values_of}
use Rattle.fol_core.specs.declared.symbols.Kind.{Kind}
use Rattle.fol_core.specs.declared.symbols.Kind.TheVariants.{Function, Relation}
use Rattle.mace_cells.proofs.Steps.{carried_itself}
use Rattle.mace_cells.specs.Choices.{Decision, AgreesWith}
use Rattle.mace_cells.specs.Solutions.{IsSolution, IsCarried}
use Rattle.mace_ground.specs.Cells.{Cell, value_at, value_of_kind}
use Rattle.model_tables.specs.Size.{AllBelow}
use Rattle.mace_cells.specs.Numbers.{above_each, above_used}
use Rattle.cell_choice.specs.Numbers.{NamesBelow, LeastNumbersSuffice}

abbrev pub other_of : ℕ → ℕ → ℕ → ℕ
other_of a b x = if x == a then b else (if x == b then a else x)

-- the interpretation with two elements exchanged
abbrev pub with_exchanged : ℕ → ℕ → Meaning → Meaning
with_exchanged a b m = record {
  within = m.within;
  function = λ f xs. other_of a b (m.function f (map (other_of a b) xs));
  relation = λ s xs. m.relation s (map (other_of a b) xs);
}

module _ (a b : ℕ) (less : a < b) where
  twice : (x : ℕ) → other_of a b (other_of a b x) ≡ x
  twice x = grind (arith, nat_tests)

  stays : (x : ℕ) → x < a → other_of a b x ≡ x
  stays x h = grind (arith, nat_tests)

  there : other_of a b b ≡ a
  there = grind (arith, nat_tests)

  all_twice : (xs : List ℕ) → map (other_of a b) (map (other_of a b) xs) ≡ xs
  all_twice [] = refl
  all_twice (x ∷ xs) = ap₂ (λ (y : ℕ) (ys : List ℕ). y ∷ ys) (twice x) (all_twice xs)

  all_stay : (xs : List ℕ) → above_each xs ≤ a → map (other_of a b) xs ≡ xs
  all_stay [] h = refl
  all_stay (x ∷ xs) h = ap₂ (λ (y : ℕ) (ys : List ℕ). y ∷ ys) (stays x (omega (arith, h))) (all_stay xs (omega (arith, h)))

  same_test : (x y : ℕ) → (x == y) ≡ (other_of a b x == other_of a b y)
  same_test x y = grind (arith, nat_tests)

  same_equal : (xs : List ℕ) → are_equal xs ≡ are_equal (map (other_of a b) xs)
  same_equal [] = refl
  same_equal (x ∷ []) = refl
  same_equal (x ∷ y ∷ []) = same_test x y
  same_equal (x ∷ y ∷ z ∷ xs) = refl

  module _ (m : Meaning) (e : Assignment) where
    mutual
      value_other : (t : Tree) → above_elements t ≤ a → value_of (with_exchanged a b m) e t ≡ other_of a b (value_of m (λ x. other_of a b (e x)) t)
      value_other (var x) h = sym (twice (e x))
      value_other (elem k) h = sym (stays k (omega (arith, h)))
      value_other (app f ts) h = ap (λ (xs : List ℕ). other_of a b (m.function f xs)) (values_other ts h)

      values_other : (ts : Trees) → above_all_elements ts ≤ a → map (other_of a b) (values_of (with_exchanged a b m) e ts) ≡ values_of m (λ x. other_of a b (e x)) ts
      values_other none h = refl
      values_other (more t ts) h = ap₂ (λ (y : ℕ) (ys : List ℕ). y ∷ ys) (ap (other_of a b) (value_other t (omega (arith, h))) ∙ twice (value_of m (λ x. other_of a b (e x)) t)) (values_other ts (omega (arith, h)))

    atom_other : (t : Tree) → above_elements t ≤ a → is_true_atom (with_exchanged a b m) e t ≡ is_true_atom m (λ x. other_of a b (e x)) t
    atom_other (var x) h = refl
    atom_other (elem k) h = refl
    atom_other (app r ts) h =
        let xs = values_of (with_exchanged a b m) e ts in
        let same = values_other ts h in
        ap₂ (λ (p q : Bool). if r == equality then p else q) (same_equal xs ∙ ap are_equal same) (ap (m.relation r) same)

    clause_other : (c : ClauseTree) → NamesBelow a c → is_true_clause (with_exchanged a b m) e c ≡ is_true_clause m (λ x. other_of a b (e x)) c
    clause_other [] h = refl
    clause_other (l ∷ c) h = ap₂ (λ (p q : Bool). (if l.positive then p else not p) || q) (atom_other l.atom h.0) (clause_other c h.1)

  module _ (n : ℕ) (m : Meaning) (below : b < n) (size : (x : ℕ) → m.within x ≡ nat_lt x n) where
    same_within : (x : ℕ) → m.within (other_of a b x) ≡ m.within x
    same_within x = size (other_of a b x) ∙ within_test ∙ sym (size x)
      where
        within_test : nat_lt (other_of a b x) n ≡ nat_lt x n
        within_test = grind (arith, nat_tests)

    true_clause : (c : ClauseTree) → NamesBelow a c → IsTrueClause m c → IsTrueClause (with_exchanged a b m) c
    true_clause c h holds e within = clause_other m e c h ∙ holds (λ x. other_of a b (e x)) (λ x. same_within (e x) ∙ within x)

    true_clauses : (cs : List ClauseTree) → AllByRecursion (NamesBelow a) cs → AreTrueClauses m cs → AreTrueClauses (with_exchanged a b m) cs
    true_clauses [] h holds = tt
    true_clauses (c ∷ cs) h holds = (true_clause c h.0 holds.0, true_clauses cs h.1 holds.1)

    all_within : (xs : List ℕ) → AllWithin m xs → AllWithin m (map (other_of a b) xs)
    all_within [] h = tt
    all_within (x ∷ xs) h = (same_within x ∙ h.0, all_within xs h.1)

    pub solution : (cs : List ClauseTree) → AllByRecursion (NamesBelow a) cs → IsSolution n cs m → IsSolution n cs (with_exchanged a b m)
    solution cs h s = record {
      size = size;
      lawful = record { element = s.lawful.element; closed = λ f xs within. same_within (m.function f (map (other_of a b) xs)) ∙ s.lawful.closed f (map (other_of a b) xs) (all_within xs within) };
      holds = true_clauses cs h s.holds;
    }

    pub carried : (k : ℕ) → k ≤ a → IsCarried k (other_of a b) (other_of a b) m (with_exchanged a b m)
    carried k h = record {
      fixes = λ x g. stays x (omega (arith, g, h));
      there = twice;
      again = twice;
      within = same_within;
      functions = λ f xs. ap (λ (ys : List ℕ). other_of a b (m.function f ys)) (all_twice xs);
      relations = λ s xs. ap (m.relation s) (all_twice xs);
    }

  same_value : (m : Meaning) (kind : Kind) (s : ℕ) (xs : List ℕ) (v : ℕ) → above_each xs ≤ a → v < a → value_of_kind m kind s xs ≡ v → value_of_kind (with_exchanged a b m) kind s xs ≡ v
  same_value m Function s xs v h g is = ap (λ (ys : List ℕ). other_of a b (m.function s ys)) (all_stay xs h) ∙ ap (other_of a b) is ∙ stays v g
  same_value m Relation s xs v h g is = ap (λ (ys : List ℕ). if m.relation s ys then 1 else 0) (all_stay xs h) ∙ is

  pub agrees : (m : Meaning) (fixed : ℕ) (ds : List Decision) → above_used fixed ds ≤ a → AgreesWith m ds → AgreesWith (with_exchanged a b m) ds
  agrees m fixed [] h g = tt
  agrees m fixed (d ∷ ds) h g = (same_value m d.cell.kind d.cell.symbol d.cell.arguments d.value (omega (arith, h)) (omega (arith, h)) g.0, agrees m fixed ds (omega (arith, h)) g.1)

  pub least_value : (m : Meaning) (c : Cell) → c.kind ≡ Function → above_each c.arguments ≤ a → value_at m c ≡ b → value_at (with_exchanged a b m) c ≡ a
  least_value m c function h is =
      let plain : m.function c.symbol c.arguments ≡ b = ap (λ (k : Kind). value_of_kind m k c.symbol c.arguments) (sym function) ∙ is in
      ap (λ (k : Kind). value_of_kind (with_exchanged a b m) k c.symbol c.arguments) function ∙ ap (λ (ys : List ℕ). other_of a b (m.function c.symbol ys)) (all_stay c.arguments h) ∙ ap (other_of a b) plain ∙ there

names_more : (k a : ℕ) (c : ClauseTree) → k ≤ a → NamesBelow k c → NamesBelow a c
names_more k a [] h g = tt
names_more k a (l ∷ c) h g = (omega (arith, h, g.0), names_more k a c h g.1)

all_names_more : (k a : ℕ) (cs : List ClauseTree) → k ≤ a → AllByRecursion (NamesBelow k) cs → AllByRecursion (NamesBelow a) cs
all_names_more k a [] h g = tt
all_names_more k a (c ∷ cs) h g = (names_more k a c h g.0, all_names_more k a cs h g.1)

fixed_below : (fixed : ℕ) (ds : List Decision) → fixed ≤ above_used fixed ds
fixed_below fixed [] = omega arith
fixed_below fixed (d ∷ ds) = omega (arith, fixed_below fixed ds)

arguments_within : (n : ℕ) (m : Meaning) (xs : List ℕ) → ((x : ℕ) → m.within x ≡ nat_lt x n) → AllBelow n xs → AllWithin m xs
arguments_within n m [] size below = tt
arguments_within n m (x ∷ xs) size below = (size x ∙ lt-ltb _ _ below.0, arguments_within n m xs size below.1)

pub least_numbers_suffice : LeastNumbersSuffice
least_numbers_suffice w ds c most names function arguments fits used above = λ m solves agree. elim (cases_lt most (value_at m c)) [
  | inr within ↦ (m, (solves, (agree, within), carried_itself w.fixed m))
  | inl greater ↦
      let b = value_at m c in
      let value : value_at m c ≡ m.function c.symbol c.arguments = ap (λ (k : Kind). value_of_kind m k c.symbol c.arguments) function in
      let inside : b < w.size = ltb-true b w.size (sym (solves.size b) ∙ ap m.within value ∙ solves.lawful.closed c.symbol c.arguments (arguments_within w.size m c.arguments solves.size arguments)) in
      let fixed : w.fixed ≤ most = omega (arith, fixed_below w.fixed ds, used) in (
        with_exchanged most b m,
        (
          solution most b greater w.size m inside solves.size w.clauses (all_names_more w.fixed most w.clauses fixed names) solves,
          (agrees most b greater m w.fixed ds used agree, let is = least_value most b greater m c function above refl in omega (arith, is)),
          (other_of most b, (other_of most b, carried most b greater w.size m inside solves.size w.fixed fixed)),
        ),
      )
]
