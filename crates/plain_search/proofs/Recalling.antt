-- What a narrower table was told, a wider one is told too, or it is so already.
use Rattle.std.proofs.Common.{◌≡◌, ℕ, ◌==◌, Bool, true, false, not, if◌then◌else◌, List, [], ◌∷◌, Option, None, Some, inl, inr, refl, sym, ap, ◌∙◌, subst}
use Rattle.std.specs.Prelude.{◌⊎◌}
use Rattle.std.specs.Option.{option_map, option_and_then}
use Rattle.std.proofs.lemmas.Bool.{eqb-true, eq-eqb}
use Rattle.std.proofs.lemmas.Option.{none-some, option_and_then_some}
use Rattle.fol_core.specs.Literals.{ClauseTree, equality}
use Rattle.fol_core.specs.Tree.{Tree, var, elem, app, Trees, none, more}
use Rattle.fol_core.specs.Truth.{Assignment}
use Rattle.fol_core.specs.declared.symbols.Kind.{Kind}
use Rattle.fol_core.specs.declared.symbols.Kind.TheVariants.{Function, Relation}
use Rattle.mace_ground.specs.Cells.{Cell}
use Rattle.plain_search.proofs.Rising.{only_of}
use Rattle.plain_search.proofs.Sounding.{joined_some, only_among}
use Rattle.plain_search.specs.Closing.{Told, nothing, contradiction, asks, asked_for, asked_by, joins, told}
use Rattle.plain_search.specs.Known.{cell_for, value_left, known, all_known, Side, side, unknown, cell_side, term_side, equation_sides, sides, compared, truth_known}
use Rattle.plain_search.specs.Lefts.{ValuesLeft, only_value}
use Rattle.plain_search.specs.Orders.{IsTable, IsNarrower, Obeys}

-- what is known at first is known later
abbrev Stays : {A : Type 0} → Option A → Option A → Type 0
Stays {A = A} a b = (x : A) → a ≡ Some x → b ≡ Some x

-- the same literal's side as a wider table p has it and as q has it
record IsSide (q : ValuesLeft) (a b : Side) : Type 0 where
  cell : Stays a.cell b.cell
  value : Stays a.value b.value
  own : (c : Cell) → b.cell ≡ Some c → b.value ≡ only_value (q c)

truth_stays : (positive : Bool) (q : ValuesLeft) (a b : Side × Side) → IsSide q a.0 b.0 → IsSide q a.1 b.1 → Stays (truth_known positive a) (truth_known positive b)
truth_stays positive q a b left right t h = by a.0.value a.1.value refl refl h
  where
    by : (x y : Option ℕ) → a.0.value ≡ x → a.1.value ≡ y → option_map (λ c. if positive then c else not c) (compared x y) ≡ Some t → truth_known positive b ≡ Some t
    by None y i j k = absurd (none-some _ k)
    by (Some u) None i j k = absurd (none-some _ k)
    by (Some u) (Some v) i j k = rw (left.value u i, right.value v j) k

-- A cell is asked for a value. In the second table it has a value itself, and so the literal, which
-- compares both, is true or false; and what is in a table within that one is as was asked.
module _ (q r : ValuesLeft) (within : IsNarrower r q) where
  compares : (positive : Bool) (c : Cell) (u v : ℕ) → only_value (q c) ≡ Some u → (b : Bool) → (u ≡ v) ⊎ (u ≡ v → ⊥) → (u ≡ v → b ≡ true) → ((u ≡ v → ⊥) → b ≡ false)
      → (if positive then b else not b) ≡ true → Obeys r (asks c v positive)
  compares true c u v is b (inl e) same other holds = λ x i. only_among (q c) x u is (within c x i) ∙ e
  compares true c u v is b (inr n) same other holds = absurd (let e : b ≡ false = other n in cc)
  compares false c u v is b (inl e) same other holds = absurd (let f : not b ≡ not true = ap not (same e) in cc)
  compares false c u v is b (inr n) same other holds = λ i. n (sym (only_among (q c) v u is (within c v i)))

  same_or_not : (u v : ℕ) → (u ≡ v) ⊎ (u ≡ v → ⊥)
  same_or_not u v = by (u == v) refl
    where
      by : (b : Bool) → (u == v) ≡ b → (u ≡ v) ⊎ (u ≡ v → ⊥)
      by true e = inl (eqb-true u v e)
      by false e = inr (λ f. let g : true ≡ false = sym (eq-eqb u v f) ∙ e in absurd cc)

  test_of : (u v : ℕ) → (u ≡ v → ⊥) → (u == v) ≡ false
  test_of u v n = by (u == v) refl
    where
      by : (b : Bool) → (u == v) ≡ b → b ≡ false
      by true e = absurd (n (eqb-true u v e))
      by false e = refl

  -- where the literal is false nothing obeys it
  decides : (t : Bool) (asked : Told) → (t ≡ true → Obeys r asked) → Obeys r (joins (Some t) asked contradiction) → Obeys r asked
  decides true asked f h = f refl
  decides false asked f h = absurd h

  first_asked : (positive : Bool) (c : Cell) (v : ℕ) (y : Option Cell) (o : Option ℕ) → only_value (q c) ≡ o
      → Obeys r (joins (option_map (λ b. if positive then b else not b) (compared o (Some v))) (asked_for positive (Some c) (Some v) (asked_for positive y o nothing)) contradiction) → Obeys r (asks c v positive)
  first_asked positive c v y None is h = h
  first_asked positive c v y (Some u) is h =
      decides (if positive then u == v else not (u == v)) (asks c v positive)
      (λ holds. compares positive c u v is (u == v) (same_or_not u v) (eq-eqb u v) (test_of u v) holds) h

  second_asked : (positive : Bool) (c : Cell) (v : ℕ) (x : Option Cell) (o : Option ℕ) → only_value (q c) ≡ o
      → Obeys r (joins (option_map (λ b. if positive then b else not b) (compared (Some v) o)) (asked_for positive x o (asked_for positive (Some c) (Some v) nothing)) contradiction) → Obeys r (asks c v positive)
  second_asked positive c v None None is h = h
  second_asked positive c v (Some d) None is h = h
  second_asked positive c v x (Some u) is h = by (if positive then v == u else not (v == u)) refl h
    where
      by : (t : Bool) → (if positive then v == u else not (v == u)) ≡ t → Obeys r (joins (Some t) (asked_for positive x (Some u) (asks c v positive)) contradiction) → Obeys r (asks c v positive)
      by true holds g = compares positive c u v is (v == u) (same_or_not u v) (λ e. eq-eqb v u (sym e)) (λ n. test_of v u (λ e. n (sym e))) holds
      by false holds g = absurd g

  -- what the literal asks of the wider table
  asked_back : (positive : Bool) (a b : Side × Side) → IsSide q a.0 b.0 → IsSide q a.1 b.1
      → Obeys r (joins (truth_known positive b) (asked_by positive b) contradiction) → Obeys r (asked_by positive a)
  asked_back positive a b left right h = by a.0.cell a.1.value refl refl
    where
      second : (y : Option Cell) (s : Option ℕ) → a.1.cell ≡ y → a.0.value ≡ s → Obeys r (asked_for positive y s nothing)
      second None s i k = tt
      second (Some c) None i k = tt
      second (Some c) (Some v) i k =
          let there : b.1.cell ≡ Some c = right.cell c i in
          let known_is : b.0.value ≡ Some v = left.value v k in
          let g : Obeys r (joins (option_map (λ t. if positive then t else not t) (compared (Some v) b.1.value)) (asked_for positive b.0.cell b.1.value (asked_for positive (Some c) (Some v) nothing)) contradiction) =
          subst (λ (o : Option ℕ). Obeys r (joins (option_map (λ t. if positive then t else not t) (compared o b.1.value)) (asked_for positive b.0.cell b.1.value (asked_for positive (Some c) o nothing)) contradiction)) known_is
          (subst (λ (o : Option Cell). Obeys r (joins (truth_known positive b) (asked_for positive b.0.cell b.1.value (asked_for positive o b.0.value nothing)) contradiction)) there h) in
          second_asked positive c v b.0.cell b.1.value (sym (right.own c there)) g

      by : (x : Option Cell) (t : Option ℕ) → a.0.cell ≡ x → a.1.value ≡ t → Obeys r (asked_for positive x t (asked_for positive a.1.cell a.0.value nothing))
      by None t i k = second a.1.cell a.0.value refl refl
      by (Some c) None i k = second a.1.cell a.0.value refl refl
      by (Some c) (Some v) i k =
          let there : b.0.cell ≡ Some c = left.cell c i in
          let known_is : b.1.value ≡ Some v = right.value v k in
          let g : Obeys r (joins (option_map (λ t. if positive then t else not t) (compared b.0.value (Some v))) (asked_for positive (Some c) (Some v) (asked_for positive b.1.cell b.0.value nothing)) contradiction) =
          subst (λ (o : Option ℕ). Obeys r (joins (option_map (λ t. if positive then t else not t) (compared b.0.value o)) (asked_for positive (Some c) o (asked_for positive b.1.cell b.0.value nothing)) contradiction)) known_is
          (subst (λ (o : Option Cell). Obeys r (joins (truth_known positive b) (asked_for positive o b.1.value (asked_for positive b.1.cell b.0.value nothing)) contradiction)) there h) in
          first_asked positive c v b.1.cell b.0.value (sym (left.own c there)) g

never_false : (positive : Bool) (o : Option Cell) (v : Option ℕ) (t : Told) → asked_for positive o v t ≡ contradiction → t ≡ contradiction
never_false positive None v t h = h
never_false positive (Some c) None t h = h
never_false positive (Some c) (Some v) t h = absurd (let e : asks c v positive ≡ contradiction = h in cc)

is_no_contradiction : nothing ≡ contradiction → ⊥
is_no_contradiction h = absurd cc

-- p is told t and q is told u: a contradiction stays one, and what u asks suffices for t
pub record IsRecalled (r : ValuesLeft) (t u : Told) : Type 0 where
  pub refuted : t ≡ contradiction → u ≡ contradiction
  pub obeyed : Obeys r u → Obeys r t

joins_recalled : (r : ValuesLeft) (o k : Option Bool) (a b t u : Told) → Stays o k → (a ≡ contradiction → ⊥) → (Obeys r (joins k b contradiction) → Obeys r a) → IsRecalled r t u
    → IsRecalled r (joins o a t) (joins k b u)
joins_recalled r (Some true) k a b t u stays asked back rest = record { refuted = λ e. absurd (is_no_contradiction e); obeyed = λ h. tt }
joins_recalled r (Some false) k a b t u stays asked back rest =
    subst (λ (x : Option Bool). IsRecalled r t (joins x b u)) (sym (stays false refl)) rest
joins_recalled r None k a b nothing u stays asked back rest = record { refuted = λ e. absurd (is_no_contradiction e); obeyed = λ h. tt }
joins_recalled r None k a b (asks c v positive) u stays asked back rest = record { refuted = λ e. absurd (is_no_contradiction e); obeyed = λ h. tt }
joins_recalled r None k a b contradiction u stays asked back rest = record {
  refuted = λ e. absurd (asked e);
  obeyed = λ h. back (subst (λ (x : Told). Obeys r (joins k b x)) (rest.refuted refl) h);
}

-- terms and atoms, known by a table and by one within it
module _ (n : ℕ) (p q : ValuesLeft) (table : IsTable q) (narrower : IsNarrower q p) (e : Assignment) where
  value_stays : (o k : Option Cell) → Stays o k → Stays (value_left p o) (value_left q k)
  value_stays o k stays v h =
      option_and_then_some (λ c. only_value (p c)) o v h
      (λ c i j. ap (value_left q) (stays c i) ∙ only_of 0 v (q c) (p c) (table c).0 (table c).1 (narrower c) j)

  cell_stays : (kind : Kind) (s : ℕ) (o k : Option (List ℕ)) → Stays o k → Stays (option_and_then (cell_for n kind s) o) (option_and_then (cell_for n kind s) k)
  cell_stays kind s o k stays c h = option_and_then_some (cell_for n kind s) o c h (λ xs i j. ap (option_and_then (cell_for n kind s)) (stays xs i) ∙ j)

  mutual
    known_stays : (t : Tree) (v : ℕ) → known n p e t ≡ Some v → known n q e t ≡ Some v
    known_stays (var x) v h = h
    known_stays (elem k) v h = h
    known_stays (app s ts) v h =
        value_stays (option_and_then (cell_for n Function s) (all_known n p e ts)) (option_and_then (cell_for n Function s) (all_known n q e ts))
        (cell_stays Function s (all_known n p e ts) (all_known n q e ts) (λ xs i. all_known_stay ts xs i)) v h

    all_known_stay : (ts : Trees) (xs : List ℕ) → all_known n p e ts ≡ Some xs → all_known n q e ts ≡ Some xs
    all_known_stay none xs h = h
    all_known_stay (more t ts) xs h =
        let j = joined_some (known n p e t) (all_known n p e ts) xs h in
        let here : known n q e t ≡ Some j.0 = known_stays t j.0 j.1.1.0 in
        let there : all_known n q e ts ≡ Some j.1.0 = all_known_stay ts j.1.0 j.1.1.1 in
        rw (here, there) (ap Some (sym j.1.1.2))

  plain_side : (o : Option ℕ) → IsSide q (side None o) (side None o)
  plain_side o = record { cell = λ c h. h; value = λ v h. h; own = λ c h. absurd (none-some _ h) }

  cell_sides : (kind : Kind) (s : ℕ) (ts : Trees) → IsSide q (cell_side n p e kind s ts) (cell_side n q e kind s ts)
  cell_sides kind s ts =
      let o = option_and_then (cell_for n kind s) (all_known n p e ts) in
      let k = option_and_then (cell_for n kind s) (all_known n q e ts) in
      let stays : Stays o k = cell_stays kind s (all_known n p e ts) (all_known n q e ts) (all_known_stay ts) in
      record { cell = stays; value = value_stays o k stays; own = λ c h. ap (value_left q) h }

  term_sides : (t : Tree) → IsSide q (term_side n p e t) (term_side n q e t)
  term_sides (var x) = plain_side (Some (e x))
  term_sides (elem k) = plain_side (Some k)
  term_sides (app s ts) = cell_sides Function s ts

  abbrev AreSides : Side × Side → Side × Side → Type 0
  AreSides a b = IsSide q a.0 b.0 × IsSide q a.1 b.1

  no_sides : AreSides (unknown, unknown) (unknown, unknown)
  no_sides = (plain_side None, plain_side None)

  equation_known : (ts : Trees) → AreSides (equation_sides n p e ts) (equation_sides n q e ts)
  equation_known none = no_sides
  equation_known (more s none) = no_sides
  equation_known (more s (more t none)) = (term_sides s, term_sides t)
  equation_known (more s (more t (more u us))) = no_sides

  atom_known : (t : Tree) → AreSides (sides n p e t) (sides n q e t)
  atom_known (var x) = no_sides
  atom_known (elem k) = no_sides
  atom_known (app s ts) = by (s == equality)
    where
      by : (b : Bool) → AreSides (if b then equation_sides n p e ts else (cell_side n p e Relation s ts, side None (Some 1))) (if b then equation_sides n q e ts else (cell_side n q e Relation s ts, side None (Some 1)))
      by true = equation_known ts
      by false = (cell_sides Relation s ts, plain_side (Some 1))

  pub recalled : (r : ValuesLeft) → IsNarrower r q → (ls : ClauseTree) → IsRecalled r (told n p e ls) (told n q e ls)
  recalled r within [] = record { refuted = λ h. h; obeyed = λ h. h }
  recalled r within (l ∷ ls) =
      let a : Side × Side = sides n p e l.atom in
      let b : Side × Side = sides n q e l.atom in
      let s = atom_known l.atom in
      joins_recalled r (truth_known l.positive a) (truth_known l.positive b) (asked_by l.positive a) (asked_by l.positive b) (told n p e ls) (told n q e ls)
      (truth_stays l.positive q a b s.0 s.1)
      (λ h. is_no_contradiction (never_false l.positive a.1.cell a.0.value nothing (never_false l.positive a.0.cell a.1.value (asked_for l.positive a.1.cell a.0.value nothing) h)))
      (asked_back q r within l.positive a b s.0 s.1) (recalled r within ls)
