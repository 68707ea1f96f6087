-- What ground clauses tell is so in each solution that extends the partial table.
use Rattle.std.proofs.Common.{◌≡◌, ℕ, zero, suc, ◌==◌, ◌&&◌, ◌||◌, nat_lt, Bool, true, false, not, IsTrue, if◌then◌else◌, MatchBool, List, [], ◌∷◌, Option, None, Some, inl, inr, refl, sym, ap, ◌∙◌, subst}
use Rattle.std.specs.List.{list_all, filter}
use Rattle.std.specs.Option.{option_map, option_and_then}
use Rattle.std.proofs.lemmas.Bool.{eqb-true, eqb-false, eq-eqb, ne_eqb, ltb-true, not-true}
use Rattle.std.proofs.lemmas.Option.{none-some, same_Some, option_and_then_some}
use Rattle.fol_core.specs.Literals.{ClauseTree, are_equal, equality, is_true_atom, is_true_literal, is_true_clause}
use Rattle.fol_core.specs.Meaning.{Meaning}
use Rattle.fol_core.specs.SymbolTable.{is_same_kind}
use Rattle.fol_core.specs.Tree.{Tree, var, elem, app, Trees, none, more}
use Rattle.fol_core.specs.Truth.{Assignment, value_of, values_of}
use Rattle.fol_core.specs.declared.symbols.Kind.{Kind}
use Rattle.fol_core.specs.declared.symbols.Kind.TheVariants.{Function, Relation}
use Rattle.mace_ground.specs.Cells.{Cell, cell, value_at, value_of_kind}
use Rattle.mace_ground.specs.Instances.{assigned_by}
use Rattle.model_tables.specs.Size.{AllBelow}
use Rattle.plain_search.specs.Closing.{Told, nothing, contradiction, asks, asked_for, asked_by, joins, told, kept, narrowed, followed, Ground, pass, passes}
use Rattle.plain_search.specs.Known.{cell_for, value_left, joined, known, all_known, Side, side, unknown, cell_side, term_side, equation_sides, sides, compared, truth_known}
use Rattle.plain_search.specs.Lefts.{ValuesLeft, only_value, IsAmong, Extends, are_same, is_same_cell}

both_true : (a b : Bool) → (a && b) ≡ true → (a ≡ true) × (b ≡ true)
both_true true b h = (refl, h)
both_true false b h = absurd cc

pub all_below : (n : ℕ) (xs : List ℕ) → list_all (λ x. nat_lt x n) xs ≡ true → AllBelow n xs
all_below n [] h = tt
all_below n (x ∷ xs) h = let b = both_true (nat_lt x n) _ h in (ltb-true x n b.0, all_below n xs b.1)

pub only_among : (vs : List ℕ) (x v : ℕ) → only_value vs ≡ Some v → IsAmong x vs → x ≡ v
only_among [] x v e h = absurd h
only_among (u ∷ []) x v e (inl h) = h ∙ same_Some _ _ e
only_among (u ∷ []) x v e (inr h) = absurd h
only_among (u ∷ w ∷ us) x v e h = absurd (none-some _ e)

pub joined_some : (o : Option ℕ) (p : Option (List ℕ)) (xs : List ℕ) → joined o p ≡ Some xs → (x : ℕ) × ((ys : List ℕ) × ((o ≡ Some x) × (p ≡ Some ys) × (xs ≡ x ∷ ys)))
joined_some None p xs h = absurd (none-some _ h)
joined_some (Some x) None xs h = absurd (none-some _ h)
joined_some (Some x) (Some ys) xs h = (x, (ys, (refl, refl, sym (same_Some _ _ h))))

-- an equation of two numbers that holds, or doesn't, asks this of a third
asks_first : (positive b : Bool) (x y z v : ℕ) → b ≡ (x == y) → z ≡ x → y ≡ v → IsTrue (if positive then b else not b) → MatchBool positive (z ≡ v) (z ≡ v → ⊥)
asks_first true b x y z v e a c holds = a ∙ eqb-true x y (sym e ∙ holds) ∙ c
asks_first false b x y z v e a c holds = λ is. eqb-false x y (sym e ∙ not-true _ holds) (sym a ∙ is ∙ sym c)

asks_second : (positive b : Bool) (x y z v : ℕ) → b ≡ (x == y) → z ≡ y → x ≡ v → IsTrue (if positive then b else not b) → MatchBool positive (z ≡ v) (z ≡ v → ⊥)
asks_second true b x y z v e a c holds = a ∙ sym (eqb-true x y (sym e ∙ holds)) ∙ c
asks_second false b x y z v e a c holds = λ is. eqb-false x y (sym e ∙ not-true _ holds) (c ∙ sym is ∙ a)

holds_as_one : (b : Bool) → b ≡ ((if b then 1 else 0) == 1)
holds_as_one true = refl
holds_as_one false = refl

pub among_filter : (test : ℕ → Bool) (x : ℕ) (us : List ℕ) → test x ≡ true → IsAmong x us → IsAmong x (filter test us)
among_filter test x [] t h = h
among_filter test x (u ∷ us) t (inl e) = subst (λ (b : Bool). IsAmong x (if b then u ∷ filter test us else filter test us)) (sym (ap test (sym e) ∙ t)) (inl e)
among_filter test x (u ∷ us) t (inr h) = by (test u) (among_filter test x us t h)
  where
    by : (b : Bool) → IsAmong x (filter test us) → IsAmong x (if b then u ∷ filter test us else filter test us)
    by true rest = inr rest
    by false rest = rest

pub among_kept : (positive : Bool) (x v : ℕ) (us : List ℕ) → MatchBool positive (x ≡ v) (x ≡ v → ⊥) → IsAmong x us → IsAmong x (kept positive v us)
among_kept true x v us is h = among_filter (λ u. u == v) x us (eq-eqb x v is) h
among_kept false x v us other h = among_filter (λ u. not (u == v)) x us (ap not (ne_eqb x v other)) h

kinds_same : (a b : Kind) → is_same_kind a b ≡ true → a ≡ b
kinds_same Function Function h = refl
kinds_same Function Relation h = absurd cc
kinds_same Relation Function h = absurd cc
kinds_same Relation Relation h = refl

lists_same : (xs ys : List ℕ) → are_same xs ys ≡ true → xs ≡ ys
lists_same [] [] h = refl
lists_same [] (y ∷ ys) h = absurd cc
lists_same (x ∷ xs) [] h = absurd cc
lists_same (x ∷ xs) (y ∷ ys) h =
    let b = both_true (x == y) _ h in
    ap (λ (z : ℕ). z ∷ xs) (eqb-true x y b.0) ∙ ap (λ (zs : List ℕ). y ∷ zs) (lists_same xs ys b.1)

pub same_cell : (c d : Cell) → is_same_cell c d ≡ true → c ≡ d
same_cell c d h =
    let a = both_true (is_same_kind c.kind d.kind) _ h in
    let b = both_true (c.symbol == d.symbol) _ a.1 in
    ap (λ (k : Kind). cell k c.symbol c.arguments) (kinds_same c.kind d.kind a.0) ∙ ap (λ (s : ℕ). cell d.kind s c.arguments) (eqb-true c.symbol d.symbol b.0)
    ∙ ap (λ (xs : List ℕ). cell d.kind d.symbol xs) (lists_same c.arguments d.arguments b.1)

module _ (n : ℕ) (m : Meaning) where
  named_so : (kind : Kind) (s : ℕ) (xs : List ℕ) (c : Cell) → cell_for n kind s xs ≡ Some c → AllBelow n c.arguments × (value_at m c ≡ value_of_kind m kind s xs)
  named_so kind s xs c h = by (list_all (λ x. nat_lt x n) xs) refl h
    where
      by : (b : Bool) → list_all (λ x. nat_lt x n) xs ≡ b → (if b then Some (cell kind s xs) else None) ≡ Some c → AllBelow n c.arguments × (value_at m c ≡ value_of_kind m kind s xs)
      by false e g = absurd (none-some _ g)
      by true e g = let same : cell kind s xs ≡ c = same_Some _ _ g in subst (λ (d : Cell). AllBelow n d.arguments × (value_at m d ≡ value_of_kind m kind s xs)) same (all_below n xs e, refl)

  -- what is told of the solution
  abbrev pub Bears : Told → Type 0
  Bears nothing = Unit {0}
  Bears contradiction = ⊥
  Bears (asks c v positive) = AllBelow n c.arguments × MatchBool positive (value_at m c ≡ v) (value_at m c ≡ v → ⊥)

  -- a side that has this value
  abbrev pub IsSide : ℕ → Side → Type 0
  IsSide x a = ((v : ℕ) → a.value ≡ Some v → x ≡ v) × ((c : Cell) → a.cell ≡ Some c → AllBelow n c.arguments × (value_at m c ≡ x))

  abbrev pub IsBetween : Bool → Side × Side → Type 0
  IsBetween b q = (x : ℕ) × ((y : ℕ) × ((b ≡ (x == y)) × IsSide x q.0 × IsSide y q.1))

  unknown_so : (x : ℕ) → IsSide x unknown
  unknown_so x = ((λ v h. absurd (none-some _ h)), (λ c h. absurd (none-some _ h)))

  number_so : (x : ℕ) → IsSide x (side None (Some x))
  number_so x = ((λ v h. same_Some _ _ h), (λ c h. absurd (none-some _ h)))

  pub truth_so : (positive b : Bool) (q : Side × Side) → IsBetween b q → (t : Bool) → truth_known positive q ≡ Some t → (if positive then b else not b) ≡ t
  truth_so positive b q between t h = by q.0.value q.1.value refl refl h
    where
      by : (o r : Option ℕ) → q.0.value ≡ o → q.1.value ≡ r → option_map (λ c. if positive then c else not c) (compared o r) ≡ Some t → (if positive then b else not b) ≡ t
      by None r i j g = absurd (none-some _ g)
      by (Some u) None i j g = absurd (none-some _ g)
      by (Some u) (Some v) i j g =
          let x_is : between.0 ≡ u = between.1.1.1.0 u i in
          let y_is : between.1.0 ≡ v = between.1.1.2.0 v j in
          let is : b ≡ (u == v) = between.1.1.0 ∙ ap (λ (z : ℕ). z == between.1.0) x_is ∙ ap (λ (z : ℕ). u == z) y_is in
          ap (λ (c : Bool). if positive then c else not c) is ∙ same_Some _ _ g

  asked_for_so : (positive : Bool) (o : Option Cell) (r : Option ℕ) (t : Told) → ((c : Cell) (v : ℕ) → o ≡ Some c → r ≡ Some v → Bears (asks c v positive)) → Bears t → Bears (asked_for positive o r t)
  asked_for_so positive None r t f g = g
  asked_for_so positive (Some c) None t f g = g
  asked_for_so positive (Some c) (Some v) t f g = f c v refl refl

  asked_so : (positive b : Bool) (q : Side × Side) → IsBetween b q → IsTrue (if positive then b else not b) → Bears (asked_by positive q)
  asked_so positive b q between holds =
      let x = between.0 in
      let y = between.1.0 in
      let is = between.1.1.0 in
      asked_for_so positive q.0.cell q.1.value (asked_for positive q.1.cell q.0.value nothing)
      (λ c v i j. let a = between.1.1.1.1 c i in (a.0, asks_first positive b x y (value_at m c) v is a.1 (between.1.1.2.0 v j) holds))
      (asked_for_so positive q.1.cell q.0.value nothing
      (λ c v i j. let a = between.1.1.2.1 c i in (a.0, asks_second positive b x y (value_at m c) v is a.1 (between.1.1.1.0 v j) holds)) tt)

  joins_so : (o : Option Bool) (a r : Told) (l c : Bool) → ((b : Bool) → o ≡ Some b → l ≡ b) → (IsTrue l → Bears a) → (IsTrue c → Bears r) → IsTrue (l || c) → Bears (joins o a r)
  joins_so (Some true) a r l c seen f g h = tt
  joins_so (Some false) a r true c seen f g h = absurd (let e : true ≡ false = seen false refl in cc)
  joins_so (Some false) a r false c seen f g h = g h
  joins_so None a nothing l c seen f g h = tt
  joins_so None a contradiction true c seen f g h = f refl
  joins_so None a contradiction false c seen f g h = absurd (g h)
  joins_so None a (asks d v positive) l c seen f g h = tt

  module _ (p : ValuesLeft) (extended : Extends n m p) (e : Assignment) where
    value_so : (o : Option Cell) (x v : ℕ) → ((c : Cell) → o ≡ Some c → AllBelow n c.arguments × (value_at m c ≡ x)) → value_left p o ≡ Some v → x ≡ v
    value_so None x v named h = absurd (none-some _ h)
    value_so (Some c) x v named h = let a = named c refl in sym a.1 ∙ only_among (p c) (value_at m c) v h (extended c a.0)

    cell_so : (kind : Kind) (s : ℕ) (ts : Trees) → ((xs : List ℕ) → all_known n p e ts ≡ Some xs → values_of m e ts ≡ xs) → (c : Cell) → option_and_then (cell_for n kind s) (all_known n p e ts) ≡ Some c
        → AllBelow n c.arguments × (value_at m c ≡ value_of_kind m kind s (values_of m e ts))
    cell_so kind s ts rest c h = option_and_then_some (cell_for n kind s) (all_known n p e ts) c h (λ xs a b.
        let r = named_so kind s xs c b in (r.0, r.1 ∙ ap (value_of_kind m kind s) (sym (rest xs a))))

    mutual
      known_so : (t : Tree) (v : ℕ) → known n p e t ≡ Some v → value_of m e t ≡ v
      known_so (var x) v h = same_Some _ _ h
      known_so (elem k) v h = same_Some _ _ h
      known_so (app s ts) v h = value_so (option_and_then (cell_for n Function s) (all_known n p e ts)) (value_of m e (app s ts)) v (λ c i. cell_so Function s ts (λ xs g. all_known_so ts xs g) c i) h

      all_known_so : (ts : Trees) (xs : List ℕ) → all_known n p e ts ≡ Some xs → values_of m e ts ≡ xs
      all_known_so none xs h = same_Some _ _ h
      all_known_so (more t ts) xs h =
          let j = joined_some (known n p e t) (all_known n p e ts) xs h in
          ap (λ (x : ℕ). x ∷ values_of m e ts) (known_so t j.0 j.1.1.0) ∙ ap (λ (ys : List ℕ). j.0 ∷ ys) (all_known_so ts j.1.0 j.1.1.1) ∙ sym j.1.1.2

    cell_side_so : (kind : Kind) (s : ℕ) (ts : Trees) → IsSide (value_of_kind m kind s (values_of m e ts)) (cell_side n p e kind s ts)
    cell_side_so kind s ts = ((λ v h. value_so (option_and_then (cell_for n kind s) (all_known n p e ts)) (value_of_kind m kind s (values_of m e ts)) v named h), named)
      where
        named : (c : Cell) → option_and_then (cell_for n kind s) (all_known n p e ts) ≡ Some c → AllBelow n c.arguments × (value_at m c ≡ value_of_kind m kind s (values_of m e ts))
        named c h = cell_so kind s ts (all_known_so ts) c h

    term_side_so : (t : Tree) → IsSide (value_of m e t) (term_side n p e t)
    term_side_so (var x) = number_so (e x)
    term_side_so (elem k) = number_so k
    term_side_so (app s ts) = cell_side_so Function s ts

    none_between : IsBetween false (unknown, unknown)
    none_between = (0, (1, (refl, unknown_so 0, unknown_so 1)))

    equation_so : (ts : Trees) → IsBetween (are_equal (values_of m e ts)) (equation_sides n p e ts)
    equation_so none = none_between
    equation_so (more s none) = none_between
    equation_so (more s (more t none)) = (value_of m e s, (value_of m e t, (refl, term_side_so s, term_side_so t)))
    equation_so (more s (more t (more u us))) = none_between

    pub atom_so : (t : Tree) → IsBetween (is_true_atom m e t) (sides n p e t)
    atom_so (var x) = none_between
    atom_so (elem k) = none_between
    atom_so (app r ts) = by (r == equality)
      where
        by : (b : Bool) → IsBetween (if b then are_equal (values_of m e ts) else m.relation r (values_of m e ts)) (if b then equation_sides n p e ts else (cell_side n p e Relation r ts, side None (Some 1)))
        by true = equation_so ts
        by false = (value_of_kind m Relation r (values_of m e ts), (1, (holds_as_one (m.relation r (values_of m e ts)), cell_side_so Relation r ts, number_so 1)))

    pub told_so : (ls : ClauseTree) → IsTrue (is_true_clause m e ls) → Bears (told n p e ls)
    told_so [] h = absurd (let f : false ≡ true = h in cc)
    told_so (l ∷ ls) h =
        let q = atom_so l.atom in
        joins_so (truth_known l.positive (sides n p e l.atom)) (asked_by l.positive (sides n p e l.atom)) (told n p e ls) (is_true_literal m e l) (is_true_clause m e ls)
        (λ b i. truth_so l.positive (is_true_atom m e l.atom) (sides n p e l.atom) q b i) (λ i. asked_so l.positive (is_true_atom m e l.atom) (sides n p e l.atom) q i) (told_so ls) h

  -- the solution extends what comes of it
  abbrev pub IsKept : Option ValuesLeft → Type 0
  IsKept None = ⊥
  IsKept (Some q) = Extends n m q

  pub narrowed_so : (p : ValuesLeft) (c : Cell) (vs : List ℕ) → Extends n m p → IsAmong (value_at m c) vs → IsKept (narrowed p c vs)
  narrowed_so p c [] extended h = h
  narrowed_so p c (v ∷ vs) extended h = λ d below. by d below (is_same_cell c d) refl
    where
      by : (d : Cell) → AllBelow n d.arguments → (b : Bool) → is_same_cell c d ≡ b → IsAmong (value_at m d) (if b then v ∷ vs else p d)
      by d below true e = subst (λ (x : Cell). IsAmong (value_at m x) (v ∷ vs)) (same_cell c d e) h
      by d below false e = extended d below

  followed_so : (p : ValuesLeft) (t : Told) → Extends n m p → Bears t → IsKept (followed p t)
  followed_so p nothing extended h = extended
  followed_so p contradiction extended h = h
  followed_so p (asks c v positive) extended h = narrowed_so p c (kept positive v (p c)) extended (among_kept positive (value_at m c) v (p c) h.1 (extended c h.0))

  then_kept : (f : ValuesLeft → Option ValuesLeft) (o : Option ValuesLeft) → IsKept o → ((q : ValuesLeft) → Extends n m q → IsKept (f q)) → IsKept (option_and_then f o)
  then_kept f None h k = h
  then_kept f (Some q) h k = k q h

  -- the ground clauses are true
  abbrev pub AreTrue : List Ground → Type 0
  AreTrue [] = Unit {0}
  AreTrue (g ∷ gs) = IsTrue (is_true_clause m (assigned_by g.elements) g.clause) × AreTrue gs

  pass_so : (gs : List Ground) → AreTrue gs → (p : ValuesLeft) → Extends n m p → IsKept (pass n gs p)
  pass_so [] holds p extended = extended
  pass_so (g ∷ gs) holds p extended =
      then_kept (pass n gs) (followed p (told n p (assigned_by g.elements) g.clause)) (followed_so p (told n p (assigned_by g.elements) g.clause) extended (told_so p extended (assigned_by g.elements) g.clause holds.0)) (pass_so gs holds.1)

  pub passes_so : (k : ℕ) (gs : List Ground) → AreTrue gs → (p : ValuesLeft) → Extends n m p → IsKept (passes k n gs p)
  passes_so zero gs holds p extended = extended
  passes_so (suc k) gs holds p extended = then_kept (passes k n gs) (pass n gs p) (pass_so gs holds p extended) (passes_so k gs holds)
