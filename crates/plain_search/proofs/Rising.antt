-- Tables of rising lists, and those within others.
use Rattle.std.proofs.Common.{◌≡◌, ℕ, zero, suc, ◌+◌, ◌*◌, ◌<◌, ◌≤◌, ◌==◌, max, Bool, true, false, not, if◌then◌else◌, MatchBool, List, [], ◌∷◌, length, Some, inl, inr, refl, sym, ap, ◌∙◌, subst, arith}
use Rattle.std.specs.List.{filter, range_with_len}
use Rattle.std.proofs.lemmas.Bool.{eqb-true, eq-eqb}
use Rattle.fol_core.specs.declared.symbols.Kind.{Kind}
use Rattle.fol_core.specs.declared.symbols.Kind.TheVariants.{Function, Relation}
use Rattle.mace_cells.specs.World.{World, many_cells}
use Rattle.mace_ground.specs.Cells.{Cell}
use Rattle.model_tables.specs.Size.{bound_of}
use Rattle.plain_search.proofs.Narrowing.{AreSo, pass_is, passes_are}
use Rattle.plain_search.proofs.Sounding.{only_among, same_cell}
use Rattle.plain_search.specs.Closing.{kept, Ground, pass, instances_of, closure}
use Rattle.plain_search.specs.Lefts.{ValuesLeft, only_value, IsAmong, is_same_cell, all_left, with_left}
use Rattle.plain_search.specs.Orders.{IsRisingFrom, IsTable, IsNarrower}

-- a rising list has no number below its bound
pub bounded_below : (a x : ℕ) (us : List ℕ) → IsRisingFrom a us → IsAmong x us → a ≤ x
bounded_below a x [] rising i = absurd i
bounded_below a x (u ∷ us) rising (inl e) = let bound = rising.0 in omega (arith, bound, e)
bounded_below a x (u ∷ us) rising (inr i) =
    let bound = rising.0 in
    let above = bounded_below (suc u) x us rising.1 i in
    omega (arith, bound, above)

abbrev pub AreAmong : List ℕ → List ℕ → Type 0
AreAmong us vs = (x : ℕ) → IsAmong x us → IsAmong x vs

-- with the first numbers taken off, where these are equal
tails : (u v : ℕ) (us vs : List ℕ) → u ≡ v → IsRisingFrom (suc u) us → AreAmong (u ∷ us) (v ∷ vs) → AreAmong us vs
tails u v us vs same rising among x i = elim (among x (inr i)) [
  | inl e ↦ absurd (let above = bounded_below (suc u) x us rising i in omega (arith, above, e, same))
  | inr j ↦ j
]

-- rising lists are equal where each has the numbers of the other
pub same_rising : (a b : ℕ) (us vs : List ℕ) → IsRisingFrom a us → IsRisingFrom b vs → AreAmong us vs → AreAmong vs us → us ≡ vs
same_rising a b [] [] left right among back = refl
same_rising a b [] (v ∷ vs) left right among back = absurd (back v (inl refl))
same_rising a b (u ∷ us) [] left right among back = absurd (among u (inl refl))
same_rising a b (u ∷ us) (v ∷ vs) left right among back =
    let low : v ≤ u = bounded_below v u (v ∷ vs) (omega arith, right.1) (among u (inl refl)) in
    let high : u ≤ v = bounded_below u v (u ∷ us) (omega arith, left.1) (back v (inl refl)) in
    let same : u ≡ v = omega (arith, low, high) in
    let rest : us ≡ vs = same_rising (suc u) (suc v) us vs left.1 right.1 (tails u v us vs same left.1 among) (tails v u vs us (sym same) right.1 back) in
    cc

pub same_tables : (p q : ValuesLeft) → IsTable p → IsTable q → IsNarrower p q → IsNarrower q p → p ≡ q
same_tables p q left right within back = λ i c. same_rising 0 0 (p c) (q c) (left c).0 (right c).0 (within c) (back c) i

-- some numbers of a list that has one alone are this one
pub only_of : (a v : ℕ) (us vs : List ℕ) → IsRisingFrom a us → 0 < length us → AreAmong us vs → only_value vs ≡ Some v → only_value us ≡ Some v
only_of a v [] vs rising some among one = absurd (omega (arith, some))
only_of a v (u ∷ []) vs rising some among one = ap Some (only_among vs u v one (among u (inl refl)))
only_of a v (u ∷ x ∷ us) vs rising some among one =
    let first = only_among vs u v one (among u (inl refl)) in
    let second = only_among vs x v one (among x (inr (inl refl))) in
    let above = rising.1.0 in
    absurd (omega (arith, first, second, above))

lower : (a b : ℕ) (us : List ℕ) → a ≤ b → IsRisingFrom b us → IsRisingFrom a us
lower a b [] less rising = tt
lower a b (u ∷ us) less rising = (let bound = rising.0 in omega (arith, less, bound), rising.1)

-- what passes a test rises too
pub rising_filter : (t : ℕ → Bool) (a : ℕ) (us : List ℕ) → IsRisingFrom a us → IsRisingFrom a (filter t us)
rising_filter t a [] rising = tt
rising_filter t a (u ∷ us) rising = by (t u) (rising_filter t (suc u) us rising.1)
  where
    by : (b : Bool) → IsRisingFrom (suc u) (filter t us) → IsRisingFrom a (if b then u ∷ filter t us else filter t us)
    by true rest = (rising.0, rest)
    by false rest = lower a (suc u) (filter t us) (let bound = rising.0 in omega (arith, bound)) rest

-- and was in the list
pub passed : (t : ℕ → Bool) (x : ℕ) (us : List ℕ) → IsAmong x (filter t us) → IsAmong x us × (t x ≡ true)
passed t x [] i = absurd i
passed t x (u ∷ us) i = by (t u) refl i (passed t x us)
  where
    by : (b : Bool) → t u ≡ b → IsAmong x (if b then u ∷ filter t us else filter t us) → (IsAmong x (filter t us) → IsAmong x us × (t x ≡ true)) → IsAmong x (u ∷ us) × (t x ≡ true)
    by false e j rest = (inr (rest j).0, (rest j).1)
    by true e (inl same) rest = (inl same, ap t same ∙ e)
    by true e (inr j) rest = (inr (rest j).0, (rest j).1)

-- the values that are kept: they pass what was asked
pub kept_among : (positive : Bool) (v x : ℕ) (us : List ℕ) → IsAmong x (kept positive v us) → IsAmong x us × MatchBool positive (x ≡ v) (x ≡ v → ⊥)
kept_among true v x us i = let h = passed (λ u. u == v) x us i in (h.0, eqb-true x v h.1)
kept_among false v x us i =
    let h = passed (λ u. not (u == v)) x us i in
    (h.0, λ e. absurd (let no : not true ≡ true = ap not (sym (eq-eqb x v e)) ∙ h.1 in cc))

kept_rising : (positive : Bool) (v a : ℕ) (us : List ℕ) → IsRisingFrom a us → IsRisingFrom a (kept positive v us)
kept_rising true v a us rising = rising_filter (λ u. u == v) a us rising
kept_rising false v a us rising = rising_filter (λ u. not (u == v)) a us rising

-- a table within another
abbrev pub IsBelow : ValuesLeft → ValuesLeft → Type 0
IsBelow whole p = IsTable p × IsNarrower p whole

pub below_itself : (p : ValuesLeft) → IsTable p → IsBelow p p
below_itself p table = (table, λ c x i. i)

pub below_twice : (p q r : ValuesLeft) → IsBelow p q → IsBelow q r → IsBelow p r
below_twice p q r h k = (k.0, λ c x i. h.1 c x (k.1 c x i))

-- it stays so where a cell keeps some of its values
pub put_below : (whole p : ValuesLeft) (c : Cell) (us : List ℕ) → IsBelow whole p → IsRisingFrom 0 us → 0 < length us → AreAmong us (p c) → IsBelow whole (with_left p c us)
put_below whole p c us below rising some among = ((λ d. proper d (is_same_cell c d)), (λ d. inside d (is_same_cell c d) refl))
  where
    proper : (d : Cell) (b : Bool) → IsRisingFrom 0 (if b then us else p d) × (0 < length (if b then us else p d))
    proper d true = (rising, some)
    proper d false = below.0 d

    inside : (d : Cell) (b : Bool) → is_same_cell c d ≡ b → AreAmong (if b then us else p d) (whole d)
    inside d true e x i = below.1 d x (subst (λ (y : Cell). IsAmong x (p y)) (same_cell c d e) (among x i))
    inside d false e x i = below.1 d x i

-- each step of a pass leaves a table within the first
kept_below : (whole p : ValuesLeft) (c : Cell) (v : ℕ) (positive : Bool) (u : ℕ) (us : List ℕ) → IsBelow whole p → kept positive v (p c) ≡ u ∷ us → IsBelow whole (with_left p c (u ∷ us))
kept_below whole p c v positive u us below is =
    put_below whole p c (u ∷ us) below (subst (IsRisingFrom 0) is (kept_rising positive v 0 (p c) (below.0 c).0)) (omega arith)
    (λ x i. (kept_among positive v x (p c) (subst (IsAmong x) (sym is) i)).0)

pub pass_below : (n : ℕ) (gs : List Ground) (p q : ValuesLeft) → IsTable p → pass n gs p ≡ Some q → IsBelow p q
pass_below n gs p q table is =
    subst (AreSo n (IsBelow p) (kept_below p)) is (pass_is n (IsBelow p) (kept_below p) gs p (below_itself p table))

pub closure_below : (w : World) (p q : ValuesLeft) → IsTable p → closure w p ≡ Some q → IsBelow p q
closure_below w p q table is =
    let gs = instances_of w.size w.clauses in
    subst (AreSo w.size (IsBelow p) (kept_below p)) is
    (passes_are w.size (IsBelow p) (kept_below p) (suc (many_cells w * max w.size 2)) gs p (below_itself p table))

-- at first a table has all values
range_rising : (a n : ℕ) → IsRisingFrom a (range_with_len a n)
range_rising a zero = tt
range_rising a (suc n) = (omega arith, lower (suc a) (a + 1) (range_with_len (a + 1) n) (omega arith) (range_rising (a + 1) n))

range_some : (a n : ℕ) → 0 < n → 0 < length (range_with_len a n)
range_some a zero some = absurd (omega (arith, some))
range_some a (suc n) some = omega arith

pub all_left_table : (w : World) → 0 < w.size → IsTable (all_left w)
all_left_table w some c = (range_rising 0 (bound_of w.size c.kind), range_some 0 (bound_of w.size c.kind) (bounded c.kind))
  where
    bounded : (kind : Kind) → 0 < bound_of w.size kind
    bounded Function = some
    bounded Relation = omega arith
