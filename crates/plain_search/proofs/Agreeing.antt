-- Closing has one result: the widest closed table within the one that it begins with.
use Rattle.std.proofs.Common.{◌≡◌, ℕ, zero, suc, ◌*◌, ◌<◌, max, Bool, true, false, if◌then◌else◌, MatchBool, List, [], ◌∷◌, length, Option, None, Some, inl, inr, refl, sym, ap, ◌∙◌, subst, arith}
use Rattle.std.specs.List.{AllByRecursion}
use Rattle.std.specs.Option.{option_and_then}
use Rattle.std.proofs.lemmas.Option.{none-some, same_Some}
use Rattle.mace_cells.specs.World.{World, many_cells}
use Rattle.mace_ground.specs.Cells.{Cell}
use Rattle.mace_ground.specs.Instances.{assigned_by}
use Rattle.plain_search.proofs.Reaching.{cell_itself}
use Rattle.plain_search.proofs.Recalling.{recalled}
use Rattle.plain_search.proofs.Rising.{same_tables, kept_among, pass_below, closure_below}
use Rattle.plain_search.proofs.Sounding.{among_kept, same_cell}
use Rattle.plain_search.proofs.Stopping.{closure_is_closed}
use Rattle.plain_search.specs.Closing.{Told, nothing, contradiction, asks, told, kept, narrowed, followed, Ground, pass, passes, instances_of, closure}
use Rattle.plain_search.specs.Lefts.{ValuesLeft, IsAmong, is_same_cell, with_left}
use Rattle.plain_search.specs.Orders.{IsTable, IsNarrower, Obeys, IsInstanceIn, AreInstancesOf, CanClose, ClosureInAnyOrder, ContradictionInAnyOrder, IsClosedWithin, ClosureIsWidest, NoneIsClosed}

abbrev tells : ℕ → ValuesLeft → Ground → Told
tells n p g = told n p (assigned_by g.elements) g.clause

abbrev ObeysEach : ℕ → ValuesLeft → List Ground → Type 0
ObeysEach n q gs = AllByRecursion (λ g. Obeys q (tells n q g)) gs

-- a table that doing what is told leaves as it is obeys it
asks_obeyed : (r : ValuesLeft) (c : Cell) (v : ℕ) (positive : Bool) → ((x : ℕ) → IsAmong x (r c) → MatchBool positive (x ≡ v) (x ≡ v → ⊥)) → Obeys r (asks c v positive)
asks_obeyed r c v true f = f
asks_obeyed r c v false f = λ i. f v i refl

narrowed_obeys : (r : ValuesLeft) (c : Cell) (v : ℕ) (positive : Bool) (us : List ℕ) → kept positive v (r c) ≡ us → narrowed r c us ≡ Some r → Obeys r (asks c v positive)
narrowed_obeys r c v positive [] is same = absurd (none-some _ same)
narrowed_obeys r c v positive (u ∷ us) is same =
    let put : with_left r c (u ∷ us) c ≡ u ∷ us = ap (λ (b : Bool). if b then u ∷ us else r c) (cell_itself c) in
    let here : r c ≡ kept positive v (r c) = sym (ap (λ (f : ValuesLeft). f c) (same_Some _ _ same)) ∙ put ∙ sym is in
    asks_obeyed r c v positive (λ x i. (kept_among positive v x (r c) (subst (IsAmong x) here i)).1)

followed_obeys : (r : ValuesLeft) (t : Told) → followed r t ≡ Some r → Obeys r t
followed_obeys r nothing same = tt
followed_obeys r contradiction same = absurd (none-some _ same)
followed_obeys r (asks c v positive) same = narrowed_obeys r c v positive (kept positive v (r c)) refl same

-- a pass that leaves it as it is begins with a step that does so
pub closed_obeys : (n : ℕ) (r : ValuesLeft) → IsTable r → (gs : List Ground) → pass n gs r ≡ Some r → ObeysEach n r gs
closed_obeys n r table [] same = tt
closed_obeys n r table (g ∷ gs) same = by (followed r (tells n r g)) refl same (closed_obeys n r table gs)
  where
    by : (o : Option ValuesLeft) → followed r (tells n r g) ≡ o → option_and_then (pass n gs) o ≡ Some r → (pass n gs r ≡ Some r → ObeysEach n r gs) → Obeys r (tells n r g) × ObeysEach n r gs
    by None first after rest = absurd (none-some _ after)
    by (Some s) first after rest =
        let there = pass_below n (g ∷ []) r s table (ap (option_and_then (pass n [])) first) in
        let back = pass_below n gs s r there.0 after in
        let stays : s ≡ r = same_tables s r there.0 table there.1 back.1 in
        (followed_obeys r (tells n r g) (first ∙ ap Some stays), rest (subst (λ (x : ValuesLeft). pass n gs x ≡ Some r) stays after))

-- there is a table, and q is within it
abbrev pub IsAround : ValuesLeft → Option ValuesLeft → Type 0
IsAround q None = ⊥
IsAround q (Some p) = IsNarrower q p

member : (us : List ℕ) → 0 < length us → (x : ℕ) × IsAmong x us
member [] some = absurd (omega (arith, some))
member (u ∷ us) some = (u, inl refl)

-- a table that obeys all instances stays within each table around it that steps are made of
module _ (n : ℕ) (q : ValuesLeft) (table : IsTable q) where
  as_asked : (positive : Bool) (c : Cell) (v x : ℕ) → Obeys q (asks c v positive) → IsAmong x (q c) → MatchBool positive (x ≡ v) (x ≡ v → ⊥)
  as_asked true c v x obeys i = obeys x i
  as_asked false c v x obeys i = λ e. obeys (subst (λ (y : ℕ). IsAmong y (q c)) e i)

  narrowed_around : (p : ValuesLeft) (c : Cell) (us : List ℕ) → IsNarrower q p → ((x : ℕ) → IsAmong x (q c) → IsAmong x us) → IsAround q (narrowed p c us)
  narrowed_around p c [] around keeps = (let x = member (q c) (table c).1 in keeps x.0 x.1)
  narrowed_around p c (u ∷ us) around keeps = λ d x i. by d x (is_same_cell c d) refl i
    where
      by : (d : Cell) (x : ℕ) (b : Bool) → is_same_cell c d ≡ b → IsAmong x (q d) → IsAmong x (if b then u ∷ us else p d)
      by d x true e i = keeps x (subst (λ (y : Cell). IsAmong x (q y)) (sym (same_cell c d e)) i)
      by d x false e i = around d x i

  followed_around : (p : ValuesLeft) (t : Told) → IsNarrower q p → Obeys q t → IsAround q (followed p t)
  followed_around p nothing around obeys = around
  followed_around p contradiction around obeys = obeys
  followed_around p (asks c v positive) around obeys =
      narrowed_around p c (kept positive v (p c)) around (λ x i. among_kept positive x v (p c) (as_asked positive c v x obeys i) (around c x i))

  then_around : (f : ValuesLeft → Option ValuesLeft) (o : Option ValuesLeft) → IsAround q o → ((p : ValuesLeft) → IsNarrower q p → IsAround q (f p)) → IsAround q (option_and_then f o)
  then_around f None around go = around
  then_around f (Some p) around go = go p around

  obeys_one : (g : Ground) (hs : List Ground) → ObeysEach n q hs → IsInstanceIn g hs → Obeys q (tells n q g)
  obeys_one g [] all i = absurd i
  obeys_one g (h ∷ hs) all (inl e) = subst (λ (x : Ground). Obeys q (tells n q x)) (sym e) all.0
  obeys_one g (h ∷ hs) all (inr i) = obeys_one g hs all.1 i

  pass_around : (gs : List Ground) → ObeysEach n q gs → (p : ValuesLeft) → IsNarrower q p → IsAround q (pass n gs p)
  pass_around [] all p around = around
  pass_around (g ∷ gs) all p around =
      then_around (pass n gs) (followed p (tells n p g))
      (followed_around p (tells n p g) around ((recalled n p q table around (assigned_by g.elements) q (λ c x i. i) g.clause).obeyed all.0))
      (pass_around gs all.1)

  passes_around : (gs : List Ground) → ObeysEach n q gs → (k : ℕ) (p : ValuesLeft) → IsNarrower q p → IsAround q (passes k n gs p)
  passes_around gs all zero p around = around
  passes_around gs all (suc k) p around = then_around (passes k n gs) (pass n gs p) (pass_around gs all p around) (λ r i. passes_around gs all k r i)

  each_obeyed : (gs hs : List Ground) → ObeysEach n q hs → AllByRecursion (λ g. IsInstanceIn g hs) gs → ObeysEach n q gs
  each_obeyed [] hs all are = tt
  each_obeyed (g ∷ gs) hs all are = (obeys_one g hs all are.0, each_obeyed gs hs all are.1)

-- closed tables are within what comes of a pass over instances, and within the closure
module _ (w : World) (p q : ValuesLeft) (inside : IsClosedWithin w p q) where
  obeys_all : ObeysEach w.size q (instances_of w.size w.clauses)
  obeys_all = closed_obeys w.size q inside.table (instances_of w.size w.clauses) inside.closed

  pub any_pass_around : (gs : List Ground) → AreInstancesOf w gs → IsAround q (pass w.size gs p)
  any_pass_around gs are =
      pass_around w.size q inside.table gs (each_obeyed w.size q inside.table gs (instances_of w.size w.clauses) obeys_all are) p inside.narrower

  pub closure_around : IsAround q (closure w p)
  closure_around =
      passes_around w.size q inside.table (instances_of w.size w.clauses) obeys_all (suc (many_cells w * max w.size 2)) p inside.narrower

-- the closure itself is a closed table within
closed_within : (w : World) (p r : ValuesLeft) → CanClose w p → closure w p ≡ Some r → IsClosedWithin w p r
closed_within w p r can is =
    let below = closure_below w p r can.table is in
    record { table = below.0; closed = closure_is_closed w p r can.fits can.small is; narrower = below.1 }

pub none_is_closed : NoneIsClosed
none_is_closed w p can never = by (closure w p) refl
  where
    by : (o : Option ValuesLeft) → closure w p ≡ o → o ≡ None
    by None is = refl
    by (Some r) is = absurd (never r (closed_within w p r can is))

pub closure_is_widest : ClosureIsWidest
closure_is_widest w p q can inside widest = by (closure w p) refl (closure_around w p q inside)
  where
    by : (o : Option ValuesLeft) → closure w p ≡ o → IsAround q o → o ≡ Some q
    by None is around = absurd around
    by (Some r) is around =
        let other = closed_within w p r can is in
        ap Some (same_tables r q other.table inside.table (widest r other) around)

pub closure_in_any_order : ClosureInAnyOrder
closure_in_any_order w p q gs can are is closed =
    let below = pass_below w.size gs p q can.table is in
    closure_is_widest w p q can (record { table = below.0; closed = closed; narrower = below.1 })
    (λ r inside. subst (IsAround r) is (any_pass_around w p r inside gs are))

pub contradiction_in_any_order : ContradictionInAnyOrder
contradiction_in_any_order w p gs can are is =
    none_is_closed w p can (λ r inside. subst (IsAround r) is (any_pass_around w p r inside gs are))
