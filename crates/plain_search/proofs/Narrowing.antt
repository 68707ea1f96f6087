-- What each step of closing keeps, passes keep.
use Rattle.std.proofs.Common.{◌≡◌, ℕ, zero, suc, ◌*◌, ◌==◌, max, Bool, true, false, not, if◌then◌else◌, List, [], ◌∷◌, Option, None, Some, refl, ap, ◌∙◌, subst}
use Rattle.std.specs.List.{filter}
use Rattle.std.specs.Option.{option_and_then}
use Rattle.mace_cells.specs.World.{World, many_cells}
use Rattle.mace_ground.specs.Cells.{Cell}
use Rattle.mace_ground.specs.Instances.{assigned_by}
use Rattle.plain_search.proofs.Sounding.{same_cell}
use Rattle.plain_search.specs.Closing.{Told, nothing, contradiction, asks, told, kept, narrowed, followed, Ground, pass, passes, instances_of, closure}
use Rattle.plain_search.specs.Lefts.{ValuesLeft, is_same_cell, with_left}
use Rattle.plain_search.specs.Trying.{is_open}

module _ (n : ℕ) (P : ValuesLeft → Type 0) (step : (p : ValuesLeft) (c : Cell) (v : ℕ) (positive : Bool) (u : ℕ) (us : List ℕ) → P p → kept positive v (p c) ≡ u ∷ us → P (with_left p c (u ∷ us))) where
  abbrev pub AreSo : Option ValuesLeft → Type 0
  AreSo None = Unit {0}
  AreSo (Some q) = P q

  narrowed_is : (p : ValuesLeft) (c : Cell) (v : ℕ) (positive : Bool) (us : List ℕ) → P p → kept positive v (p c) ≡ us → AreSo (narrowed p c us)
  narrowed_is p c v positive [] h is = tt
  narrowed_is p c v positive (u ∷ us) h is = step p c v positive u us h is

  followed_is : (p : ValuesLeft) (t : Told) → P p → AreSo (followed p t)
  followed_is p nothing h = h
  followed_is p contradiction h = tt
  followed_is p (asks c v positive) h = narrowed_is p c v positive (kept positive v (p c)) h refl

  then_is : (f : ValuesLeft → Option ValuesLeft) (o : Option ValuesLeft) → AreSo o → ((q : ValuesLeft) → P q → AreSo (f q)) → AreSo (option_and_then f o)
  then_is f None h k = tt
  then_is f (Some q) h k = k q h

  pub pass_is : (gs : List Ground) (p : ValuesLeft) → P p → AreSo (pass n gs p)
  pass_is [] p h = h
  pass_is (g ∷ gs) p h =
      let t = told n p (assigned_by g.elements) g.clause in
      then_is (pass n gs) (followed p t) (followed_is p t h) (λ q k. pass_is gs q k)

  pub passes_are : (k : ℕ) (gs : List Ground) (p : ValuesLeft) → P p → AreSo (passes k n gs p)
  passes_are zero gs p h = h
  passes_are (suc k) gs p h = then_is (passes k n gs) (pass n gs p) (pass_is gs p h) (λ q i. passes_are k gs q i)

open_filter : (t : ℕ → Bool) (us : List ℕ) → is_open (filter t us) ≡ true → is_open us ≡ true
open_filter t [] h = h
open_filter t (u ∷ []) h = by (t u) h
  where
    by : (b : Bool) → is_open (if b then u ∷ [] else []) ≡ true → false ≡ true
    by true g = g
    by false g = g
open_filter t (u ∷ w ∷ us) h = refl

open_kept : (positive : Bool) (v : ℕ) (us : List ℕ) → is_open (kept positive v us) ≡ true → is_open us ≡ true
open_kept true v us h = open_filter (λ u. u == v) us h
open_kept false v us h = open_filter (λ u. not (u == v)) us h

-- the cells that are open in the second are open in the first
abbrev pub OpensNone : ValuesLeft → ValuesLeft → Type 0
OpensNone p q = (c : Cell) → is_open (q c) ≡ true → is_open (p c) ≡ true

opens_none : (first p : ValuesLeft) (c : Cell) (v : ℕ) (positive : Bool) (u : ℕ) (us : List ℕ) → OpensNone first p → kept positive v (p c) ≡ u ∷ us → OpensNone first (with_left p c (u ∷ us))
opens_none first p c v positive u us h is d there = by (is_same_cell c d) refl there
  where
    by : (b : Bool) → is_same_cell c d ≡ b → is_open (if b then u ∷ us else p d) ≡ true → is_open (first d) ≡ true
    by true e g =
        let here : is_open (p c) ≡ true = open_kept positive v (p c) (ap is_open is ∙ g) in
        h d (subst (λ (x : Cell). is_open (p x) ≡ true) (same_cell c d e) here)
    by false e g = h d g

pub closure_opens_none : (w : World) (p q : ValuesLeft) → closure w p ≡ Some q → OpensNone p q
closure_opens_none w p q is =
    subst (AreSo w.size (OpensNone p) (opens_none p)) is
    (passes_are w.size (OpensNone p) (opens_none p) (suc (many_cells w * max w.size 2)) (instances_of w.size w.clauses) p (λ c there. there))
