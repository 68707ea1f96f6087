-- Which variables an occurrence binds, and to what.
use Rattle.std.proofs.Common.{◌≡◌, ℕ, zero, suc, ◌+◌, ◌-◌, ◌*◌, ◌/◌, ◌%◌, ◌^◌, ◌<◌, ◌≤◌, ◌==◌, ◌&&◌, nat_lt, Bool, true, false, if◌then◌else◌, List, [], ◌∷◌, ◌++◌, length, map, drop, get_or, set, replicate, slice_index, Option, None, Some, inl, inr, refl, sym, ap, ◌∙◌, subst, arith}
use Rattle.std.specs.Prelude.{◌⊎◌}
use Rattle.std.specs.List.{AllByRecursion, list_all}
use Rattle.std.specs.Option.{option_map}
use Rattle.std.proofs.Math.Nat.{one-le-pow, pow-succ', mul-le-mul_right}
use Rattle.std.proofs.lemmas.Bool.{cases_lt, lt-ltb, eqb-true, eqb-false}
use Rattle.std.proofs.lemmas.List.{drop_at, get_or-set_same, get_or-set_other, length-set}
use Rattle.std.proofs.lemmas.Nat.{div-mul-add, mod-mul-add}
use Rattle.std.proofs.lemmas.Option.{none-some, same_Some, option_and_then_some}
use Rattle.fol_core.specs.SymbolTable.{is_same_kind}
use Rattle.fol_core.specs.Tree.{Tree, var, elem, app, Trees, none, more}
use Rattle.fol_core.specs.Truth.{Assignment}
use Rattle.fol_core.specs.declared.symbols.Kind.{Kind}
use Rattle.mace_cells.specs.World.{World, many_cells}
use Rattle.mace_cells.specs.declared.trail.TrailEntry.{TrailEntry}
use Rattle.mace_ground.proofs.Numbering.{place_below, place_split}
use Rattle.mace_ground.specs.Cells.{Block, found}
use Rattle.model_tables.specs.Size.{AllBelow}
use Rattle.model_tables.specs.Tables.{place_from}
use Rattle.plain_search.proofs.Sounding.{all_below}
use Rattle.plain_search.specs.Lefts.{IsAmong}
use Rattle.cell_search.proofs.Seeing.{both_true, found_within, joined_some}
use Rattle.cell_search.specs.Covering.{HasVariable, HaveVariable, IsIn, IsWay, bound_by, element_of}
use Rattle.cell_search.specs.Known.{number_of_cell, cell_number, seen, all_seen, cell_seen}
use Rattle.cell_search.specs.Marks.{nested_in, all_nested_in, direct_one, direct_in, marks_of, is_mark, marked_from, step_of, with_step, directs}
use Rattle.cell_search.specs.Searchable.{count_of}
use Rattle.cell_search.specs.Ways.{IsOccurrence, IsWalkOf}
use Rattle.cell_search.specs.declared.walk.Occurrence.{Occurrence}
use Rattle.cell_search.specs.declared.walk.Walk.{Walk}
use Rattle.cell_search.specs.declared.walks.Mark.{Mark}
use Rattle.cell_search.specs.declared.walks.Mark.TheVariants.{Other, Nested, Direct}

-- the mark of a variable
abbrev mark_at : List Mark → ℕ → Mark
mark_at ms x = get_or ms x Other

mark_past : (ms : List Mark) (i : ℕ) (m : Mark) → length ms ≤ i → set ms i m ≡ ms
mark_past [] i m h = refl
mark_past (y ∷ ys) zero m h = absurd (omega (arith, h))
mark_past (y ∷ ys) (suc i) m h = ap (λ (zs : List Mark). y ∷ zs) (mark_past ys i m (omega (arith, h)))

-- a mark that is set stands there, or all stays
set_or : (ms : List Mark) (y : ℕ) (m : Mark) (x : ℕ) → (mark_at (set ms y m) x ≡ mark_at ms x) ⊎ ((x ≡ y) × (mark_at (set ms y m) x ≡ m))
set_or ms y m x = by (x == y) refl
  where
    by : (b : Bool) → (x == y) ≡ b → (mark_at (set ms y m) x ≡ mark_at ms x) ⊎ ((x ≡ y) × (mark_at (set ms y m) x ≡ m))
    by true e =
        let same : x ≡ y = eqb-true x y e in
        elim (cases_lt y (length ms)) [
          | inl inside ↦ inr (same, ap (λ (z : ℕ). mark_at (set ms y m) z) same ∙ get_or-set_same ms y m Other inside)
          | inr past ↦ inl (ap (λ (zs : List Mark). mark_at zs x) (mark_past ms y m past))
        ]
    by false e = inl (get_or-set_other ms y x m Other (eqb-false x y e))

mutual
  nested_or : (t : Tree) (ms : List Mark) (x : ℕ) → (mark_at (nested_in t ms) x ≡ mark_at ms x) ⊎ (mark_at (nested_in t ms) x ≡ Nested)
  nested_or (var y) ms x = elim (set_or ms y Nested x) [ inl same ↦ inl same | inr put ↦ inr put.1 ]
  nested_or (elem k) ms x = inl refl
  nested_or (app s ts) ms x = all_nested_or ts ms x

  all_nested_or : (ts : Trees) (ms : List Mark) (x : ℕ) → (mark_at (all_nested_in ts ms) x ≡ mark_at ms x) ⊎ (mark_at (all_nested_in ts ms) x ≡ Nested)
  all_nested_or none ms x = inl refl
  all_nested_or (more t ts) ms x = elim (all_nested_or ts (nested_in t ms) x) [
    | inl later ↦ elim (nested_or t ms x) [ inl first ↦ inl (later ∙ first) | inr put ↦ inr (later ∙ put) ]
    | inr put ↦ inr put
  ]

mutual
  nested_many : (t : Tree) (ms : List Mark) → length (nested_in t ms) ≡ length ms
  nested_many (var y) ms = length-set ms y Nested
  nested_many (elem k) ms = refl
  nested_many (app s ts) ms = all_nested_many ts ms

  all_nested_many : (ts : Trees) (ms : List Mark) → length (all_nested_in ts ms) ≡ length ms
  all_nested_many none ms = refl
  all_nested_many (more t ts) ms = all_nested_many ts (nested_in t ms) ∙ nested_many t ms

mutual
  nested_has : (t : Tree) (ms : List Mark) (x : ℕ) → x < length ms → HasVariable x t → mark_at (nested_in t ms) x ≡ Nested
  nested_has (var y) ms x inside same =
      ap (λ (z : ℕ). mark_at (set ms y Nested) z) same ∙ get_or-set_same ms y Nested Other (subst (λ (z : ℕ). z < length ms) same inside)
  nested_has (elem k) ms x inside has = absurd has
  nested_has (app s ts) ms x inside has = all_nested_has ts ms x inside has

  all_nested_has : (ts : Trees) (ms : List Mark) (x : ℕ) → x < length ms → HaveVariable x ts → mark_at (all_nested_in ts ms) x ≡ Nested
  all_nested_has none ms x inside has = absurd has
  all_nested_has (more t ts) ms x inside (inl i) = elim (all_nested_or ts (nested_in t ms) x) [
    | inl later ↦ later ∙ nested_has t ms x inside i
    | inr put ↦ put
  ]
  all_nested_has (more t ts) ms x inside (inr i) = all_nested_has ts (nested_in t ms) x (let long = nested_many t ms in omega (arith, inside, long)) i

direct_one_or : (t : Tree) (ms : List Mark) (x : ℕ) → (mark_at (direct_one t ms) x ≡ mark_at ms x) ⊎ (mark_at (direct_one t ms) x ≡ Direct)
direct_one_or (var y) ms x = elim (set_or ms y Direct x) [ inl same ↦ inl same | inr put ↦ inr put.1 ]
direct_one_or (elem k) ms x = inl refl
direct_one_or (app s ts) ms x = inl refl

direct_or : (ts : Trees) (ms : List Mark) (x : ℕ) → (mark_at (direct_in ts ms) x ≡ mark_at ms x) ⊎ (mark_at (direct_in ts ms) x ≡ Direct)
direct_or none ms x = inl refl
direct_or (more t ts) ms x = elim (direct_or ts (direct_one t ms) x) [
  | inl later ↦ elim (direct_one_or t ms x) [ inl first ↦ inl (later ∙ first) | inr put ↦ inr (later ∙ put) ]
  | inr put ↦ inr put
]

direct_one_many : (t : Tree) (ms : List Mark) → length (direct_one t ms) ≡ length ms
direct_one_many (var y) ms = length-set ms y Direct
direct_one_many (elem k) ms = refl
direct_one_many (app s ts) ms = refl

direct_many : (ts : Trees) (ms : List Mark) → length (direct_in ts ms) ≡ length ms
direct_many none ms = refl
direct_many (more t ts) ms = direct_many ts (direct_one t ms) ∙ direct_one_many t ms

-- the variables with steps
abbrev pub bound_in : List (ℕ × ℕ) → List ℕ
bound_in ds = map (λ (d : ℕ × ℕ). d.0) ds

behind_step : (t : Tree) (step : ℕ) (ds : List (ℕ × ℕ)) (x : ℕ) → IsAmong x (bound_in ds) → IsAmong x (bound_in (with_step t step ds))
behind_step (var y) step ds x i = inr i
behind_step (elem k) step ds x i = i
behind_step (app s ts) step ds x i = i

here_step : (t : Tree) (step : ℕ) (ds : List (ℕ × ℕ)) (ms : List Mark) (x : ℕ) → mark_at (direct_one t ms) x ≡ Direct → IsAmong x (bound_in (with_step t step ds)) ⊎ (mark_at ms x ≡ Direct)
here_step (var y) step ds ms x h = elim (set_or ms y Direct x) [ inl same ↦ inr (sym same ∙ h) | inr put ↦ inl (inl put.0) ]
here_step (elem k) step ds ms x h = inr h
here_step (app s ts) step ds ms x h = inr h

direct_of : (n : ℕ) (ts : Trees) (ms : List Mark) (x : ℕ) → mark_at (direct_in ts ms) x ≡ Direct → IsAmong x (bound_in (directs n ts)) ⊎ (mark_at ms x ≡ Direct)
direct_of n none ms x h = inr h
direct_of n (more t ts) ms x h = elim (direct_of n ts (direct_one t ms) x h) [
  | inl i ↦ inl (behind_step t (step_of n (count_of ts)) (directs n ts) x i)
  | inr e ↦ here_step t (step_of n (count_of ts)) (directs n ts) ms x e
]

others_at_first : (many x : ℕ) → mark_at (replicate many Other) x ≡ Other
others_at_first zero x = refl
others_at_first (suc many) zero = refl
others_at_first (suc many) (suc x) = others_at_first many x

replicate_many : (many : ℕ) → length (replicate many Other) ≡ many
replicate_many zero = refl
replicate_many (suc many) = ap suc (replicate_many many)

-- the variables with a mark
is_mark_same : (a : Mark) → is_mark a a ≡ true
is_mark_same Other = refl
is_mark_same Nested = refl
is_mark_same Direct = refl

is_mark_true : (a b : Mark) → is_mark a b ≡ true → a ≡ b
is_mark_true Other Other h = refl
is_mark_true Other Nested h = absurd cc
is_mark_true Other Direct h = absurd cc
is_mark_true Nested Other h = absurd cc
is_mark_true Nested Nested h = refl
is_mark_true Nested Direct h = absurd cc
is_mark_true Direct Other h = absurd cc
is_mark_true Direct Nested h = absurd cc
is_mark_true Direct Direct h = refl

marked_in : (x a : ℕ) (mark : Mark) (ms : List Mark) → x < length ms → mark_at ms x ≡ mark → IsAmong (a + x) (marked_from a mark ms)
marked_in x a mark [] inside is = absurd (omega (arith, inside))
marked_in zero a mark (m ∷ ms) inside is =
    let here : is_mark m mark ≡ true = ap (λ (k : Mark). is_mark k mark) is ∙ is_mark_same mark in
    let same : a + 0 ≡ a = omega arith in
    subst (λ (b : Bool). IsAmong (a + 0) (if b then a ∷ marked_from (suc a) mark ms else marked_from (suc a) mark ms)) (sym here) (inl same)
marked_in (suc x) a mark (m ∷ ms) inside is = by (is_mark m mark) (marked_in x (suc a) mark ms (omega (arith, inside)) is)
  where
    moved : suc a + x ≡ a + suc x
    moved = omega arith

    by : (b : Bool) → IsAmong (suc a + x) (marked_from (suc a) mark ms) → IsAmong (a + suc x) (if b then a ∷ marked_from (suc a) mark ms else marked_from (suc a) mark ms)
    by true i = inr (subst (λ (y : ℕ). IsAmong y (marked_from (suc a) mark ms)) moved i)
    by false i = subst (λ (y : ℕ). IsAmong y (marked_from (suc a) mark ms)) moved i

-- where such a variable is
record IsMarked (x a : ℕ) (mark : Mark) (ms : List Mark) : Type 0 where
  place : ℕ
  there : x ≡ a + place
  within : place < length ms
  has : mark_at ms place ≡ mark

marked_out : (x a : ℕ) (mark : Mark) (ms : List Mark) → IsAmong x (marked_from a mark ms) → IsMarked x a mark ms
marked_out x a mark [] i = absurd i
marked_out x a mark (m ∷ ms) i = by (is_mark m mark) refl i (marked_out x (suc a) mark ms)
  where
    on : IsMarked x (suc a) mark ms → IsMarked x a mark (m ∷ ms)
    on r = record { place = suc r.place; there = (let e = r.there in omega (arith, e)); within = (let e = r.within in omega (arith, e)); has = r.has }

    by : (b : Bool) → is_mark m mark ≡ b → IsAmong x (if b then a ∷ marked_from (suc a) mark ms else marked_from (suc a) mark ms) → (IsAmong x (marked_from (suc a) mark ms) → IsMarked x (suc a) mark ms) → IsMarked x a mark (m ∷ ms)
    by true e (inl same) rest = record { place = 0; there = omega (arith, same); within = omega arith; has = is_mark_true m mark e }
    by true e (inr j) rest = on (rest j)
    by false e j rest = on (rest j)

among_either : (x : ℕ) (xs ys : List ℕ) → IsAmong x (xs ++ ys) → IsAmong x xs ⊎ IsAmong x ys
among_either x [] ys i = inr i
among_either x (y ∷ xs) ys (inl e) = inl (inl e)
among_either x (y ∷ xs) ys (inr i) = elim (among_either x xs ys i) [ inl j ↦ inl (inr j) | inr j ↦ inr j ]

among_left : (x : ℕ) (xs ys : List ℕ) → IsAmong x xs → IsAmong x (xs ++ ys)
among_left x [] ys i = absurd i
among_left x (y ∷ xs) ys (inl e) = inl e
among_left x (y ∷ xs) ys (inr i) = inr (among_left x xs ys i)

among_right : (x : ℕ) (xs ys : List ℕ) → IsAmong x ys → IsAmong x (xs ++ ys)
among_right x [] ys i = i
among_right x (y ∷ xs) ys i = inr (among_right x xs ys i)

-- a way of an occurrence
module _ (n i many : ℕ) (kind : Kind) (s : ℕ) (ts : Trees) (walk : Walk) (way : IsWalkOf n i many kind s ts walk) where
  abbrev ms : List Mark
  ms = marks_of many ts

  marks_many : length ms ≡ many
  marks_many = direct_many ts (all_nested_in ts (replicate many Other)) ∙ all_nested_many ts (replicate many Other) ∙ replicate_many many

  terms_of : (o : Option Occurrence) → IsOccurrence n kind s ts o → (x : ℕ) → IsIn x o → HaveVariable x ts
  terms_of None is x i = absurd is
  terms_of (Some o) is x i = subst (HaveVariable x) is.same_terms i

  pub in_terms : (x : ℕ) → IsIn x walk.occurrence → HaveVariable x ts
  in_terms x i = terms_of walk.occurrence way.occurrence x i

  behind_first : drop walk.nested walk.order.items ≡ marked_from 0 Other ms
  behind_first =
      ap (λ (xs : List ℕ). drop walk.nested xs) way.order ∙ drop_at (marked_from 0 Nested ms) (marked_from 0 Other ms) walk.nested (sym way.first)

  no_other : (x : ℕ) → x < many → HaveVariable x ts → mark_at ms x ≡ Other → ⊥
  no_other x inside has is =
      let nested : mark_at (all_nested_in ts (replicate many Other)) x ≡ Nested = all_nested_has ts (replicate many Other) x (let long = replicate_many many in omega (arith, inside, long)) has in
      elim (direct_or ts (all_nested_in ts (replicate many Other)) x) [
        | inl same ↦ (let e : Nested ≡ Other = sym nested ∙ sym same ∙ is in cc)
        | inr put ↦ (let e : Direct ≡ Other = sym put ∙ is in cc)
      ]

  pub way_of : (room : ℕ) → many ≤ room → IsWay walk room
  way_of room enough = record {
    own = λ x i j.
        let r = marked_out x 0 Other ms (subst (IsAmong x) behind_first j) in
        let at : x ≡ r.place = (let e = r.there in omega (arith, e)) in
        no_other x (let e = r.within in omega (arith, e, at, marks_many)) (in_terms x i) (ap (mark_at ms) at ∙ r.has);
    room = λ x i. elim (among_either x (marked_from 0 Nested ms) (marked_from 0 Other ms) (subst (IsAmong x) way.order i)) [
      | inl j ↦ (let r = marked_out x 0 Nested ms j in let e = r.there in let f = r.within in omega (arith, e, f, marks_many, enough))
      | inr j ↦ (let r = marked_out x 0 Other ms j in let e = r.there in let f = r.within in omega (arith, e, f, marks_many, enough))
    ];
  }

  -- the other variables are those that are bound
  pub bound_else : (x : ℕ) → x < many → (IsAmong x walk.order.items → ⊥) → IsAmong x (bound_in (directs n ts))
  bound_else x inside out = by (mark_at ms x) refl
    where
      long : x < length ms
      long = omega (arith, inside, marks_many)

      at_first : (m : Mark) → mark_at ms x ≡ m → IsAmong x (marked_from 0 m ms)
      at_first m is = let same : 0 + x ≡ x = omega arith in subst (λ (y : ℕ). IsAmong y (marked_from 0 m ms)) same (marked_in x 0 m ms long is)

      by : (m : Mark) → mark_at ms x ≡ m → IsAmong x (bound_in (directs n ts))
      by Other is =
          absurd (out (subst (IsAmong x) (sym way.order) (among_right x (marked_from 0 Nested ms) (marked_from 0 Other ms) (at_first Other is))))
      by Nested is =
          absurd (out (subst (IsAmong x) (sym way.order) (among_left x (marked_from 0 Nested ms) (marked_from 0 Other ms) (at_first Nested is))))
      by Direct is = elim (direct_of n ts (all_nested_in ts (replicate many Other)) x is) [
        | inl i ↦ i
        | inr e ↦ elim (all_nested_or ts (replicate many Other) x) [
          | inl same ↦ absurd (let f : Direct ≡ Other = sym e ∙ same ∙ others_at_first many x in cc)
          | inr put ↦ absurd (let f : Direct ≡ Nested = sym e ∙ put in cc)
        ]
      ]

-- the elements of arguments that are variables, by the cell
module _ (w : World) (es : List TrailEntry) (e : Assignment) (n : ℕ) (some : 0 < n) where
  abbrev AreElements : ℕ → List (ℕ × ℕ) → Type 0
  AreElements place ds = AllByRecursion (λ (d : ℕ × ℕ). element_of n place d.1 ≡ e d.0) ds

  many_seen : (ts : Trees) (vs : List ℕ) → all_seen w es e ts ≡ Some vs → length vs ≡ count_of ts
  many_seen none vs h = ap (λ (xs : List ℕ). length xs) (sym (same_Some _ _ h))
  many_seen (more t ts) vs h =
      let j = joined_some (seen w es e t) (all_seen w es e ts) vs h in
      ap (λ (xs : List ℕ). length xs) j.1.1.2 ∙ ap suc (many_seen ts j.1.0 j.1.1.1)

  -- the element of one argument, a number of cells before it, and those behind it
  element_here : (place a v m rest : ℕ) → place ≡ (a * n + v) * n ^ m + rest → rest < n ^ m → v < n → n ^ m < 2 ^ 32 → element_of n place (step_of n m) ≡ v
  element_here place a v m rest is small below few =
      let power : 0 < n ^ m = one-le-pow m n some in
      let step : step_of n m ≡ n ^ m = ap (λ (b : Bool). if b then n ^ m else 0) (lt-ltb (n ^ m) (2 ^ 32) few) in
      ap (element_of n place) step ∙ ap (λ (b : Bool). if b then place / n ^ m % n else 0) (lt-ltb 0 (n ^ m) power)
      ∙ ap (λ (p : ℕ). p / n ^ m % n) is ∙ ap (λ (p : ℕ). p % n) (div-mul-add (a * n + v) (n ^ m) rest small) ∙ mod-mul-add a n v below

  with_element : (t : Tree) (v place m : ℕ) (ds : List (ℕ × ℕ)) → seen w es e t ≡ Some v → element_of n place (step_of n m) ≡ v → AreElements place ds → AreElements place (with_step t (step_of n m) ds)
  with_element (var x) v place m ds is here rest = (here ∙ sym (same_Some _ _ is), rest)
  with_element (elem k) v place m ds is here rest = rest
  with_element (app s us) v place m ds is here rest = rest

  are_elements : (ts : Trees) (vs : List ℕ) (place a : ℕ) → all_seen w es e ts ≡ Some vs → AllBelow n vs → n ^ length vs < 2 ^ 32 → place ≡ a * n ^ length vs + place_from n 0 vs → AreElements place (directs n ts)
  are_elements none vs place a h below few is = tt
  are_elements (more t ts) vs place a h below few is =
      let j = joined_some (seen w es e t) (all_seen w es e ts) vs h in
      by j.0 j.1.0 j.1.1.0 j.1.1.1 (subst (AllBelow n) j.1.1.2 below) (subst (λ (xs : List ℕ). n ^ length xs < 2 ^ 32) j.1.1.2 few)
      (is ∙ ap (λ (xs : List ℕ). a * n ^ length xs + place_from n 0 xs) j.1.1.2)
      (λ us b i small room at. are_elements ts us place b i small room at)
    where
      joined : (v : ℕ) (us : List ℕ) (m : ℕ) → n ^ suc m ≡ n * n ^ m → place_from n 0 (v ∷ us) ≡ (0 * n + v) * n ^ m + place_from n 0 us → a * n ^ suc m + place_from n 0 (v ∷ us) ≡ (a * n + v) * n ^ m + place_from n 0 us
      joined v us m power split = rw (power, split) (grind arith)

      by : (v : ℕ) (us : List ℕ) → seen w es e t ≡ Some v → all_seen w es e ts ≡ Some us → AllBelow n (v ∷ us) → n ^ length (v ∷ us) < 2 ^ 32 → place ≡ a * n ^ length (v ∷ us) + place_from n 0 (v ∷ us)
          → ((us : List ℕ) (b : ℕ) → all_seen w es e ts ≡ Some us → AllBelow n us → n ^ length us < 2 ^ 32 → place ≡ b * n ^ length us + place_from n 0 us → AreElements place (directs n ts)) → AreElements place (directs n (more t ts))
      by v us first rest small room at go_on =
          let m = length us in
          let power : n ^ suc m ≡ n * n ^ m = pow-succ' n m in
          let fewer : 1 * n ^ m ≤ n * n ^ m = mul-le-mul_right {m = 1} {n = n} (n ^ m) some in
          let room_m : n ^ m < 2 ^ 32 = omega (arith, power, fewer, room) in
          let split : place_from n 0 (v ∷ us) ≡ (0 * n + v) * n ^ m + place_from n 0 us = place_split n (0 * n + v) us in
          let here : place ≡ (a * n + v) * n ^ m + place_from n 0 us = at ∙ joined v us m power split in
          let counted : count_of ts ≡ m = sym (many_seen ts us rest) in
          let behind : AreElements place (directs n ts) = go_on us (a * n + v) rest small.1 room_m here in
          subst (λ (k : ℕ). AreElements place (with_step t (step_of n k) (directs n ts))) (sym counted)
          (with_element t v place m (directs n ts) first (element_here place a v m (place_from n 0 us) here (place_below n us small.1) small.0 room_m) behind)

-- what variables are bound to
pub bound_to : (n place : ℕ) (ds : List (ℕ × ℕ)) (env : List ℕ) (e : Assignment) (x : ℕ) → AllByRecursion (λ (d : ℕ × ℕ). element_of n place d.1 ≡ e d.0) ds → x < length env → IsAmong x (bound_in ds) ⊎ (slice_index env x ≡ e x)
    → slice_index (bound_by n place ds env) x ≡ e x
bound_to n place [] env e x all room (inl i) = absurd i
bound_to n place [] env e x all room (inr is) = is
bound_to n place (d ∷ ds) env e x all room at = bound_to n place ds (set env d.0 (element_of n place d.1)) e x all.1 (let long = length-set env d.0 (element_of n place d.1) in omega (arith, room, long)) (by (x == d.0) refl at)
  where
    by : (b : Bool) → (x == d.0) ≡ b → IsAmong x (d.0 ∷ bound_in ds) ⊎ (slice_index env x ≡ e x) → IsAmong x (bound_in ds) ⊎ (slice_index (set env d.0 (element_of n place d.1)) x ≡ e x)
    by true t h =
        let same : x ≡ d.0 = eqb-true x d.0 t in
        inr (ap (λ (y : ℕ). slice_index (set env d.0 (element_of n place d.1)) y) same ∙ get_or-set_same env d.0 (element_of n place d.1) 0 (subst (λ (y : ℕ). y < length env) same room) ∙ all.0 ∙ ap e (sym same))
    by false t (inl (inl same)) = absurd (eqb-false x d.0 t same)
    by false t (inl (inr i)) = inl i
    by false t (inr is) = inr (get_or-set_other env d.0 x (element_of n place d.1) 0 (eqb-false x d.0 t) ∙ is)

-- the arguments of a cell, by its number
pub record IsPlacedAt (w : World) (first : ℕ) (b : Block) (k : ℕ) (vs : List ℕ) : Type 0 where
  pub many : length vs ≡ b.arity
  pub below : AllBelow w.size vs
  pub number : k ≡ first + place_from w.size 0 vs

pub placed_at : (w : World) (kind : Kind) (s first : ℕ) (b : Block) (vs : List ℕ) (k : ℕ) → found w.size w.blocks s ≡ Some (first, b) → cell_number w kind s vs ≡ Some k → IsPlacedAt w first b k vs
placed_at w kind s first b vs k is h = by (is_same_kind b.kind kind && length vs == b.arity) refl (sym (ap (number_of_cell w.size kind vs) is) ∙ h)
  where
    inner : (c : Bool) → list_all (λ x. nat_lt x w.size) vs ≡ c → length vs ≡ b.arity → option_map (λ q. first + q) (if c then Some (place_from w.size 0 vs) else None) ≡ Some k → IsPlacedAt w first b k vs
    inner true t many g = record { many = many; below = all_below w.size vs t; number = sym (same_Some _ _ g) }
    inner false t many g = absurd (none-some _ g)

    by : (c : Bool) → (is_same_kind b.kind kind && length vs == b.arity) ≡ c → (if c then option_map (λ q. first + q) (if list_all (λ x. nat_lt x w.size) vs then Some (place_from w.size 0 vs) else None) else None) ≡ Some k → IsPlacedAt w first b k vs
    by true t g = inner (list_all (λ x. nat_lt x w.size) vs) refl (eqb-true (length vs) b.arity (both_true (is_same_kind b.kind kind) (length vs == b.arity) t).1) g
    by false t g = absurd (none-some _ g)

-- so each variable that is bound has the element with which the occurrence is the cell
pub bound_elements : (w : World) (es : List TrailEntry) (e : Assignment) (kind : Kind) (s first : ℕ) (b : Block) (ts : Trees) (k : ℕ) → 0 < w.size → many_cells w < 2 ^ 32 → found w.size w.blocks s ≡ Some (first, b)
    → cell_seen w es e kind s ts ≡ Some k → AllByRecursion (λ (d : ℕ × ℕ). element_of w.size (k - first) d.1 ≡ e d.0) (directs w.size ts)
bound_elements w es e kind s first b ts k some few is h =
    option_and_then_some (cell_number w kind s) (all_seen w es e ts) k h
    (λ vs i j.
    let p = placed_at w kind s first b vs k is j in
    let end = (found_within w.size 0 w.blocks s (first, b) is).1 in
    let same : w.size ^ length vs ≡ w.size ^ b.arity = ap (λ (a : ℕ). w.size ^ a) p.many in
    let number = p.number in
    let place : k - first ≡ place_from w.size 0 vs = omega (arith, number) in
    let zeros : 0 * w.size ^ length vs + place_from w.size 0 vs ≡ place_from w.size 0 vs = grind arith in
    are_elements w es e w.size some ts vs (k - first) 0 i p.below (omega (arith, end, same, few)) (place ∙ sym zeros))
