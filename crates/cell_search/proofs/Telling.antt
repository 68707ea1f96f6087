-- What is told by a partial table with the values of the steps is what is seen by these.
use Rattle.std.proofs.Common.{◌≡◌, ℕ, suc, ◌+◌, ◌<◌, ◌==◌, ◌&&◌, nat_lt, Bool, true, false, not, if◌then◌else◌, MatchBool, List, [], ◌∷◌, length, Option, None, Some, refl, sym, ap, ◌∙◌, subst}
use Rattle.std.specs.List.{list_all}
use Rattle.std.specs.Option.{option_map, option_and_then, option_or}
use Rattle.std.proofs.lemmas.Bool.{eq-eqb}
use Rattle.std.proofs.lemmas.Option.{same_Some}
use Rattle.fol_core.specs.Literals.{ClauseTree, equality}
use Rattle.fol_core.specs.SymbolTable.{is_same_kind}
use Rattle.fol_core.specs.Tree.{Tree, var, elem, app, Trees, none, more, list_of}
use Rattle.fol_core.specs.Truth.{Assignment}
use Rattle.fol_core.specs.declared.symbols.Kind.{Kind}
use Rattle.fol_core.specs.declared.symbols.Kind.TheVariants.{Function, Relation}
use Rattle.mace_cells.specs.Trails.{value_in}
use Rattle.mace_cells.specs.World.{World, cell_of, many_cells}
use Rattle.mace_cells.specs.declared.trail.TrailEntry.{TrailEntry}
use Rattle.mace_ground.proofs.Numbering.{by_number}
use Rattle.mace_ground.specs.Cells.{Cell, cell}
use Rattle.model_tables.specs.Tables.{place_from}
use Rattle.plain_search.proofs.Sounding.{all_below}
use Rattle.plain_search.specs.Closing.{Told, nothing, asked_for, asked_by, joins, told}
use Rattle.plain_search.specs.Fitting.{HasCells, IsOfCells, AreOfCells, IsEquationOfCells, IsAtomOfCells, IsClauseOfCells}
use Rattle.plain_search.specs.Known.{cell_for, value_left, joined, known, all_known, side, cell_side, term_side, equation_sides, sides}
use Rattle.plain_search.specs.Known as plain
use Rattle.plain_search.specs.Lefts.{ValuesLeft}
use Rattle.cell_search.proofs.Seeing.{joined_some}
use Rattle.cell_search.proofs.Sounding.{cell_named}
use Rattle.cell_search.specs.Known.{number_of_cell, cell_number, joined_seen, seen, all_seen, cell_seen, compared, equation_seen, atom_seen, literal_seen}
use Rattle.cell_search.specs.Telling.{term_number, both_of, equation_asked, atom_asked, ask_for, literal_asked, told_by, told_seen, HasValues, ToldAsSeen}

joined_is : (o : Option ℕ) (k : Option (List ℕ)) → joined o k ≡ joined_seen o k
joined_is None k = refl
joined_is (Some x) k = refl

compared_is : (o k : Option ℕ) → plain.compared o k ≡ compared o k
compared_is None k = refl
compared_is (Some x) k = refl

compared_one : (o : Option ℕ) → plain.compared o (Some 1) ≡ option_map (λ v. v == 1) o
compared_one None = refl
compared_one (Some v) = refl

same_kind : (kind : Kind) → is_same_kind kind kind ≡ true
same_kind Function = refl
same_kind Relation = refl

module _ (w : World) (es : List TrailEntry) (p : ValuesLeft) (has : HasValues w es p) (e : Assignment) where
  -- the cells of terms
  many_known : (ts : Trees) (xs : List ℕ) → all_seen w es e ts ≡ Some xs → length xs ≡ length (list_of ts)
  many_known none xs h = ap (λ (ys : List ℕ). length ys) (sym (same_Some _ _ h))
  many_known (more t ts) xs h =
      let j = joined_some (seen w es e t) (all_seen w es e ts) xs h in
      let rest = many_known ts j.1.0 j.1.1.1 in
      ap (λ (ys : List ℕ). length ys) j.1.1.2 ∙ ap suc rest

  named_cell : (kind : Kind) (s : ℕ) (xs : List ℕ) → HasCells w kind s (length xs) → cell_for w.size kind s xs ≡ option_map (cell_of w) (cell_number w kind s xs)
  named_cell kind s xs (first, (b, h)) = by (list_all (λ x. nat_lt x w.size) xs) refl
    where
      fits : (is_same_kind b.kind kind && length xs == b.arity) ≡ true
      fits = ap (λ (k : Kind). is_same_kind k kind && length xs == b.arity) h.1 ∙ ap (λ (t : Bool). t && length xs == b.arity) (same_kind kind) ∙ eq-eqb (length xs) b.arity (sym h.2)

      number_is : cell_number w kind s xs ≡ option_map (λ q. first + q) (if list_all (λ x. nat_lt x w.size) xs then Some (place_from w.size 0 xs) else None)
      number_is =
          ap (number_of_cell w.size kind xs) h.0
          ∙ ap (λ (t : Bool). if t then option_map (λ q. first + q) (if list_all (λ x. nat_lt x w.size) xs then Some (place_from w.size 0 xs) else None) else None) fits

      by : (t : Bool) → list_all (λ x. nat_lt x w.size) xs ≡ t → (if t then Some (cell kind s xs) else None) ≡ option_map (cell_of w) (cell_number w kind s xs)
      by true i =
          let there = by_number w.size w.blocks s first b xs h.0 (sym h.2) (all_below w.size xs i) in
          let same : cell_of w (first + place_from w.size 0 xs) ≡ cell kind s xs = there.1 ∙ ap (λ (k : Kind). cell k s xs) h.1 in
          sym (ap (option_map (cell_of w)) number_is
          ∙ ap (λ (t : Bool). option_map (cell_of w) (option_map (λ q. first + q) (if t then Some (place_from w.size 0 xs) else None))) i ∙ ap Some same)
      by false i =
          sym (ap (option_map (cell_of w)) number_is
          ∙ ap (λ (t : Bool). option_map (cell_of w) (option_map (λ q. first + q) (if t then Some (place_from w.size 0 xs) else None))) i)

  known_cell : (kind : Kind) (s : ℕ) (o : Option (List ℕ)) → ((xs : List ℕ) → o ≡ Some xs → HasCells w kind s (length xs))
      → option_and_then (cell_for w.size kind s) o ≡ option_map (cell_of w) (option_and_then (cell_number w kind s) o)
  known_cell kind s None cells = refl
  known_cell kind s (Some xs) cells = named_cell kind s xs (cells xs refl)

  at_number : (o : Option ℕ) → ((k : ℕ) → o ≡ Some k → k < many_cells w) → value_left p (option_map (cell_of w) o) ≡ option_and_then (value_in es) o
  at_number None few = refl
  at_number (Some k) few = has k (few k refl)

  named_value : (kind : Kind) (s : ℕ) (o : Option (List ℕ)) → ((xs : List ℕ) → o ≡ Some xs → HasCells w kind s (length xs))
      → value_left p (option_and_then (cell_for w.size kind s) o) ≡ option_and_then (value_in es) (option_and_then (cell_number w kind s) o)
  named_value kind s None cells = refl
  named_value kind s (Some xs) cells =
      ap (value_left p) (named_cell kind s xs (cells xs refl)) ∙ at_number (cell_number w kind s xs) (λ k i. (cell_named w kind s xs k i).0)

  have_cells : (kind : Kind) (s : ℕ) (ts : Trees) → HasCells w kind s (length (list_of ts)) → (xs : List ℕ) → all_seen w es e ts ≡ Some xs → HasCells w kind s (length xs)
  have_cells kind s ts cells xs i = subst (λ (k : ℕ). HasCells w kind s k) (sym (many_known ts xs i)) cells

  -- the values of terms
  mutual
    known_is : (t : Tree) → IsOfCells w t → known w.size p e t ≡ seen w es e t
    known_is (var x) h = refl
    known_is (elem k) h = refl
    known_is (app s ts) h =
        ap (λ (o : Option (List ℕ)). value_left p (option_and_then (cell_for w.size Function s) o)) (all_known_is ts h.1)
        ∙ named_value Function s (all_seen w es e ts) (have_cells Function s ts h.0)

    all_known_is : (ts : Trees) → AreOfCells w ts → all_known w.size p e ts ≡ all_seen w es e ts
    all_known_is none h = refl
    all_known_is (more t ts) h =
        ap (λ (o : Option ℕ). joined o (all_known w.size p e ts)) (known_is t h.0) ∙ ap (joined (seen w es e t)) (all_known_is ts h.1)
        ∙ joined_is (seen w es e t) (all_seen w es e ts)

  side_value : (kind : Kind) (s : ℕ) (ts : Trees) → HasCells w kind s (length (list_of ts)) → AreOfCells w ts → (cell_side w.size p e kind s ts).value ≡ option_and_then (value_in es) (cell_seen w es e kind s ts)
  side_value kind s ts cells h =
      ap (λ (o : Option (List ℕ)). value_left p (option_and_then (cell_for w.size kind s) o)) (all_known_is ts h)
      ∙ named_value kind s (all_seen w es e ts) (have_cells kind s ts cells)

  term_value : (t : Tree) → IsOfCells w t → (term_side w.size p e t).value ≡ seen w es e t
  term_value (var x) h = refl
  term_value (elem k) h = refl
  term_value (app s ts) h = side_value Function s ts h.0 h.1

  -- the truth of atoms
  equation_is : (ts : Trees) → IsEquationOfCells w ts → plain.compared (equation_sides w.size p e ts).0.value (equation_sides w.size p e ts).1.value ≡ equation_seen w es e ts
  equation_is none h = absurd h
  equation_is (more s none) h = absurd h
  equation_is (more s (more t none)) h =
      ap (λ (o : Option ℕ). plain.compared o (term_side w.size p e t).value) (term_value s h.0)
      ∙ ap (plain.compared (seen w es e s)) (term_value t h.1) ∙ compared_is (seen w es e s) (seen w es e t)
  equation_is (more s (more t (more u us))) h = absurd h

  pub atom_is : (t : Tree) → IsAtomOfCells w t → plain.compared (sides w.size p e t).0.value (sides w.size p e t).1.value ≡ atom_seen w es e t
  atom_is (var x) h = absurd h
  atom_is (elem k) h = absurd h
  atom_is (app r ts) h = by (r == equality) h
    where
      by : (b : Bool) → MatchBool b (IsEquationOfCells w ts) (HasCells w Relation r (length (list_of ts)) × AreOfCells w ts)
          → plain.compared (if b then equation_sides w.size p e ts else (cell_side w.size p e Relation r ts, side None (Some 1))).0.value (if b then equation_sides w.size p e ts else (cell_side w.size p e Relation r ts, side None (Some 1))).1.value
          ≡ (if b then equation_seen w es e ts else option_map (λ v. v == 1) (option_and_then (value_in es) (cell_seen w es e Relation r ts)))
      by true g = equation_is ts g
      by false g =
          ap (λ (o : Option ℕ). plain.compared o (Some 1)) (side_value Relation r ts g.0 g.1)
          ∙ compared_one (option_and_then (value_in es) (cell_seen w es e Relation r ts))

  -- the cells of sides
  pub side_cell : (kind : Kind) (s : ℕ) (ts : Trees) → HasCells w kind s (length (list_of ts)) → AreOfCells w ts → (cell_side w.size p e kind s ts).cell ≡ option_map (cell_of w) (cell_seen w es e kind s ts)
  side_cell kind s ts cells h =
      ap (option_and_then (cell_for w.size kind s)) (all_known_is ts h) ∙ known_cell kind s (all_seen w es e ts) (have_cells kind s ts cells)

  pub term_cell : (t : Tree) → IsOfCells w t → (term_side w.size p e t).cell ≡ option_map (cell_of w) (term_number w es e t)
  term_cell (var x) h = refl
  term_cell (elem k) h = refl
  term_cell (app s ts) h = side_cell Function s ts h.0 h.1

  -- what literals ask
  abbrev told_asked : Bool → Option (ℕ × ℕ) → Told
  told_asked positive o = told_by w (option_map (ask_for positive) o)

  one_asked : (positive : Bool) (k : Option ℕ) → asked_for positive (option_map (cell_of w) k) (Some 1) nothing ≡ told_asked positive (option_map (λ x. (x, 1)) k)
  one_asked positive None = refl
  one_asked positive (Some k) = refl

  last_asked : (positive : Bool) (k v : Option ℕ) → asked_for positive (option_map (cell_of w) k) v nothing ≡ told_asked positive (both_of k v)
  last_asked positive None v = refl
  last_asked positive (Some k) None = refl
  last_asked positive (Some k) (Some v) = refl

  both_asked : (positive : Bool) (k v j u : Option ℕ) → asked_for positive (option_map (cell_of w) k) v (asked_for positive (option_map (cell_of w) j) u nothing) ≡ told_asked positive (option_or (both_of k v) (both_of j u))
  both_asked positive None v j u = last_asked positive j u
  both_asked positive (Some k) None j u = last_asked positive j u
  both_asked positive (Some k) (Some v) j u = refl

  equation_asks : (positive : Bool) (ts : Trees) → IsEquationOfCells w ts → asked_by positive (equation_sides w.size p e ts) ≡ told_asked positive (equation_asked w es e ts)
  equation_asks positive none h = absurd h
  equation_asks positive (more s none) h = absurd h
  equation_asks positive (more s (more t none)) h =
      ap (λ (o : Option Cell). asked_for positive o (term_side w.size p e t).value (asked_for positive (term_side w.size p e t).cell (term_side w.size p e s).value nothing)) (term_cell s h.0)
      ∙ ap (λ (o : Option ℕ). asked_for positive (option_map (cell_of w) (term_number w es e s)) o (asked_for positive (term_side w.size p e t).cell (term_side w.size p e s).value nothing)) (term_value t h.1)
      ∙ ap (λ (o : Option Cell). asked_for positive (option_map (cell_of w) (term_number w es e s)) (seen w es e t) (asked_for positive o (term_side w.size p e s).value nothing)) (term_cell t h.1)
      ∙ ap (λ (o : Option ℕ). asked_for positive (option_map (cell_of w) (term_number w es e s)) (seen w es e t) (asked_for positive (option_map (cell_of w) (term_number w es e t)) o nothing)) (term_value s h.0)
      ∙ both_asked positive (term_number w es e s) (seen w es e t) (term_number w es e t) (seen w es e s)
  equation_asks positive (more s (more t (more u us))) h = absurd h

  atom_asks : (positive : Bool) (t : Tree) → IsAtomOfCells w t → asked_by positive (sides w.size p e t) ≡ told_asked positive (atom_asked w es e t)
  atom_asks positive (var x) h = absurd h
  atom_asks positive (elem k) h = absurd h
  atom_asks positive (app r ts) h = by (r == equality) h
    where
      by : (b : Bool) → MatchBool b (IsEquationOfCells w ts) (HasCells w Relation r (length (list_of ts)) × AreOfCells w ts)
          → asked_by positive (if b then equation_sides w.size p e ts else (cell_side w.size p e Relation r ts, side None (Some 1)))
          ≡ told_asked positive (if b then equation_asked w es e ts else option_map (λ k. (k, 1)) (cell_seen w es e Relation r ts))
      by true g = equation_asks positive ts g
      by false g =
          ap (λ (o : Option Cell). asked_for positive o (Some 1) nothing) (side_cell Relation r ts g.0 g.1) ∙ one_asked positive (cell_seen w es e Relation r ts)

  pub told_is : (ls : ClauseTree) → IsClauseOfCells w ls → told w.size p e ls ≡ told_seen w es e ls
  told_is [] h = refl
  told_is (l ∷ ls) h =
      ap (λ (o : Option Bool). joins (option_map (λ b. if l.positive then b else not b) o) (asked_by l.positive (sides w.size p e l.atom)) (told w.size p e ls)) (atom_is l.atom h.0)
      ∙ ap (λ (t : Told). joins (literal_seen w es e l) t (told w.size p e ls)) (atom_asks l.positive l.atom h.0)
      ∙ ap (joins (literal_seen w es e l) (told_by w (literal_asked w es e l))) (told_is ls h.1)

pub told_as_seen : ToldAsSeen
told_as_seen w es p e ls has fits = told_is w es p has e ls fits
