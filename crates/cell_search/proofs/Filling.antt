-- Where each cell has a value, each literal is known.
use Rattle.std.proofs.Common.{◌≡◌, ℕ, suc, ◌+◌, ◌<◌, ◌≤◌, ◌==◌, nat_lt, Bool, true, false, not, if◌then◌else◌, MatchBool, List, [], ◌∷◌, length, Option, Some, refl, sym, ap, ◌∙◌, subst, arith}
use Rattle.std.specs.List.{list_all}
use Rattle.std.specs.Option.{option_map, option_and_then}
use Rattle.std.proofs.lemmas.Bool.{lt-ltb}
use Rattle.std.proofs.lemmas.Bool.Decides.{nat_tests}
use Rattle.fol_core.specs.Literals.{Lit, equality}
use Rattle.fol_core.specs.SymbolTable.{is_same_kind}
use Rattle.fol_core.specs.Tree.{Tree, var, elem, app, Trees, none, more}
use Rattle.fol_core.specs.Truth.{Assignment}
use Rattle.fol_core.specs.declared.symbols.Kind.{Kind}
use Rattle.fol_core.specs.declared.symbols.Kind.TheVariants.{Function, Relation}
use Rattle.mace_cells.specs.Trails.{value_in}
use Rattle.mace_cells.specs.World.{World, cell_of}
use Rattle.mace_cells.specs.declared.trail.TrailEntry.{TrailEntry}
use Rattle.mace_ground.specs.Cells.{Cell}
use Rattle.model_tables.specs.Size.{AllBelow, bound_of}
use Rattle.model_tables.specs.Tables.{place_from}
use Rattle.cell_search.specs.Known.{number_of_cell, cell_number, joined_seen, seen, all_seen, cell_seen, compared, equation_seen, atom_seen, literal_seen}
use Rattle.cell_search.specs.Searchable.{count_of, HasCells, IsOfCells, AreOfCells, IsEquationOfCells, IsAtomOfCells}
use Rattle.cell_search.specs.Losses.{decided_in}
use Rattle.cell_search.proofs.Sounding.{cell_named}
use Rattle.cell_search.specs.Full.{IsFull}

pub decided_few : (w : World) (es : List TrailEntry) → length (decided_in w es) ≤ length es
decided_few w [] = omega arith
decided_few w (e ∷ es) = by e.decided (decided_few w es)
  where
    by : (b : Bool) → length (decided_in w es) ≤ length es → length (if b then record { cell = cell_of w e.cell; value = e.value } ∷ decided_in w es else decided_in w es) ≤ suc (length es)
    by true h = omega (arith, h)
    by false h = omega (arith, h)

pass_all : (n : ℕ) (xs : List ℕ) → AllBelow n xs → list_all (λ x. nat_lt x n) xs ≡ true
pass_all n [] below = refl
pass_all n (x ∷ xs) below = rw (lt-ltb _ _ below.0) (pass_all n xs below.1)

same_kinds : (kind : Kind) → is_same_kind kind kind ≡ true
same_kinds Function = refl
same_kinds Relation = refl

eqb_same : (a : ℕ) → (a == a) ≡ true
eqb_same a = grind (arith, nat_tests)

-- a symbol that has cells has one for each list of as many elements
pub number_there : (w : World) (kind : Kind) (s : ℕ) (xs : List ℕ) → HasCells w kind s (length xs) → AllBelow w.size xs → (k : ℕ) × (cell_number w kind s xs ≡ Some k)
number_there w kind s xs (first, (b, h)) below = (
  first + place_from w.size 0 xs,
  ap (number_of_cell w.size kind xs) h.0 ∙ rw (h.1, h.2, same_kinds kind, eqb_same (length xs), pass_all w.size xs below) refl,
)

module _ (w : World) (es : List TrailEntry) (full : IsFull w es) (e : Assignment) (elements : (x : ℕ) → e x < w.size) where
  known_there : (kind : Kind) (s : ℕ) (xs : List ℕ) → HasCells w kind s (length xs) → AllBelow w.size xs → (v : ℕ) × ((option_and_then (value_in es) (cell_number w kind s xs) ≡ Some v) × (v < bound_of w.size kind))
  known_there kind s xs cells below =
      let k = number_there w kind s xs cells below in
      let named = cell_named w kind s xs k.0 k.1 in
      let v = full k.0 named.0 in
      (v.0, (ap (λ (o : Option ℕ). option_and_then (value_in es) o) k.1 ∙ v.1.0, subst (λ (c : Kind). v.0 < bound_of w.size c) (ap (λ (d : Cell). d.kind) named.1) v.1.1))

  mutual
    seen_there : (t : Tree) → IsOfCells w t → (v : ℕ) × ((seen w es e t ≡ Some v) × (v < w.size))
    seen_there (var x) p = (e x, (refl, elements x))
    seen_there (elem k) p = (k, (refl, p))
    seen_there (app s ts) p =
        let all = all_there ts p.1 in
        let v = known_there Function s all.0 (subst (λ (n : ℕ). HasCells w Function s n) (sym all.1.2) p.0) all.1.1 in
        (v.0, (ap (λ (o : Option (List ℕ)). option_and_then (value_in es) (option_and_then (cell_number w Function s) o)) all.1.0 ∙ v.1.0, v.1.1))

    all_there : (ts : Trees) → AreOfCells w ts → (xs : List ℕ) × ((all_seen w es e ts ≡ Some xs) × AllBelow w.size xs × (length xs ≡ count_of ts))
    all_there none p = ([], (refl, tt, refl))
    all_there (more t ts) p =
        let x = seen_there t p.0 in
        let xs = all_there ts p.1 in
        (x.0 ∷ xs.0, (ap (λ (o : Option ℕ). joined_seen o (all_seen w es e ts)) x.1.0 ∙ ap (λ (o : Option (List ℕ)). option_map (λ ys. x.0 ∷ ys) o) xs.1.0, (x.1.1, xs.1.1), ap suc xs.1.2))

  equation_there : (ts : Trees) → IsEquationOfCells w ts → (b : Bool) × (equation_seen w es e ts ≡ Some b)
  equation_there none p = absurd p
  equation_there (more s none) p = absurd p
  equation_there (more s (more t none)) p =
      let x = seen_there s p.0 in
      let y = seen_there t p.1 in
      (x.0 == y.0, ap (λ (o : Option ℕ). compared o (seen w es e t)) x.1.0 ∙ ap (λ (o : Option ℕ). option_map (λ z. x.0 == z) o) y.1.0)
  equation_there (more s (more t (more u us))) p = absurd p

  atom_there : (t : Tree) → IsAtomOfCells w t → (b : Bool) × (atom_seen w es e t ≡ Some b)
  atom_there (var x) p = absurd p
  atom_there (elem k) p = absurd p
  atom_there (app r ts) p = by (r == equality) p
    where
      by : (q : Bool) → MatchBool q (IsEquationOfCells w ts) (HasCells w Relation r (count_of ts) × AreOfCells w ts)
          → (b : Bool) × ((if q then equation_seen w es e ts else option_map (λ v. v == 1) (option_and_then (value_in es) (cell_seen w es e Relation r ts))) ≡ Some b)
      by true h = equation_there ts h
      by false h =
          let all = all_there ts h.1 in
          let v = known_there Relation r all.0 (subst (λ (n : ℕ). HasCells w Relation r n) (sym all.1.2) h.0) all.1.1 in
          (v.0 == 1, ap (λ (o : Option (List ℕ)). option_map (λ u. u == 1) (option_and_then (value_in es) (option_and_then (cell_number w Relation r) o))) all.1.0 ∙ ap (λ (o : Option ℕ). option_map (λ u. u == 1) o) v.1.0)

  pub literal_there : (l : Lit) → IsAtomOfCells w l.atom → (b : Bool) × (literal_seen w es e l ≡ Some b)
  literal_there l p =
      let b = atom_there l.atom p in
      ((if l.positive then b.0 else not b.0), ap (λ (o : Option Bool). option_map (λ c. if l.positive then c else not c) o) b.1)
