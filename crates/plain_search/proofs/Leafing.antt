-- Where all cells are assigned and no ground clause is a contradiction, the clauses are true.
use Rattle.std.proofs.Common.{◌≡◌, ℕ, suc, ◌<◌, ◌==◌, ◌||◌, nat_lt, Bool, true, false, not, IsTrue, if◌then◌else◌, MatchBool, List, [], ◌∷◌, length, Option, None, Some, inl, inr, refl, sym, ap, ◌∙◌, subst}
use Rattle.std.specs.Prelude.{◌⊎◌}
use Rattle.std.specs.List.{list_all}
use Rattle.std.specs.Option.{option_map, option_and_then}
use Rattle.std.proofs.lemmas.Bool.{lt-ltb}
use Rattle.fol_core.specs.Literals.{ClauseTree, equality, is_true_atom, is_true_literal, is_true_clause}
use Rattle.fol_core.specs.Meaning.{Meaning}
use Rattle.fol_core.specs.Tree.{Tree, var, elem, app, Trees, none, more, list_of}
use Rattle.fol_core.specs.Truth.{Assignment}
use Rattle.fol_core.specs.declared.symbols.Kind.{Kind}
use Rattle.fol_core.specs.declared.symbols.Kind.TheVariants.{Function, Relation}
use Rattle.mace_cells.specs.World.{World}
use Rattle.mace_ground.specs.Cells.{Cell, cell}
use Rattle.model_tables.specs.Size.{AllBelow, bound_of}
use Rattle.plain_search.proofs.Reaching.{IsIn}
use Rattle.plain_search.proofs.Sounding.{atom_so, truth_so}
use Rattle.plain_search.proofs.Stopping.{cell_there}
use Rattle.plain_search.specs.Closing.{Told, nothing, contradiction, asked_by, joins, told}
use Rattle.plain_search.specs.Fitting.{HasCells, IsOfCells, AreOfCells, IsEquationOfCells, IsAtomOfCells, IsClauseOfCells}
use Rattle.plain_search.specs.Known.{cell_for, value_left, joined, known, all_known, Side, side, cell_side, term_side, equation_sides, sides, compared, truth_known}
use Rattle.plain_search.specs.Lefts.{ValuesLeft, only_value, Extends}
use Rattle.plain_search.specs.Trying.{all_cells}

pass_below : (n : ℕ) (xs : List ℕ) → AllBelow n xs → list_all (λ x. nat_lt x n) xs ≡ true
pass_below n [] below = refl
pass_below n (x ∷ xs) below = rw (lt-ltb _ _ below.0) (pass_below n xs below.1)

-- each cell is assigned, a function's to an element
abbrev pub IsFull : World → ValuesLeft → Type 0
IsFull w p = (c : Cell) → IsIn c (all_cells w) → (v : ℕ) × ((only_value (p c) ≡ Some v) × (v < bound_of w.size c.kind))

module _ (w : World) (p : ValuesLeft) (full : IsFull w p) (e : Assignment) (elements : (x : ℕ) → e x < w.size) where
  abbrev IsKnownBelow : ℕ → Option ℕ → Type 0
  IsKnownBelow b o = (v : ℕ) × ((o ≡ Some v) × (v < b))

  cell_known : (kind : Kind) (s : ℕ) (ts : Trees) (xs : List ℕ) → all_known w.size p e ts ≡ Some xs → AllBelow w.size xs → HasCells w kind s (length xs)
      → IsKnownBelow (bound_of w.size kind) (value_left p (option_and_then (cell_for w.size kind s) (all_known w.size p e ts)))
  cell_known kind s ts xs is below has =
      let v = full (cell kind s xs) (cell_there w kind s xs has below) in
      let named : cell_for w.size kind s xs ≡ Some (cell kind s xs) = rw (pass_below w.size xs below) refl in
      (v.0, (ap (λ (o : Option (List ℕ)). value_left p (option_and_then (cell_for w.size kind s) o)) is ∙ ap (value_left p) named ∙ v.1.0, v.1.1))

  mutual
    term_known : (t : Tree) → IsOfCells w t → IsKnownBelow w.size (known w.size p e t)
    term_known (var x) h = (e x, (refl, elements x))
    term_known (elem k) h = (k, (refl, h))
    term_known (app s ts) h = let all = terms_known ts h.1 in cell_known Function s ts all.0 all.1.0 all.1.1 (subst (λ (k : ℕ). HasCells w Function s k) (sym all.1.2) h.0)

    terms_known : (ts : Trees) → AreOfCells w ts → (xs : List ℕ) × ((all_known w.size p e ts ≡ Some xs) × AllBelow w.size xs × (length xs ≡ length (list_of ts)))
    terms_known none h = ([], (refl, tt, refl))
    terms_known (more t ts) h =
        let x = term_known t h.0 in
        let xs = terms_known ts h.1 in
        (x.0 ∷ xs.0, (ap (λ (o : Option ℕ). joined o (all_known w.size p e ts)) x.1.0 ∙ ap (λ (o : Option (List ℕ)). option_map (λ ys. x.0 ∷ ys) o) xs.1.0, (x.1.1, xs.1.1), ap suc xs.1.2))

  side_known : (t : Tree) → IsOfCells w t → (v : ℕ) × ((term_side w.size p e t).value ≡ Some v)
  side_known (var x) h = (e x, refl)
  side_known (elem k) h = (k, refl)
  side_known (app s ts) h = let v = term_known (app s ts) h in (v.0, v.1.0)

  abbrev AreKnown : Side × Side → Type 0
  AreKnown q = ((v : ℕ) × (q.0.value ≡ Some v)) × ((v : ℕ) × (q.1.value ≡ Some v))

  equation_known : (ts : Trees) → IsEquationOfCells w ts → AreKnown (equation_sides w.size p e ts)
  equation_known none h = absurd h
  equation_known (more s none) h = absurd h
  equation_known (more s (more t none)) h = (side_known s h.0, side_known t h.1)
  equation_known (more s (more t (more u us))) h = absurd h

  atom_known : (t : Tree) → IsAtomOfCells w t → AreKnown (sides w.size p e t)
  atom_known (var x) h = absurd h
  atom_known (elem k) h = absurd h
  atom_known (app r ts) h = by (r == equality) h
    where
      by : (b : Bool) → MatchBool b (IsEquationOfCells w ts) (HasCells w Relation r (length (list_of ts)) × AreOfCells w ts)
          → AreKnown (if b then equation_sides w.size p e ts else (cell_side w.size p e Relation r ts, side None (Some 1)))
      by true g = equation_known ts g
      by false g =
          let all = terms_known ts g.1 in
          let v = cell_known Relation r ts all.0 all.1.0 all.1.1 (subst (λ (k : ℕ). HasCells w Relation r k) (sym all.1.2) g.0) in
          ((v.0, v.1.0), (1, refl))

  truth_there : (positive : Bool) (q : Side × Side) → AreKnown q → (b : Bool) × (truth_known positive q ≡ Some b)
  truth_there positive q h =
      let x = h.0.0 in
      let y = h.1.0 in (
        (if positive then x == y else not (x == y)),
        ap (λ (o : Option ℕ). option_map (λ b. if positive then b else not b) (compared o q.1.value)) h.0.1
            ∙ ap (λ (o : Option ℕ). option_map (λ b. if positive then b else not b) (compared (Some x) o)) h.1.1,
      )

  -- a ground clause is a contradiction, or true
  abbrev IsDecided : Meaning → ClauseTree → Type 0
  IsDecided m ls = (told w.size p e ls ≡ contradiction) ⊎ ((told w.size p e ls ≡ nothing) × IsTrue (is_true_clause m e ls))

  module _ (m : Meaning) (extended : Extends w.size m p) where
    joins_decided : (o : Option Bool) (a r : Told) (l c : Bool) (b : Bool) → o ≡ Some b → l ≡ b → (r ≡ contradiction) ⊎ ((r ≡ nothing) × IsTrue c) → (joins o a r ≡ contradiction) ⊎ ((joins o a r ≡ nothing) × IsTrue (l || c))
    joins_decided o a r l c true i j h = inr (ap (λ (x : Option Bool). joins x a r) i, ap (λ (x : Bool). x || c) j)
    joins_decided o a r l c false i j (inl h) = inl (ap (λ (x : Option Bool). joins x a r) i ∙ h)
    joins_decided o a r l c false i j (inr h) = inr (ap (λ (x : Option Bool). joins x a r) i ∙ h.0, ap (λ (x : Bool). x || c) j ∙ h.1)

    pub decided : (ls : ClauseTree) → IsClauseOfCells w ls → IsDecided m ls
    decided [] h = inl refl
    decided (l ∷ ls) h =
        let q = sides w.size p e l.atom in
        let t = truth_there l.positive q (atom_known l.atom h.0) in
        joins_decided (truth_known l.positive q) (asked_by l.positive q) (told w.size p e ls) (is_true_literal m e l) (is_true_clause m e ls) t.0 t.1
        (truth_so w.size m l.positive (is_true_atom m e l.atom) q (atom_so w.size m p extended e l.atom) t.0 t.1) (decided ls h.1)
