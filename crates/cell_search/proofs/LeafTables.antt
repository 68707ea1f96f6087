-- The tables of leaves are solutions, different ones, and cover all.
use Rattle.std.proofs.Common.{◌≡◌, ℕ, zero, suc, ◌<◌, ◌≤◌, ◌==◌, ◌||◌, Bool, true, false, if◌then◌else◌, List, [], ◌∷◌, map, Option, None, Some, inl, inr, refl, sym, ap, ◌∙◌, subst, arith}
use Rattle.std.specs.List.{AllByRecursion}
use Rattle.std.proofs.lemmas.Bool.{cases_lt, eqb-true, eqb-false, ltb-true}
use Rattle.std.proofs.lemmas.Option.{none-some, same_Some}
use Rattle.fol_core.specs.Literals.{ClauseTree, AreTrueClauses, is_true_clause, is_true_literal}
use Rattle.fol_core.specs.Meaning.{Meaning}
use Rattle.fol_core.specs.Truth.{Assignment}
use Rattle.mace_cells.specs.Trails.{value_in}
use Rattle.mace_cells.specs.World.{World, Solves, AreAlike, cell_of, many_cells}
use Rattle.mace_cells.specs.declared.trail.TrailEntry.{TrailEntry}
use Rattle.mace_ground.specs.Cells.{value_at}
use Rattle.mace_search.specs.Complete.{AreDifferent, IsNewModel}
use Rattle.model_tables.specs.Size.{bound_of}
use Rattle.model_tables.specs.Tables.{Finite, meaning_of}
use Rattle.model_tables.specs.TablesLaws.{tables_lawful}
use Rattle.plain_search.proofs.Ending.{leaves_are_full}
use Rattle.plain_search.proofs.Meeting.{leaves_cover}
use Rattle.plain_search.proofs.Parting.{leaf_below, leaves_differ_in_cells}
use Rattle.plain_search.proofs.Solving.{leaves_solve}
use Rattle.plain_search.specs.Lefts as plain
use Rattle.plain_search.specs.Lefts.{ValuesLeft, IsAmong, only_value}
use Rattle.plain_search.specs.Parting.{ArePartedIn, HaveSameValues, meaning_at}
use Rattle.plain_search.specs.PlainLaws.{IsOneOf}
use Rattle.plain_search.specs.Trying.{leaves}
use Rattle.cell_search.proofs.Boarding.{entry}
use Rattle.cell_search.proofs.Bounding.{arguments_below}
use Rattle.cell_search.proofs.Crossing.{range_below}
use Rattle.cell_search.proofs.Filling.{literal_there}
use Rattle.cell_search.proofs.Instances.{clauses_fit}
use Rattle.cell_search.proofs.Leafing.{same_finite}
use Rattle.cell_search.proofs.Settling.{only_in}
use Rattle.cell_search.proofs.Sounding.{literal_so}
use Rattle.cell_search.proofs.Tabling.{tables_extend, tables_whole, tables_within}
use Rattle.cell_search.proofs.Using.{bound_tried}
use Rattle.cell_search.specs.Finites.{AreTablesFor, finite_at, finite_of, meaning_by_cells}
use Rattle.cell_search.specs.Full.{IsFull}
use Rattle.cell_search.specs.Leaves.{LeafTablesCover, LeafTablesDiffer, LeafTablesSolve}
use Rattle.cell_search.specs.Losses.{Extends}
use Rattle.cell_search.specs.Searchable.{HasAllCells, IsClauseOfCells}

-- steps that give so many cells these values
abbrev with_entry : ℕ → Option ℕ → List TrailEntry → List TrailEntry
with_entry n None es = es
with_entry n (Some v) es = entry n v false 0 ∷ es

abbrev entries_of : (ℕ → Option ℕ) → ℕ → List TrailEntry
entries_of f zero = []
entries_of f (suc n) = with_entry n (f n) (entries_of f n)

none_from : (f : ℕ → Option ℕ) (n k : ℕ) → n ≤ k → value_in (entries_of f n) k ≡ None
none_from f zero k past = refl
none_from f (suc n) k past = by (f n) (none_from f n k (omega (arith, past)))
  where
    by : (o : Option ℕ) → value_in (entries_of f n) k ≡ None → value_in (with_entry n o (entries_of f n)) k ≡ None
    by None rest = rest
    by (Some v) rest = at (k == n) refl
      where
        at : (b : Bool) → (k == n) ≡ b → (if b then Some v else value_in (entries_of f n) k) ≡ None
        at true e = let same = eqb-true k n e in absurd (omega (arith, same, past))
        at false e = rest

value_of_entries : (f : ℕ → Option ℕ) (n k : ℕ) → k < n → value_in (entries_of f n) k ≡ f k
value_of_entries f zero k less = absurd (omega (arith, less))
value_of_entries f (suc n) k less = by (f n) refl (λ h. value_of_entries f n k h)
  where
    by : (o : Option ℕ) → f n ≡ o → (k < n → value_in (entries_of f n) k ≡ f k) → value_in (with_entry n o (entries_of f n)) k ≡ f k
    by None e rest = elim (cases_lt k n) [
      | inl earlier ↦ rest earlier
      | inr last ↦ (let same : n ≡ k = omega (arith, less, last) in none_from f n k last ∙ sym e ∙ ap f same)
    ]
    by (Some v) e rest = at (k == n) refl
      where
        at : (b : Bool) → (k == n) ≡ b → (if b then Some v else value_in (entries_of f n) k) ≡ f k
        at true s = sym e ∙ ap f (sym (eqb-true k n s))
        at false s = let other = eqb-false k n s in rest (omega (arith, less, other))

only_among : (us : List ℕ) (v x : ℕ) → only_value us ≡ Some v → IsAmong x us → x ≡ v
only_among [] v x one i = absurd i
only_among (u ∷ []) v x one (inl same) = same ∙ same_Some u v one
only_among (u ∷ []) v x one (inr none) = absurd none
only_among (u ∷ y ∷ us) v x one i = absurd (none-some v one)

-- two interpretations with the values of a table that gives each cell one make the same clauses true
module _ (w : World) (es : List TrailEntry) (full : IsFull w es) (m u : Meaning) (first : Extends w m es) (second : Extends w u es) where
  same_truth : (e : Assignment) → ((x : ℕ) → e x < w.size) → (c : ClauseTree) → IsClauseOfCells w c → is_true_clause m e c ≡ is_true_clause u e c
  same_truth e below [] fits = refl
  same_truth e below (l ∷ c) fits =
      let b = literal_there w es full e below l fits.0 in
      ap (λ (t : Bool). t || is_true_clause m e c) (literal_so w m es e first l b.0 b.1 ∙ sym (literal_so w u es e second l b.0 b.1))
      ∙ ap (λ (t : Bool). is_true_literal u e l || t) (same_truth e below c fits.1)

  same_clauses : ((x : ℕ) → m.within x ≡ u.within x) → ((x : ℕ) → u.within x ≡ true → x < w.size) → (cs : List ClauseTree) → AllByRecursion (IsClauseOfCells w) cs → AreTrueClauses m cs → AreTrueClauses u cs
  same_clauses alike small [] fits h = tt
  same_clauses alike small (c ∷ cs) fits h = (
    (λ e within. sym (same_truth e (λ x. small (e x) (within x)) c fits.0) ∙ h.0 e (λ x. alike (e x) ∙ within x)),
    same_clauses alike small cs fits.1 h.1,
  )

-- a leaf, as steps that give each cell its value
module _ (w : World) (cells : HasAllCells w) (p : ValuesLeft) (one : IsOneOf p (leaves w)) where
  abbrev value_for : ℕ → Option ℕ
  value_for k = only_value (p (cell_of w k))

  abbrev steps : List TrailEntry
  steps = entries_of value_for (many_cells w)

  step_at : (k : ℕ) → k < many_cells w → value_in steps k ≡ only_value (p (cell_of w k))
  step_at k few = value_of_entries value_for (many_cells w) k few

  leaf_full : IsFull w steps
  leaf_full k few =
      let v = leaves_are_full w p k cells.some (clauses_fit w w.clauses cells.clauses) one few in
      let below = (leaf_below w p cells.some one).1 (cell_of w k) v.0 (only_in (p (cell_of w k)) v.0 v.1) in
      let less = range_below 0 (bound_of w.size (cell_of w k).kind) v.0 below in
      (v.0, (step_at k few ∙ v.1, omega (arith, less)))

  same_tables : finite_of w steps ≡ finite_at w p
  same_tables = same_finite w (value_in steps) (λ k. only_value (p (cell_of w k))) step_at

  tables_have : Extends w (meaning_by_cells w steps) steps
  tables_have = tables_extend w steps cells.some cells.once leaf_full

  extends_leaf : (m : Meaning) → plain.Extends w.size m p → Extends w m steps
  extends_leaf m h k v few given =
      only_among (p (cell_of w k)) v (value_at m (cell_of w k)) (sym (step_at k few) ∙ given) (h (cell_of w k) (arguments_below w.size w.blocks k cells.some few))

  leaf_solves : Solves w (meaning_by_cells w steps)
  leaf_solves =
      let at = leaves_solve w p cells.some (clauses_fit w w.clauses cells.clauses) one in
      let within = tables_within w steps cells.some in
      record {
        size = within;
        lawful = tables_lawful (finite_of w steps);
        holds =
            same_clauses w steps leaf_full (meaning_at w p) (meaning_by_cells w steps) (extends_leaf (meaning_at w p) at.1) tables_have (λ x. at.0.size x ∙ sym (within x))
            (λ x h. ltb-true x w.size (sym (within x) ∙ h)) w.clauses cells.clauses at.0.holds;
      }

  pub leaf_tables_solve : AreTablesFor w (finite_at w p) × Solves w (meaning_of (finite_at w p))
  leaf_tables_solve = (subst (AreTablesFor w) same_tables (tables_whole w steps cells.some leaf_full), subst (λ (t : Finite). Solves w (meaning_of t)) same_tables leaf_solves)

  pub leaf_value : (k : ℕ) → k < many_cells w → Some (value_at (meaning_of (finite_at w p)) (cell_of w k)) ≡ only_value (p (cell_of w k))
  leaf_value k few =
      let v = leaf_full k few in
      ap (λ (t : Finite). Some (value_at (meaning_of t) (cell_of w k))) (sym same_tables) ∙ ap Some (tables_have k v.0 few v.1.0) ∙ sym v.1.0 ∙ step_at k few

  pub alike_leaf : (m : Meaning) → plain.Extends w.size m p → AreAlike w m (meaning_of (finite_at w p))
  alike_leaf m h k few =
      only_among (p (cell_of w k)) (value_at (meaning_of (finite_at w p)) (cell_of w k)) (value_at m (cell_of w k)) (sym (leaf_value k few)) (h (cell_of w k) (arguments_below w.size w.blocks k cells.some few))

pub leaf_tables_all_solve : LeafTablesSolve
leaf_tables_all_solve w p cells one = leaf_tables_solve w cells p one

-- tables of parted leaves are different
module _ (w : World) (cells : HasAllCells w) where
  same_values : (p q : ValuesLeft) → IsOneOf p (leaves w) → IsOneOf q (leaves w) → finite_at w p ≡ finite_at w q → HaveSameValues w p q
  same_values p q i j same k few =
      sym (leaf_value w cells p i k few) ∙ ap (λ (t : Finite). Some (value_at (meaning_of t) (cell_of w k))) same ∙ leaf_value w cells q j k few

  new_one : (p : ValuesLeft) (qs : List ValuesLeft) → IsOneOf p (leaves w) → ((q : ValuesLeft) → IsOneOf q qs → IsOneOf q (leaves w)) → ((q : ValuesLeft) → IsOneOf q qs → HaveSameValues w p q → ⊥) → IsNewModel (finite_at w p) (map (finite_at w) qs)
  new_one p [] i within apart = tt
  new_one p (q ∷ qs) i within apart = ((λ same. apart q (inl refl) (same_values p q i (within q (inl refl)) same)), new_one p qs i (λ r j. within r (inr j)) (λ r j. apart r (inr j)))

  all_new : (ps : List ValuesLeft) → ((q : ValuesLeft) → IsOneOf q ps → IsOneOf q (leaves w)) → ArePartedIn w ps → AreDifferent (map (finite_at w) ps)
  all_new [] within parted = tt
  all_new (p ∷ ps) within parted = (new_one p ps (within p (inl refl)) (λ q i. within q (inr i)) parted.0, all_new ps (λ q i. within q (inr i)) parted.1)

pub leaf_tables_differ : LeafTablesDiffer
leaf_tables_differ w cells = all_new w cells (leaves w) (λ q i. i) (leaves_differ_in_cells w cells.some)

pub leaf_tables_cover : LeafTablesCover
leaf_tables_cover w cells m solves any =
    let u = leaves_cover w (λ ds k few. bound_tried w cells ds k few) m solves tt in
    (u.0, (u.1.0, (u.1.1.0, (u.1.1.1.0, alike_leaf w cells u.1.1.0 u.1.1.1.0 u.0 u.1.1.1.1)), u.1.2))
