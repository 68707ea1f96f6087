-- Each later word makes what is true of what is true, and atoms stay atoms.
use Rattle.std.proofs.Common.{◌≡◌, inl, inr, ℕ, ◌<◌, Bool, true, false, not, ◌==◌, ◌&&◌, ◌||◌, IsTrue, List, [], ◌∷◌, Option, Some, None, refl, sym, ap, ◌∙◌, subst, arith}
use Rattle.std.proofs.lemmas.Bool.{or_cases, and_parts, eq-eqb, eqb-true, ne_eqb, false≢true, cases_eq}
use Rattle.std.specs.List.{list_all}
use Rattle.fol_core.specs.Free.{variables_of}
use Rattle.fol_core.specs.Literals.{ClauseTree}
use Rattle.fol_core.specs.Meaning.{Meaning}
use Rattle.fol_core.specs.Substitutions.{Substitution, substitute}
use Rattle.fol_core.specs.Truth.{Assignment}
use Rattle.fol_core.specs.Tree.{Tree, var, elem, app, none, more}
use Rattle.substitutions.specs.Atoms.{IsAtom, AreAtoms}
use Rattle.substitutions.specs.Instances.{substitute_clause}
use Rattle.substitutions.specs.Occurring.{has_variable}
use Rattle.substitutions.specs.Paths.{replaced}
use Rattle.derivation.specs.Equations.{equation, is_equation, left_of, right_of, below, is_there}
use Rattle.derivation.specs.Later.{LaterWord, flipped, merged, reflexive, unit_deleted, rewritten, later_fits, Leads, is_unit, is_rule_equation}
use Rattle.derivation.specs.Places.{has_literal, has_place, atom_at, are_opposite}
use Rattle.derivation.specs.Words.{only_of, is_one_clause}
use Rattle.derivation.proofs.PlaceLemmas.{true_at, among_others, stays, at_sign, with_atom_true, opposite_false, others_atoms, with_atom_atoms, atom_placed, at_place, holds_option}
use Rattle.derivation.proofs.RuleSound.{equation_true, replaced_atom, one_parent}
use Rattle.derivation.proofs.Values.{true_in, val, atom_true}

-- an equation with terms put in
pub equation_put : (s : Substitution) (t : Tree) → IsTrue (is_equation t) → IsTrue (is_equation (substitute s t))
equation_put s (app r none) h = h
equation_put s (app r (more u none)) h = h
equation_put s (app r (more u (more v none))) h = h
equation_put s (app r (more u (more v (more w ts)))) h = h
equation_put s (var x) h = absurd (false≢true h)
equation_put s (elem k) h = h

pub left_put : (s : Substitution) (t : Tree) → IsTrue (is_equation t) → left_of (substitute s t) ≡ substitute s (left_of t)
left_put s (app r none) h = absurd (false≢true h)
left_put s (app r (more u ts)) h = refl
left_put s (var x) h = absurd (false≢true h)
left_put s (elem k) h = absurd (false≢true h)

pub right_put : (s : Substitution) (t : Tree) → IsTrue (is_equation t) → right_of (substitute s t) ≡ substitute s (right_of t)
right_put s (app r none) h = absurd (false≢true h)
right_put s (app r (more u none)) h = absurd (false≢true h)
right_put s (app r (more u (more v ts))) h = refl
right_put s (var x) h = absurd (false≢true h)
right_put s (elem k) h = absurd (false≢true h)

-- the first literal of an instance
pub first_put : (s : Substitution) (c : ClauseTree) (sign : Bool) → has_literal sign (substitute_clause s c) 0 ≡ has_literal sign c 0
first_put s [] sign = refl
first_put s (l ∷ c) sign = refl

pub first_atom_put : (s : Substitution) (c : ClauseTree) → IsTrue (is_unit c) → atom_at (substitute_clause s c) 0 ≡ substitute s (atom_at c 0)
first_atom_put s [] h = absurd (false≢true h)
first_atom_put s (l ∷ c) h = refl

module _ (A : Tree → Bool) where
  -- a unit that is true is so at its one place
  pub unit_true : (s : Substitution) (c : ClauseTree) → IsTrue (is_unit c) → IsTrue (true_in A (substitute_clause s c)) → IsTrue (true_at A (substitute_clause s c) 0)
  unit_true s [] u h = absurd (false≢true u)
  unit_true s (l ∷ []) u h = elim (or_cases (true_at A (substitute_clause s (l ∷ [])) 0) false h) [ inl j ↦ j | inr j ↦ absurd (false≢true j) ]
  unit_true s (l ∷ k ∷ c) u h = absurd (false≢true u)

pub opposite_put : (c : ClauseTree) (a : ℕ) (s : Substitution) (d : ClauseTree) → IsTrue (are_opposite c a d 0) → IsTrue (are_opposite c a (substitute_clause s d) 0)
opposite_put c a s d h =
    ap (λ b. (has_literal true c a && b) || (has_literal false c a && has_literal true (substitute_clause s d) 0)) (first_put s d false)
    ∙ ap (λ b. (has_literal true c a && has_literal false d 0) || (has_literal false c a && b)) (first_put s d true) ∙ h

module _ (m : Meaning) (g : ℕ → ℕ) (e : Assignment) where
  -- all instances of the clauses are true
  abbrev pub InstancesTrue : List ClauseTree → Type 0
  InstancesTrue [] = Unit {0}
  InstancesTrue (c ∷ cs) = ((s : Substitution) → IsTrue (true_in (atom_true m g e) (substitute_clause s c))) × InstancesTrue cs

module _ (m : Meaning) (g : ℕ → ℕ) (e : Assignment) where
  -- the one instance of its parent that a word uses is true
  abbrev pub UsedIsTrue : (w : LaterWord) (c d : ClauseTree) (ps : List ClauseTree) → Leads w c ps d → Type 0
  UsedIsTrue (flipped a) c d ps leads = Unit {0}
  UsedIsTrue (merged a) c d ps leads = Unit {0}
  UsedIsTrue (reflexive a) c d ps leads = Unit {0}
  UsedIsTrue (unit_deleted a n) c d ps leads = IsTrue (true_in (atom_true m g e) (substitute_clause leads.0.0 (only_of ps)))
  UsedIsTrue (rewritten n a path) c d ps leads = IsTrue (true_in (atom_true m g e) (substitute_clause leads.0 (only_of ps)))

module _ (m : Meaning) (g : ℕ → ℕ) (e : Assignment) where
  only_true : (ps : List ClauseTree) → IsTrue (is_one_clause ps) → InstancesTrue m g e ps → (s : Substitution) → IsTrue (true_in (atom_true m g e) (substitute_clause s (only_of ps)))
  only_true ps one all = one_parent (λ cs. InstancesTrue m g e cs → (s : Substitution) → IsTrue (true_in (atom_true m g e) (substitute_clause s (only_of cs)))) (λ c h. h.0) ps one all

  eqb_turned : (x y : ℕ) → (x == y) ≡ (y == x)
  eqb_turned x y = elim (cases_eq x y) [
    | inl same ↦ eq-eqb x y same ∙ sym (eq-eqb y x (sym same))
    | inr apart ↦ ne_eqb x y apart ∙ sym (ne_eqb y x (λ h. apart (sym h)))
  ]

  -- one word, by cases
  pub word_sound_at : (w : LaterWord) (c d : ClauseTree) (ps : List ClauseTree) → IsTrue (later_fits w c ps) → (leads : Leads w c ps d)
      → IsTrue (true_in (atom_true m g e) c) → UsedIsTrue m g e w c d ps leads → IsTrue (true_in (atom_true m g e) d)
  word_sound_at (flipped a) c d ps fits leads h used =
      let p = and_parts (has_place c a) (is_equation (atom_at c a)) fits in
      subst (λ d. IsTrue (true_in (atom_true m g e) d)) (sym leads)
      (with_atom_true (atom_true m g e) c a (equation (right_of (atom_at c a)) (left_of (atom_at c a)))
      (eqb_turned (val m g e (right_of (atom_at c a))) (val m g e (left_of (atom_at c a))) ∙ sym (equation_true m g e (atom_at c a) p.1))
      ∙ h)
  word_sound_at (merged a) c d ps fits leads h used =
      subst (λ d. IsTrue (true_in (atom_true m g e) d)) (sym leads.1)
      (elim (among_others (atom_true m g e) (λ k. k == a) c h) [
        | inl j ↦ j
        | inr p ↦
            let here : IsTrue (true_at (atom_true m g e) c a) = subst (λ k. IsTrue (true_at (atom_true m g e) c k)) (eqb-true p.0 a p.1) p.2 in
            let lt : leads.0.0 < a = leads.0.1 in
            stays (atom_true m g e) (λ k. k == a) c leads.0.0 (ne_eqb leads.0.0 a (λ same. let e : leads.0.0 ≡ a = same in absurd (omega (arith, e, lt))))
            (at_place (atom_true m g e) c leads.0.0 ∙ ap (holds_option (atom_true m g e)) leads.0.2 ∙ sym (at_place (atom_true m g e) c a) ∙ here)
      ])
  word_sound_at (reflexive a) c d ps fits leads h used =
      let p = and_parts (has_literal false c a) (is_equation (atom_at c a)) fits in
      subst (λ d. IsTrue (true_in (atom_true m g e) d)) (sym leads.1)
      (elim (among_others (atom_true m g e) (λ k. k == a) c h) [
        | inl j ↦ j
        | inr q ↦ absurd (false≢true (
            sym (ap not (equation_true m g e (atom_at c a) p.1 ∙ eq-eqb (val m g e (left_of (atom_at c a))) (val m g e (right_of (atom_at c a))) (ap (val m g e) leads.0)))
            ∙ sym (at_sign (atom_true m g e) false c a p.0) ∙ subst (λ k. IsTrue (true_at (atom_true m g e) c k)) (eqb-true q.0 a q.1) q.2))
      ])
  word_sound_at (unit_deleted a n) c d ps fits leads h used =
      let p = and_parts (is_one_clause ps) (is_unit (only_of ps) && are_opposite c a (only_of ps) 0) fits in
      let q = and_parts (is_unit (only_of ps)) (are_opposite c a (only_of ps) 0) p.1 in
      let s = leads.0.0 in
      subst (λ d. IsTrue (true_in (atom_true m g e) d)) (sym leads.1)
      (elim (among_others (atom_true m g e) (λ k. k == a) c h) [
        | inl j ↦ j
        | inr r ↦ absurd (opposite_false (atom_true m g e) c a (substitute_clause s (only_of ps)) 0 (opposite_put c a s (only_of ps) q.1)
            (sym leads.0.1 ∙ sym (first_atom_put s (only_of ps) q.0))
            (subst (λ k. IsTrue (true_at (atom_true m g e) c k)) (eqb-true r.0 a r.1) r.2)
            (unit_true (atom_true m g e) s (only_of ps) q.0 used))
      ])
  word_sound_at (rewritten n a path) c d ps fits leads h used =
      let p0 = and_parts (is_one_clause ps) (is_unit (only_of ps) && (has_literal true (only_of ps) 0 && (is_rule_equation (atom_at (only_of ps) 0) && (has_place c a && is_there (below (atom_at c a) path))))) fits in
      let p1 = and_parts (is_unit (only_of ps)) (has_literal true (only_of ps) 0 && (is_rule_equation (atom_at (only_of ps) 0) && (has_place c a && is_there (below (atom_at c a) path)))) p0.1 in
      let p2 = and_parts (has_literal true (only_of ps) 0) (is_rule_equation (atom_at (only_of ps) 0) && (has_place c a && is_there (below (atom_at c a) path))) p1.1 in
      let p3 = and_parts (is_rule_equation (atom_at (only_of ps) 0)) (has_place c a && is_there (below (atom_at c a) path)) p2.1 in
      let p4 = and_parts (is_equation (atom_at (only_of ps) 0)) (list_all (λ x. has_variable x (left_of (atom_at (only_of ps) 0))) (variables_of (right_of (atom_at (only_of ps) 0)))) p3.0 in
      let s = leads.0 in
      let rule = atom_at (only_of ps) 0 in
      let here : IsTrue (true_at (atom_true m g e) (substitute_clause s (only_of ps)) 0) = unit_true (atom_true m g e) s (only_of ps) p1.0 used in
      let holding : IsTrue (atom_true m g e (substitute s rule)) =
      ap (atom_true m g e) (sym (first_atom_put s (only_of ps) p1.0))
      ∙ sym (at_sign (atom_true m g e) true (substitute_clause s (only_of ps)) 0 (first_put s (only_of ps) true ∙ p2.0)) ∙ here in
      let equal : val m g e (substitute s (left_of rule)) ≡ val m g e (substitute s (right_of rule)) =
      ap (val m g e) (sym (left_put s rule p4.0))
      ∙ eqb-true (val m g e (left_of (substitute s rule))) (val m g e (right_of (substitute s rule))) (sym (equation_true m g e (substitute s rule) (equation_put s rule p4.0)) ∙ holding)
      ∙ ap (val m g e) (right_put s rule p4.0) in
      subst (λ d. IsTrue (true_in (atom_true m g e) d)) (sym leads.2)
      (with_atom_true (atom_true m g e) c a (replaced (atom_at c a) path (substitute s (right_of rule)))
      (replaced_atom m g e (atom_at c a) path (substitute s (left_of rule)) (substitute s (right_of rule)) leads.1 (sym equal))
      ∙ h)

  -- where all instances are true, so is the one that is used
  used_true : (w : LaterWord) (c d : ClauseTree) (ps : List ClauseTree) → IsTrue (later_fits w c ps) → (leads : Leads w c ps d)
      → InstancesTrue m g e ps → UsedIsTrue m g e w c d ps leads
  used_true (flipped a) c d ps fits leads all = tt
  used_true (merged a) c d ps fits leads all = tt
  used_true (reflexive a) c d ps fits leads all = tt
  used_true (unit_deleted a n) c d ps fits leads all =
      only_true ps (and_parts (is_one_clause ps) (is_unit (only_of ps) && are_opposite c a (only_of ps) 0) fits).0 all leads.0.0
  used_true (rewritten n a path) c d ps fits leads all =
      only_true ps (and_parts (is_one_clause ps) (is_unit (only_of ps) && (has_literal true (only_of ps) 0 && (is_rule_equation (atom_at (only_of ps) 0) && (has_place c a && is_there (below (atom_at c a) path))))) fits).0 all leads.0

  pub word_sound : (w : LaterWord) (c d : ClauseTree) (ps : List ClauseTree) → IsTrue (later_fits w c ps) → Leads w c ps d
      → IsTrue (true_in (atom_true m g e) c) → InstancesTrue m g e ps → IsTrue (true_in (atom_true m g e) d)
  word_sound w c d ps fits leads h all = word_sound_at w c d ps fits leads h (used_true w c d ps fits leads all)

-- a replacement in an atom is an atom
pub replaced_is_atom : (t : Tree) (path : List ℕ) (u new : Tree) → below t path ≡ Some u → IsAtom t → IsAtom (replaced t path new)
replaced_is_atom t [] u new h atom = cc
replaced_is_atom (var x) (k ∷ path) u new h atom = cc
replaced_is_atom (elem x) (k ∷ path) u new h atom = cc
replaced_is_atom (app r ts) (k ∷ path) u new h atom = tt

pub there_is : (o : Option Tree) → IsTrue (is_there o) → (u : Tree) × (o ≡ Some u)
there_is None h = absurd (false≢true h)
there_is (Some u) h = (u, refl)

-- what a word makes of atoms is made of atoms
pub word_atoms : (w : LaterWord) (c d : ClauseTree) (ps : List ClauseTree) → IsTrue (later_fits w c ps) → Leads w c ps d → AreAtoms c → AreAtoms d
word_atoms (flipped a) c d ps fits leads atoms = subst AreAtoms (sym leads) (with_atom_atoms c a (equation (right_of (atom_at c a)) (left_of (atom_at c a))) tt atoms)
word_atoms (merged a) c d ps fits leads atoms = subst AreAtoms (sym leads.1) (others_atoms (λ k. k == a) c atoms)
word_atoms (reflexive a) c d ps fits leads atoms = subst AreAtoms (sym leads.1) (others_atoms (λ k. k == a) c atoms)
word_atoms (unit_deleted a n) c d ps fits leads atoms = subst AreAtoms (sym leads.1) (others_atoms (λ k. k == a) c atoms)
word_atoms (rewritten n a path) c d ps fits leads atoms =
    let p0 = and_parts (is_one_clause ps) (is_unit (only_of ps) && (has_literal true (only_of ps) 0 && (is_rule_equation (atom_at (only_of ps) 0) && (has_place c a && is_there (below (atom_at c a) path))))) fits in
    let p1 = and_parts (is_unit (only_of ps)) (has_literal true (only_of ps) 0 && (is_rule_equation (atom_at (only_of ps) 0) && (has_place c a && is_there (below (atom_at c a) path)))) p0.1 in
    let p2 = and_parts (has_literal true (only_of ps) 0) (is_rule_equation (atom_at (only_of ps) 0) && (has_place c a && is_there (below (atom_at c a) path))) p1.1 in
    let p3 = and_parts (is_rule_equation (atom_at (only_of ps) 0)) (has_place c a && is_there (below (atom_at c a) path)) p2.1 in
    let p4 = and_parts (has_place c a) (is_there (below (atom_at c a) path)) p3.1 in
    subst AreAtoms (sym leads.2) (with_atom_atoms c a (replaced (atom_at c a) path (substitute leads.0 (right_of (atom_at (only_of ps) 0))))
    (replaced_is_atom (atom_at c a) path (substitute leads.0 (left_of (atom_at (only_of ps) 0))) (substitute leads.0 (right_of (atom_at (only_of ps) 0))) leads.1 (atom_placed c a p4.0 atoms)) atoms)
