-- Values and truth where each element that is named may stand for another one.
use Rattle.std.proofs.Common.{◌≡◌, ℕ, Bool, true, false, not, ◌==◌, ◌||◌, if◌then◌else◌, IsTrue, List, [], ◌∷◌, refl, ap, ap₂, ◌∙◌}
use Rattle.std.specs.List.{list_any}
use Rattle.fol_core.specs.Tree.{Tree, var, elem, app, Trees, none, more}
use Rattle.fol_core.specs.Laws.{NamesElements, AllNameElements}
use Rattle.fol_core.specs.Literals.{Lit, literal, ClauseTree, equality, are_equal, is_true_literal, is_true_clause, IsTrueClause}
use Rattle.fol_core.specs.Meaning.{Meaning, AllWithin, IsLawful}
use Rattle.fol_core.specs.Substitutions.{Substitution, substitute, substitute_all}
use Rattle.fol_core.specs.Truth.{Assignment, IsWithin, value_of, values_of}
use Rattle.substitutions.specs.Atoms.{IsAtom, AreAtoms}
use Rattle.substitutions.specs.Instances.{substitute_clause}
use Rattle.derivation.specs.Laws.{NamesWithin}

-- a literal's truth by that of its atom
abbrev pub holds : (Tree → Bool) → Lit → Bool
holds A l = if l.positive then A l.atom else not (A l.atom)

abbrev pub true_in : (Tree → Bool) → ClauseTree → Bool
true_in A c = list_any (holds A) c

module _ (m : Meaning) (g : ℕ → ℕ) where
  abbrev mutual
    -- the value of a term, where element k stands for g k
    pub val : Assignment → Tree → ℕ
    val e (var x) = e x
    val e (elem k) = g k
    val e (app f ts) = m.function f (vals e ts)

    pub vals : Assignment → Trees → List ℕ
    vals e none = []
    vals e (more t ts) = val e t ∷ vals e ts

  abbrev pub atom_true : Assignment → Tree → Bool
  atom_true e (app r ts) = if r == equality then are_equal (vals e ts) else m.relation r (vals e ts)
  atom_true e t = false

module _ (m : Meaning) (g : ℕ → ℕ) where
  -- the elements of the terms that stand for variables
  abbrev pub vals_of : Assignment → Substitution → Assignment
  vals_of e s = λ x. val m g e (s x)

  mutual
    pub val_put : (e : Assignment) (s : Substitution) (t : Tree) → val m g e (substitute s t) ≡ val m g (vals_of e s) t
    val_put e s (var x) = refl
    val_put e s (elem k) = refl
    val_put e s (app f ts) = ap (m.function f) (vals_put e s ts)

    pub vals_put : (e : Assignment) (s : Substitution) (ts : Trees) → vals m g e (substitute_all s ts) ≡ vals m g (vals_of e s) ts
    vals_put e s none = refl
    vals_put e s (more t ts) = ap₂ (λ v vs. v ∷ vs) (val_put e s t) (vals_put e s ts)

  -- a literal's truth by its arguments' values
  abbrev pub by_vals : Bool → ℕ → List ℕ → Bool
  by_vals positive r xs =
      let b = if r == equality then are_equal xs else m.relation r xs in
      if positive then b else not b

  literal_put : (e : Assignment) (s : Substitution) (positive : Bool) (t : Tree) → IsAtom t
      → holds (atom_true m g e) (literal positive (substitute s t)) ≡ holds (atom_true m g (vals_of e s)) (literal positive t)
  literal_put e s positive (var x) h = absurd h
  literal_put e s positive (elem k) h = refl
  literal_put e s positive (app r ts) h = ap (by_vals positive r) (vals_put e s ts)

  -- an instance is true where the clause is so of the terms' values
  pub clause_put : (e : Assignment) (s : Substitution) (c : ClauseTree) → AreAtoms c → true_in (atom_true m g e) (substitute_clause s c) ≡ true_in (atom_true m g (vals_of e s)) c
  clause_put e s [] h = refl
  clause_put e s (l ∷ c) h = ap₂ (λ a b. a || b) (literal_put e s l.positive l.atom h.0) (clause_put e s c h.1)

-- an element within, for each number
abbrev pub inside : (m : Meaning) → IsLawful m → ℕ → ℕ
inside m lawful k = if m.within k then k else lawful.element.0

module _ (m : Meaning) (lawful : IsLawful m) where
  inside_within : (k : ℕ) → IsTrue (m.within (inside m lawful k))
  inside_within k = by (m.within k) refl
    where
      by : (b : Bool) → m.within k ≡ b → IsTrue (m.within (if b then k else lawful.element.0))
      by true e = e
      by false e = lawful.element.1

  inside_same : (k : ℕ) → IsTrue (m.within k) → inside m lawful k ≡ k
  inside_same k h = ap (λ b. if b then k else lawful.element.0) h

  mutual
    -- each value is within
    pub val_within : (e : Assignment) → IsWithin m e → (t : Tree) → IsTrue (m.within (val m (inside m lawful) e t))
    val_within e w (var x) = w x
    val_within e w (elem k) = inside_within k
    val_within e w (app f ts) = lawful.closed f (vals m (inside m lawful) e ts) (vals_within e w ts)

    vals_within : (e : Assignment) → IsWithin m e → (ts : Trees) → AllWithin m (vals m (inside m lawful) e ts)
    vals_within e w none = tt
    vals_within e w (more t ts) = (val_within e w t, vals_within e w ts)

  mutual
    -- and the usual one where the elements named are within
    val_is : (e : Assignment) (t : Tree) → NamesElements m t → val m (inside m lawful) e t ≡ value_of m e t
    val_is e (var x) h = refl
    val_is e (elem k) h = inside_same k h
    val_is e (app f ts) h = ap (m.function f) (vals_are e ts h)

    pub vals_are : (e : Assignment) (ts : Trees) → AllNameElements m ts → vals m (inside m lawful) e ts ≡ values_of m e ts
    vals_are e none h = refl
    vals_are e (more t ts) h = ap₂ (λ v vs. v ∷ vs) (val_is e t h.0) (vals_are e ts h.1)

  literal_is : (e : Assignment) (positive : Bool) (t : Tree) → NamesElements m t → holds (atom_true m (inside m lawful) e) (literal positive t) ≡ is_true_literal m e (literal positive t)
  literal_is e positive (var x) h = refl
  literal_is e positive (elem k) h = refl
  literal_is e positive (app r ts) h = ap (by_vals m (inside m lawful) positive r) (vals_are e ts h)

  pub clause_is : (e : Assignment) (c : ClauseTree) → NamesWithin m c → true_in (atom_true m (inside m lawful) e) c ≡ is_true_clause m e c
  clause_is e [] h = refl
  clause_is e (l ∷ c) h = ap₂ (λ a b. a || b) (literal_is e l.positive l.atom h.0) (clause_is e c h.1)

  -- a clause is true of all elements
  abbrev pub Valid : ClauseTree → Type 0
  Valid c = (e : Assignment) → IsWithin m e → IsTrue (true_in (atom_true m (inside m lawful) e) c)

  pub valid_true : (c : ClauseTree) → NamesWithin m c → IsTrueClause m c → Valid c
  valid_true c h all e w = clause_is e c h ∙ all e w

  -- and so is each instance
  pub valid_instance : (s : Substitution) (c : ClauseTree) → AreAtoms c → Valid c → Valid (substitute_clause s c)
  valid_instance s c atoms all e w = clause_put m (inside m lawful) e s c atoms ∙ all (vals_of m (inside m lawful) e s) (λ x. val_within e w (s x))

-- an instance of an atom is one
pub atom_put : (s : Substitution) (t : Tree) → IsAtom t → IsAtom (substitute s t)
atom_put s (var x) h = absurd h
atom_put s (elem k) h = h
atom_put s (app r ts) h = tt

pub atoms_put : (s : Substitution) (c : ClauseTree) → AreAtoms c → AreAtoms (substitute_clause s c)
atoms_put s [] h = tt
atoms_put s (l ∷ c) h = (atom_put s l.atom h.0, atoms_put s c h.1)
