-- The symbols that formulas have, and the elements that they name.
use Rattle.std.specs.Prelude.{ℕ, ◌≡◌, ◌<◌, suc, max, ◌==◌, Bool, false, ◌||◌, List, [], ◌∷◌, length}
use Rattle.std.specs.List.{list_any, slice_index_or}
use Rattle.fol_core.specs.Tree.{Tree, var, elem, app, Trees, none, more}
use Rattle.fol_core.specs.Bound.{uses_symbol}
use Rattle.fol_core.specs.Fol.{Fol, verum, falsum, equal, atom, negation, conjunction, disjunction, implication, equivalence, forall, exists}

-- whether a symbol stands in one of the formulas
abbrev pub occurs_in : ℕ → List Fol → Bool
occurs_in s fs = list_any (λ f. uses_symbol s f) fs

-- each symbol number that passes the test is marked, and those that were marked still are
abbrev pub AreMarked : (ℕ → Bool) → List Bool → List Bool → Type 0
AreMarked test old new =
    (s : ℕ) → s < length old → slice_index_or new s false ≡ (slice_index_or old s false || test s)

abbrev mutual
  -- the least number above each element that a term names, 0 where it names none
  pub above_elements : Tree → ℕ
  above_elements (var x) = 0
  above_elements (elem k) = suc k
  above_elements (app f ts) = above_all_elements ts

  pub above_all_elements : Trees → ℕ
  above_all_elements none = 0
  above_all_elements (more t ts) = max (above_elements t) (above_all_elements ts)

-- and above each that a formula names
abbrev pub above_numerals : Fol → ℕ
above_numerals verum = 0
above_numerals falsum = 0
above_numerals (equal s t) = max (above_elements s) (above_elements t)
above_numerals (atom r ts) = above_all_elements ts
above_numerals (negation f) = above_numerals f
above_numerals (conjunction f g) = max (above_numerals f) (above_numerals g)
above_numerals (disjunction f g) = max (above_numerals f) (above_numerals g)
above_numerals (implication f g) = max (above_numerals f) (above_numerals g)
above_numerals (equivalence f g) = max (above_numerals f) (above_numerals g)
above_numerals (forall x f) = above_numerals f
above_numerals (exists x f) = above_numerals f

-- the least size that has each element that the formulas name
abbrev pub size_needed : List Fol → ℕ
size_needed [] = 0
size_needed (f ∷ fs) = max (above_numerals f) (size_needed fs)

abbrev mutual
  -- whether a term names an element
  pub names_in : ℕ → Tree → Bool
  names_in k (var x) = false
  names_in k (elem n) = k == n
  names_in k (app f ts) = names_in_any k ts

  pub names_in_any : ℕ → Trees → Bool
  names_in_any k none = false
  names_in_any k (more t ts) = names_in k t || names_in_any k ts

-- whether a formula names an element
abbrev pub names : ℕ → Fol → Bool
names k verum = false
names k falsum = false
names k (equal s t) = names_in k s || names_in k t
names k (atom r ts) = names_in_any k ts
names k (negation f) = names k f
names k (conjunction f g) = names k f || names k g
names k (disjunction f g) = names k f || names k g
names k (implication f g) = names k f || names k g
names k (equivalence f g) = names k f || names k g
names k (forall x f) = names k f
names k (exists x f) = names k f
