-- A subterm and its replacement.
use Rattle.std.proofs.Common.{◌≡◌, ℕ, ◌-◌, Bool, true, false, ◌==◌, if◌then◌else◌, List, [], ◌∷◌, Option, Some, None, option_map, unwrap_or, refl, sym, ap, ◌∙◌}
use Rattle.std.specs.Option.{option_and_then}
use Rattle.fol_core.specs.Tree.{Tree, var, elem, app, Trees, none, more}
use Rattle.fol_core.specs.Meaning.{Meaning}
use Rattle.fol_core.specs.Substitutions.{Substitution, substitute, substitute_all}
use Rattle.fol_core.specs.Truth.{Assignment, value_of, values_of}
use Rattle.substitutions.specs.Paths.{argument, subterm_at, with_argument, replaced}

-- an argument of an instance is the instance of the argument
pub argument_substituted : (terms : Substitution) (ts : Trees) (k : ℕ) → argument (substitute_all terms ts) k ≡ option_map (substitute terms) (argument ts k)
argument_substituted terms none k = refl
argument_substituted terms (more t ts) k = by (k == 1) (argument_substituted terms ts (k - 1))
  where
    by : (b : Bool) → argument (substitute_all terms ts) (k - 1) ≡ option_map (substitute terms) (argument ts (k - 1))
        → (if b then Some (substitute terms t) else argument (substitute_all terms ts) (k - 1)) ≡ option_map (substitute terms) (if b then Some t else argument ts (k - 1))
    by true rest = refl
    by false rest = rest

-- and a subterm of an instance that of the subterm
pub subterm_substituted : (terms : Substitution) (t : Tree) (path : List ℕ) (u : Tree) → subterm_at t path ≡ Some u → subterm_at (substitute terms t) path ≡ Some (substitute terms u)
subterm_substituted terms t [] u h = ap (option_map (substitute terms)) h
subterm_substituted terms (var x) (k ∷ path) u h = cc
subterm_substituted terms (elem x) (k ∷ path) u h = cc
subterm_substituted terms (app f ts) (k ∷ path) u h =
    ap (option_and_then (λ v. subterm_at v path)) (argument_substituted terms ts k) ∙ by (argument ts k) (λ v e. subterm_substituted terms v path u e) h
  where
    by : (o : Option Tree) → ((v : Tree) → subterm_at v path ≡ Some u → subterm_at (substitute terms v) path ≡ Some (substitute terms u))
        → option_and_then (λ v. subterm_at v path) o ≡ Some u → option_and_then (λ v. subterm_at v path) (option_map (substitute terms) o) ≡ Some (substitute terms u)
    by None rest h = cc
    by (Some v) rest h = rest v h

-- where an argument is there, a law of what changes it is a law of the arguments with it changed
argument_changed : (terms : Substitution) (change changed : Tree → Tree) (ts : Trees) (k : ℕ)
    → ((v : Tree) → argument ts k ≡ Some v → changed (substitute terms v) ≡ substitute terms (change v))
    → with_argument changed (substitute_all terms ts) k ≡ substitute_all terms (with_argument change ts k)
argument_changed terms change changed none k h = refl
argument_changed terms change changed (more t ts) k h = by (k == 1) h (argument_changed terms change changed ts (k - 1))
  where
    by : (b : Bool) → ((v : Tree) → (if b then Some t else argument ts (k - 1)) ≡ Some v → changed (substitute terms v) ≡ substitute terms (change v))
        → (((v : Tree) → argument ts (k - 1) ≡ Some v → changed (substitute terms v) ≡ substitute terms (change v))
        → with_argument changed (substitute_all terms ts) (k - 1) ≡ substitute_all terms (with_argument change ts (k - 1)))
        → (if b then more (changed (substitute terms t)) (substitute_all terms ts) else more (substitute terms t) (with_argument changed (substitute_all terms ts) (k - 1)))
        ≡ substitute_all terms (if b then more (change t) ts else more t (with_argument change ts (k - 1)))
    by true h rest = ap (λ u. more u (substitute_all terms ts)) (h t refl)
    by false h rest = ap (more (substitute terms t)) (rest h)

-- to replace in an instance is to take the instance of what is replaced
pub replaced_substituted : (terms : Substitution) (t : Tree) (path : List ℕ) (u new : Tree) → subterm_at t path ≡ Some u
    → replaced (substitute terms t) path (substitute terms new) ≡ substitute terms (replaced t path new)
replaced_substituted terms t [] u new h = refl
replaced_substituted terms (var x) (k ∷ path) u new h = cc
replaced_substituted terms (elem x) (k ∷ path) u new h = cc
replaced_substituted terms (app f ts) (k ∷ path) u new h =
    ap (app f) (argument_changed terms (λ v. replaced v path new) (λ v. replaced v path (substitute terms new)) ts k
    (λ v e. replaced_substituted terms v path u new (sym (ap (option_and_then (λ w. subterm_at w path)) e) ∙ h)))

module _ (m : Meaning) (e : Assignment) where
  -- arguments keep their values where one is changed to another of its value
  argument_same : (change : Tree → Tree) (ts : Trees) (k : ℕ) → ((v : Tree) → argument ts k ≡ Some v → value_of m e (change v) ≡ value_of m e v)
      → values_of m e (with_argument change ts k) ≡ values_of m e ts
  argument_same change none k h = refl
  argument_same change (more t ts) k h = by (k == 1) h (argument_same change ts (k - 1))
    where
      by : (b : Bool) → ((v : Tree) → (if b then Some t else argument ts (k - 1)) ≡ Some v → value_of m e (change v) ≡ value_of m e v)
          → (((v : Tree) → argument ts (k - 1) ≡ Some v → value_of m e (change v) ≡ value_of m e v) → values_of m e (with_argument change ts (k - 1)) ≡ values_of m e ts)
          → values_of m e (if b then more (change t) ts else more t (with_argument change ts (k - 1))) ≡ value_of m e t ∷ values_of m e ts
      by true h rest = ap (λ v. v ∷ values_of m e ts) (h t refl)
      by false h rest = ap (λ vs. value_of m e t ∷ vs) (rest h)

  -- a term keeps its value where a subterm gets another of its value
  pub replaced_same : (t : Tree) (path : List ℕ) (old new : Tree) → subterm_at t path ≡ Some old → value_of m e new ≡ value_of m e old
      → value_of m e (replaced t path new) ≡ value_of m e t
  replaced_same t [] old new h same = same ∙ ap (λ o. value_of m e (unwrap_or o t)) (sym h)
  replaced_same (var x) (k ∷ path) old new h same = cc
  replaced_same (elem x) (k ∷ path) old new h same = cc
  replaced_same (app f ts) (k ∷ path) old new h same =
      ap (m.function f) (argument_same (λ v. replaced v path new) ts k
      (λ v is. replaced_same v path old new (sym (ap (option_and_then (λ w. subterm_at w path)) is) ∙ h) same))
