-- Subterms and replacements worked out.
use Rattle.std.specs.Prelude.{ℕ, ◌≡◌, true, [], ◌∷◌, Some, None}
use Rattle.fol_core.specs.Literals.{literal}
use Rattle.fol_core.specs.Renumbered.{renumbered}
use Rattle.fol_core.specs.Substitutions.{substitute}
use Rattle.fol_core.specs.Tree.{Tree, var, app, none, more}
use Rattle.substitutions.specs.Bindings.{by_bindings}
use Rattle.substitutions.specs.Instances.{followed}
use Rattle.substitutions.specs.Paths.{subterm_at, replaced}

abbrev constant : ℕ → Tree
constant s = app s none

abbrev one : ℕ → Tree → Tree
one f t = app f (more t none)

abbrev two : ℕ → Tree → Tree → Tree
two f s t = app f (more s (more t none))

-- in g(f(a),b), with a 1, b 2, f 3, g 4: the subterm at 1,1 is a, and with b there the term is
-- g(f(b),b)
abbrev pub WorkedPaths : Type 0
WorkedPaths =
    let t = two 4 (one 3 (constant 1)) (constant 2) in
    (subterm_at t (1 ∷ 1 ∷ []) ≡ Some (constant 1))
    × (subterm_at t [] ≡ Some t)
    × (subterm_at t (3 ∷ []) ≡ None)
    × (subterm_at t (0 ∷ []) ≡ None)
    × (subterm_at t (2 ∷ 1 ∷ []) ≡ None)
    × (replaced t (1 ∷ 1 ∷ []) (constant 2) ≡ two 4 (one 3 (constant 2)) (constant 2))

-- terms are put in at once and not in turn, and the first binding counts
abbrev pub WorkedSubstitutions : Type 0
WorkedSubstitutions =
    (substitute (by_bindings ((0, var 1) ∷ (1, constant 7) ∷ [])) (two 4 (var 0) (var 1))
    ≡ two 4 (var 1) (constant 7))
    × (substitute (by_bindings ((0, constant 7) ∷ (0, constant 8) ∷ [])) (var 0) ≡ constant 7)
    × (substitute (followed (by_bindings ((0, var 1) ∷ [])) (by_bindings ((1, constant 7) ∷ [])))
    (two 4 (var 0) (var 2)) ≡ two 4 (constant 7) (var 2))

-- p(v5,v2,v5) is numbered p(v0,v1,v0)
abbrev pub WorkedNumbers : Type 0
WorkedNumbers =
    renumbered (literal true (app 0 (more (var 5) (more (var 2) (more (var 5) none)))) ∷ [])
    ≡ literal true (app 0 (more (var 0) (more (var 1) (more (var 0) none)))) ∷ []
