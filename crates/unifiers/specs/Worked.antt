-- Unifiers and matches worked out.
use Rattle.std.specs.Prelude.{◌≡◌, [], ◌∷◌, Some, None}
use Rattle.fol_core.specs.Tree.{Tree, var, app, Trees, none, more}
use Rattle.unifiers.specs.Matching.{matched}
use Rattle.unifiers.specs.Unifier.{unifier_of}

abbrev a : Tree
a = app 1 none

abbrev f : Tree → Tree
f t = app 2 (more t none)

abbrev g : Tree → Tree → Tree
g s t = app 3 (more s (more t none))

abbrev one : Tree → Trees
one t = more t none

-- g(x,f(a)) with g(f(y),x); x with f(x); a with f(a)
abbrev pub WorkedUnifiers : Type 0
WorkedUnifiers =
    (unifier_of (one (g (var 0) (f a))) (one (g (f (var 1)) (var 0)))
    ≡ Some ((0, f (var 1)) ∷ (1, a) ∷ []))
    × (unifier_of (one (var 0)) (one (f (var 0))) ≡ None)
    × (unifier_of (one a) (one (f a)) ≡ None)
    × (unifier_of (one (var 0)) (one (var 0)) ≡ Some [])

-- g(x,y) makes g(a,f(x)); g(x,x) makes g(a,a) and not g(a,x); f(a) makes no f(x)
abbrev pub WorkedMatches : Type 0
WorkedMatches =
    (matched (g (var 0) (var 1)) (g a (f (var 0))) [] ≡ Some ((0, a) ∷ (1, f (var 0)) ∷ []))
    × (matched (g (var 0) (var 0)) (g a a) [] ≡ Some ((0, a) ∷ []))
    × (matched (g (var 0) (var 0)) (g a (var 0)) [] ≡ None)
    × (matched (f a) (f (var 0)) [] ≡ None)
