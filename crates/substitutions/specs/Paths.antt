-- Subterms by their paths: the numbers of arguments, counted from 1, from the outermost inwards.
use Rattle.std.specs.Prelude.{ℕ, ◌-◌, ◌==◌, if◌then◌else◌, List, [], ◌∷◌, Option, Some, None}
use Rattle.std.specs.Option.{option_and_then}
use Rattle.fol_core.specs.Tree.{Tree, app, Trees, none, more}

-- an argument by its number
abbrev pub argument : Trees → ℕ → Option Tree
argument none k = None
argument (more t ts) k = if k == 1 then Some t else argument ts (k - 1)

-- an argument of an application
abbrev pub part_at : Tree → ℕ → Option Tree
part_at (app f ts) k = argument ts k
part_at t k = None

-- the subterm at a path, if the path is there
abbrev pub subterm_at : Tree → List ℕ → Option Tree
subterm_at t [] = Some t
subterm_at t (k ∷ path) = option_and_then (λ u. subterm_at u path) (part_at t k)

-- the arguments with one of them changed
abbrev pub with_argument : (Tree → Tree) → Trees → ℕ → Trees
with_argument change none k = none
with_argument change (more t ts) k =
    if k == 1 then more (change t) ts else more t (with_argument change ts (k - 1))

abbrev pub with_part : (Tree → Tree) → Tree → ℕ → Tree
with_part change (app f ts) k = app f (with_argument change ts k)
with_part change t k = t

-- the term with another one at the path, and the term itself where the path isn't there
abbrev pub replaced : Tree → List ℕ → Tree → Tree
replaced t [] new = new
replaced t (k ∷ path) new = with_part (λ u. replaced u path new) t k
