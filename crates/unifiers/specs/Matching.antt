-- Terms that are instances of others.
use Rattle.std.specs.Prelude.{ℕ, ◌≡◌, Bool, true, false, ◌==◌, ◌&&◌, if◌then◌else◌, List, [], ◌∷◌, ◌++◌, Option, Some, None}
use Rattle.std.specs.Option.{option_and_then}
use Rattle.fol_core.specs.Substitutions.{Substitution}
use Rattle.fol_core.specs.Tree.{Tree, var, elem, app, Trees, none, more}
use Rattle.substitutions.specs.Bindings.{Binding}

abbrev mutual
  -- whether two terms are the same
  pub same_tree : Tree → Tree → Bool
  same_tree (var x) (var y) = x == y
  same_tree (elem k) (elem n) = k == n
  same_tree (app f ss) (app g ts) = f == g && same_trees ss ts
  same_tree s t = false

  pub same_trees : Trees → Trees → Bool
  same_trees none none = true
  same_trees (more s ss) (more t ts) = same_tree s t && same_trees ss ts
  same_trees ss ts = false

-- the term that is given for a variable
abbrev pub bound_term : List Binding → ℕ → Option Tree
bound_term [] x = None
bound_term (b ∷ bs) x = if x == b.0 then Some b.1 else bound_term bs x

-- a variable with a term: as given, or from now on
abbrev pub bound_to : Option Tree → ℕ → Tree → List Binding → Option (List Binding)
bound_to None x t bs = Some (bs ++ (x, t) ∷ [])
bound_to (Some u) x t bs = if same_tree u t then Some bs else None

abbrev mutual
  -- the bindings, and those that make of the first term the second one
  pub matched : Tree → Tree → List Binding → Option (List Binding)
  matched (var x) t bs = bound_to (bound_term bs x) x t bs
  matched (elem k) (elem n) bs = if k == n then Some bs else None
  matched (app f ss) (app g ts) bs = if f == g then matched_all ss ts bs else None
  matched s t bs = None

  pub matched_all : Trees → Trees → List Binding → Option (List Binding)
  matched_all none none bs = Some bs
  matched_all (more s ss) (more t ts) bs =
      option_and_then (λ cs. matched_all ss ts cs) (matched s t bs)
  matched_all ss ts bs = None

-- a substitution gives the variables these terms
abbrev pub Agrees : Substitution → List Binding → Type 0
Agrees s [] = Unit {0}
Agrees s (b ∷ bs) = (s b.0 ≡ b.1) × Agrees s bs
