-- The variables of a term as read, in their order.
use Rattle.std.specs.Prelude.{ℕ, Bool, true, false, not, ◌&&◌, List, [], ◌∷◌, ◌++◌, if◌then◌else◌, filter}
use Rattle.std.specs.List.{list_any}
use Rattle.std.specs.Str.{bytes_eq}
use Rattle.fol_core.specs.RawTree.{RawTree, named, quantified, RawTrees, no_raws, more_raws}
use Rattle.ladr_formulas.specs.Formulas.{Style, Variable, is_free_name, is_denial, connective_of}
use Rattle.ladr_formulas.specs.Occurring.{in_order}

-- the free variable that a name without arguments may be, where quantifiers bind these names
abbrev pub free_variable_of : Style → List (List ℕ) → List ℕ → List Variable
free_variable_of st bound name =
    if not (list_any (λ b. bytes_eq b name) bound) && is_free_name st name
    then record { name = name; free = true } ∷ [] else []

abbrev mutual
  -- the variables that a term below a relation has, from left to right
  pub variables_of_term : Style → List (List ℕ) → RawTree → List Variable
  variables_of_term st bound (quantified q x t) =
      record { name = x; free = false } ∷ variables_of_term st (x ∷ bound) t
  variables_of_term st bound (named name no_raws) = free_variable_of st bound name
  variables_of_term st bound (named name (more_raws t ts)) =
      variables_of_term st bound t ++ variables_of_terms st bound ts

  pub variables_of_terms : Style → List (List ℕ) → RawTrees → List Variable
  variables_of_terms st bound no_raws = []
  variables_of_terms st bound (more_raws t ts) =
      variables_of_term st bound t ++ variables_of_terms st bound ts

-- The variables of a formula as read, where quantifiers around bind these names: a quantifier's
-- comes before those of its body.
abbrev pub variables_met : Style → List (List ℕ) → RawTree → List Variable
variables_met st bound (quantified q x t) =
    record { name = x; free = false } ∷ variables_met st (x ∷ bound) t
variables_met st bound (named name no_raws) = free_variable_of st bound name
variables_met st bound (named name (more_raws t no_raws)) =
    if is_denial name then variables_met st bound t else variables_of_term st bound t
variables_met st bound (named name (more_raws t (more_raws u no_raws))) =
    in_order (connective_of name) (variables_met st bound t) (variables_met st bound u)
    (variables_of_term st bound t ++ variables_of_term st bound u)
variables_met st bound (named name ts) = variables_of_terms st bound ts

-- whether two are one free variable
abbrev pub is_same_free : Variable → Variable → Bool
is_same_free v w = v.free && w.free && bytes_eq v.name w.name

-- each free variable once, where it is first met, and each quantifier's
abbrev pub numbered : List Variable → List Variable
numbered [] = []
numbered (v ∷ vs) = v ∷ filter (λ w. not (is_same_free v w)) (numbered vs)

-- the variables of a formula as read, by number
abbrev pub variables_in : Style → RawTree → List Variable
variables_in st t = numbered (variables_met st [] t)
