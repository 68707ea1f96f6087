-- Trees that are built as long as they have few levels, and disjunctions that are kept in their
-- disjuncts meanwhile.
use Rattle.std.specs.Prelude.{ℕ, Bool, true, false, ◌&&◌, nat_le, List, [], ◌∷◌, ◌++◌, Option, Some, None, if◌then◌else◌, codes}
use Rattle.std.specs.List.{list_all}
use Rattle.std.specs.Str.{bytes_eq}
use Rattle.fol_core.specs.RawTree.{RawTree, named, quantified, no_raws, more_raws, raws_of, depth}
use Rattle.fol_core.specs.declared.raw.Quantifier.{Quantifier}

-- the tree, unless it has more than n levels
abbrev pub unless_too_deep : ℕ → RawTree → Option RawTree
unless_too_deep n t = if nat_le (depth t) n then Some t else None

-- one more argument, at the end
abbrev pub with_last_argument : Option (List RawTree) → Option RawTree → Option (List RawTree)
with_last_argument None t = None
with_last_argument (Some ts) None = None
with_last_argument (Some ts) (Some t) = Some (ts ++ t ∷ [])

-- a name with arguments
abbrev pub application_within : ℕ → List ℕ → Option (List RawTree) → Option RawTree
application_within n s None = None
application_within n s (Some ts) = unless_too_deep n (named s (raws_of ts))

-- a quantifier with its variable and body
abbrev pub quantification : ℕ → Quantifier → List ℕ → Option RawTree → Option RawTree
quantification n q x None = None
quantification n q x (Some t) = unless_too_deep n (quantified q x t)

-- the name of a disjunction
abbrev pub is_bar : List ℕ → Bool
is_bar name = bytes_eq name (codes "|")

-- the disjuncts of a term: its parts between the `|` of its right spine
abbrev pub disjuncts : RawTree → List RawTree
disjuncts (named s (more_raws t (more_raws u no_raws))) =
    if is_bar s then t ∷ disjuncts u else named s (more_raws t (more_raws u no_raws)) ∷ []
disjuncts t = t ∷ []

-- a disjunct in front of what is behind it
abbrev pub with_disjunct : RawTree → Option RawTree → RawTree
with_disjunct t None = t
with_disjunct t (Some u) = named (codes "|") (raws_of (t ∷ u ∷ []))

-- the term that disjuncts are
abbrev pub disjunction_tree : List RawTree → Option RawTree
disjunction_tree [] = None
disjunction_tree (t ∷ ts) = Some (with_disjunct t (disjunction_tree ts))

-- whether each has at most n levels
abbrev pub all_within : ℕ → List RawTree → Bool
all_within n ts = list_all (λ t. nat_le (depth t) n) ts

-- the disjuncts of a tree, unless one has more than n levels
abbrev pub disjuncts_within : ℕ → RawTree → Option (List RawTree)
disjuncts_within n t = if all_within n (disjuncts t) then Some (disjuncts t) else None

-- a tree as its only disjunct
abbrev pub single : Option RawTree → Option (List RawTree)
single None = None
single (Some t) = Some (t ∷ [])

-- the tree of disjuncts, unless it has more than n levels
abbrev pub capped_if : ℕ → Option RawTree → Option RawTree
capped_if n None = None
capped_if n (Some t) = unless_too_deep n t

abbrev pub whole_of : ℕ → Option (List RawTree) → Option RawTree
whole_of n None = None
whole_of n (Some ts) = capped_if n (disjunction_tree ts)

-- whether there is one argument
abbrev pub is_one_argument : Option (List RawTree) → Bool
is_one_argument None = false
is_one_argument (Some []) = false
is_one_argument (Some (t ∷ [])) = true
is_one_argument (Some (t ∷ u ∷ ts)) = false

-- an argument in front of disjuncts
abbrev pub argument_in_front : Option (List RawTree) → Option (List RawTree) → Option (List RawTree)
argument_in_front (Some (t ∷ [])) (Some us) = Some (t ∷ us)
argument_in_front ts us = None

-- a name with arguments, the last of them in disjuncts, which go on as those of a disjunction
abbrev pub finished : ℕ → List ℕ → Option (List RawTree) → Option (List RawTree) →
    Option (List RawTree)
finished n s ts us =
    if is_bar s && is_one_argument ts then argument_in_front ts us
    else single (application_within n s (with_last_argument ts (whole_of n us)))
