-- Nodes and classes worked out.
use Rattle.std.specs.Prelude.{◌≡◌, ◌^◌, ◌-◌, List, [], ◌∷◌}
use Rattle.clause_limits.specs.Sizes.{measured}
use Rattle.fol_core.specs.Free.{joined, variables_of}
use Rattle.fol_core.specs.Renumbered.{by_place}
use Rattle.fol_core.specs.Sizes.{size_of, depth_of, saturated}
use Rattle.fol_core.specs.Substitutions.{Substitution, substitute}
use Rattle.fol_core.specs.Tree.{Tree, var, app, none, more}
use Rattle.substitutions.specs.Bindings.{by_bindings}
use Rattle.term_unifiers.specs.Renamed.{own_among}
use Rattle.term_unifiers.specs.Classes.{Classes, children, node_terms}
use Rattle.term_unifiers.specs.Shapes.{Shape, variable, application, tree_at}

-- f(x) and f(a), x with number 0 and a with number 2
abbrev pub both : List Shape
both = variable 7 ∷ application 2 (0 ∷ []) ∷ application 1 [] ∷ application 2 (2 ∷ []) ∷ []

-- and their classes where they are made the same
abbrev pub merged : Classes
merged = record {
  shapes = both;
  links = 0 ∷ 1 ∷ 0 ∷ 1 ∷ [];
  schemas = 2 ∷ 1 ∷ 2 ∷ 3 ∷ [];
}

abbrev pub WorkedTrees : Type 0
WorkedTrees =
    (tree_at both 1 ≡ app 2 (more (var 7) none)) × (tree_at both 3 ≡ app 2 (more (app 1 none) none))

abbrev pub WorkedTerms : Type 0
WorkedTerms =
    (children merged 1 ≡ 0 ∷ []) × (node_terms merged (0 ∷ 1 ∷ []) 0 ≡ app 1 none)
    × (node_terms merged (0 ∷ 1 ∷ []) 1 ≡ app 2 (more (app 1 none) none))

-- f(f(a, a), a), its symbols and its levels
abbrev pub deep : Tree
deep =
    let a : Tree = app 1 none in
    app 2 (more (app 2 (more a (more a none))) (more a none))

abbrev pub WorkedMeasures : Type 0
WorkedMeasures = (size_of deep ≡ 5) × (depth_of deep ≡ 3) × (saturated (2 ^ 64) ≡ 2 ^ 64 - 1)

-- where the variable 3 is a, the variable 1 of the second of two clauses is a, and of the first it stays
abbrev pub WorkedClauses : Type 0
WorkedClauses =
    let s : Substitution = by_bindings ((3, app 1 none) ∷ []) in
    (substitute (own_among 2 s 1) (var 1) ≡ app 1 none) × (substitute (own_among 2 s 0) (var 1) ≡ var 2)
    × (measured (substitute (own_among 2 s 1) (app 2 (more (var 1) none))) ≡ record { size = 2; depth = 2 })

-- behind x5 the variables of f(x7, x5) come to x5, x7, and they are written as 1 and 0
abbrev pub WorkedNumbers : Type 0
WorkedNumbers =
    let t : Tree = app 2 (more (var 7) (more (var 5) none)) in
    (joined (5 ∷ []) (variables_of t) ≡ 5 ∷ 7 ∷ [])
    × (substitute (by_place (5 ∷ 7 ∷ 9 ∷ [])) t ≡ app 2 (more (var 1) (more (var 0) none)))
