-- Some answers worked out.
use Rattle.std.specs.Prelude.{ℕ, ◌≡◌, true, false, [], ◌∷◌}
use Rattle.answers.specs.AnswerTrees.{answer, substitute_answers, each_once, whole, numbered_clause, numbered_answers}
use Rattle.clause_limits.specs.Sizes.{clause_depth, clause_size, is_too_large}
use Rattle.fol_core.specs.Literals.{ClauseTree, literal}
use Rattle.fol_core.specs.Tree.{Tree, Trees, var, app, none, more}
use Rattle.substitutions.specs.Bindings.{by_bindings}

abbrev constant : ℕ → Tree
constant s = app s none

abbrev one : Tree → Trees
one t = more t none

abbrev two : Tree → Tree → Trees
two s t = more s (more t none)

-- terms are put in at once
abbrev pub WorkedTerms : Type 0
WorkedTerms =
    (substitute_answers (by_bindings ((0, var 1) ∷ (1, var 0) ∷ [])) (answer 2 (two (var 0) (var 1)) ∷ [])
    ≡ answer 2 (two (var 1) (var 0)) ∷ [])
    × (substitute_answers (by_bindings ((0, constant 7) ∷ [])) (answer 2 (one (var 0)) ∷ answer 3 (one (var 1)) ∷ [])
    ≡ answer 2 (one (constant 7)) ∷ answer 3 (one (var 1)) ∷ [])

-- the goal counts as the terms do, and the first of equal ones stays
abbrev pub WorkedOnce : Type 0
WorkedOnce =
    (each_once (answer 2 (one (constant 7)) ∷ answer 3 (one (constant 7)) ∷ answer 2 (one (constant 7)) ∷ [])
    ≡ answer 2 (one (constant 7)) ∷ answer 3 (one (constant 7)) ∷ [])
    × (each_once (answer 2 (one (var 0)) ∷ answer 2 (one (var 1)) ∷ [])
    ≡ answer 2 (one (var 0)) ∷ answer 2 (one (var 1)) ∷ [])

-- p(x5) with answer(2,x7,x5) is p(x0) with answer(2,x1,x0)
abbrev pub WorkedNumbers : Type 0
WorkedNumbers =
    let c : ClauseTree = literal true (app 4 (one (var 5))) ∷ [] in
    let us = answer 2 (two (var 7) (var 5)) ∷ [] in
    (numbered_clause c us ≡ literal true (app 4 (one (var 0))) ∷ [])
    × (numbered_answers c us ≡ answer 2 (two (var 1) (var 0)) ∷ [])
    × (numbered_answers [] us ≡ answer 2 (two (var 0) (var 1)) ∷ [])

-- only the terms of an answer count
abbrev pub WorkedSizes : Type 0
WorkedSizes =
    let c : ClauseTree = literal true (app 4 (one (var 5))) ∷ [] in
    let us = answer 2 (two (app 6 (one (constant 7))) (var 5)) ∷ [] in
    (clause_size (whole c us) ≡ 5)
    × (clause_depth (whole c us) ≡ 2)
    × (is_too_large (whole c us) ≡ false)
