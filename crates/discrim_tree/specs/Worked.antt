-- Retrievals worked out.
use Rattle.std.specs.Prelude.{◌≡◌, List, [], ◌∷◌, None, Some, slice_get}
use Rattle.fol_core.specs.Tree.{Tree, var, app, none, more}
use Rattle.discrim_tree.specs.Beginnings.{count_beginnings}
use Rattle.discrim_tree.specs.Entries.{Indexed, indexed, with_entry, without_entry, numbers_found}
use Rattle.discrim_tree.specs.Places.{at_place, repeat, repeated, AreAlike}
use Rattle.discrim_tree.specs.Terms.{has_instance, can_unify}
use Rattle.discrim_tree.specs.Tries.{count_linear, count_up_to, greatest, raised}
use Rattle.discrim_tree.specs.declared.sought.Sought.TheVariants.{Generalizations, Instances, Unifiable}

abbrev a : Tree
a = app 0 none

abbrev f : Tree → Tree → Tree
f s t = app 1 (more s (more t none))

-- entries 2, 5 and 9: f(x,x), f(x,a) and f(a,y)
abbrev three : List Indexed
three =
    indexed 2 (f (var 0) (var 0)) ∷ indexed 5 (f (var 0) a) ∷ indexed 9 (f a (var 1)) ∷ []

-- of f(x,y) only f(a,y) and others with variables of their own; a variable that stands twice has
-- one term
abbrev pub WorkedRetrievals : Type 0
WorkedRetrievals =
    (numbers_found (λ s. has_instance s (f a a)) three ≡ 2 ∷ 5 ∷ 9 ∷ [])
    × (slice_get (numbers_found (λ s. has_instance s (f a a)) three) 0 ≡ Some 2)
    × (numbers_found (λ s. has_instance s (f (f a a) a)) three ≡ 5 ∷ [])
    × (numbers_found (λ s. has_instance (f (var 3) (var 4)) s) three ≡ 2 ∷ 5 ∷ 9 ∷ [])
    × (numbers_found (λ s. has_instance (f (var 3) (var 3)) s) three ≡ 2 ∷ [])
    × (numbers_found (λ s. can_unify s (f (f (var 0) a) (var 0))) three ≡ 5 ∷ [])

-- one entry is found where two or three are tested, since each occurrence of a variable counts there
-- as a variable of its own; for the least the tests up to it are counted, with one that fails, and
-- where there is none all of them
abbrev pub WorkedTries : Type 0
WorkedTries =
    (count_linear Generalizations (f (f a a) a) three ≡ 2)
    × (count_linear Instances (f (var 3) (var 3)) three ≡ 3)
    × (count_linear Unifiable (f (f (var 0) a) (var 0)) three ≡ 2)
    × (count_up_to Generalizations (f (f a a) a) three (Some 5) ≡ 2)
    × (count_up_to Generalizations (f a a) three (Some 2) ≡ 1)
    × (count_up_to Generalizations (f (f a a) (var 0)) three None ≡ 1)
    × (raised 2 ≡ 3) × (raised greatest ≡ greatest)

-- an entry comes to its place, and one is taken out
abbrev pub WorkedEntries : Type 0
WorkedEntries =
    (with_entry (indexed 5 (f (var 0) a))
    (indexed 2 (f (var 0) (var 0)) ∷ indexed 9 (f a (var 1)) ∷ []) ≡ three)
    × (without_entry 5 three ≡ indexed 2 (f (var 0) (var 0)) ∷ indexed 9 (f a (var 1)) ∷ [])

-- entries 1, 2 and 3: f(x,y), f(x,x) and f(a,x), whose paths begin f, f*, f**, fa and fa*
abbrev paths : List Indexed
paths =
    indexed 1 (f (var 0) (var 1)) ∷ indexed 2 (f (var 0) (var 0)) ∷ indexed 3 (f a (var 0)) ∷ []

-- five nodes, and without the last entry three
abbrev pub WorkedNodes : Type 0
WorkedNodes = (count_beginnings paths ≡ 5) × (count_beginnings (without_entry 3 paths) ≡ 3)

-- in f(x,a) and f(x,f(a,y)) no variable stands twice; in f(x,x) one stands at the places 1 and 2, in
-- f(f(x,y),x) at 17 and 2, and in f(x,f(x,x)) at 1, 18 and 34
abbrev pub WorkedRepeats : Type 0
WorkedRepeats =
    (repeated (f (var 0) a) ≡ []) × (repeated (f (var 0) (f a (var 1))) ≡ [])
    × (repeated (f (var 0) (var 0)) ≡ repeat 1 2 ∷ [])
    × (repeated (f (f (var 0) (var 1)) (var 0)) ≡ repeat 17 2 ∷ [])
    × (repeated (f (var 0) (f (var 0) (var 0))) ≡ repeat 1 18 ∷ repeat 18 34 ∷ [])

-- the parts of f(f(a,x),a) at its own place and at the places 1, 2, 17 and 33; there is none at 3
abbrev pub WorkedPlaces : Type 0
WorkedPlaces =
    (at_place (f (f a (var 0)) a) 0 ≡ Some (f (f a (var 0)) a))
    × (at_place (f (f a (var 0)) a) 1 ≡ Some (f a (var 0)))
    × (at_place (f (f a (var 0)) a) 2 ≡ Some a) × (at_place (f (f a (var 0)) a) 17 ≡ Some a)
    × (at_place (f (f a (var 0)) a) 33 ≡ Some (var 0)) × (at_place (f (f a (var 0)) a) 3 ≡ None)

-- f(a,a) has the same part at the two places of the variable of f(x,x), and f(a,f(a,a)) hasn't
abbrev pub WorkedAlike : Type 0
WorkedAlike =
    AreAlike (f a a) (repeated (f (var 0) (var 0)))
    × (AreAlike (f a (f a a)) (repeated (f (var 0) (var 0))) → ⊥)
