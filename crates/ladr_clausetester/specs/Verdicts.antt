-- Which formulas of an input are true.
use Rattle.std.specs.Prelude.{Bool, List, [], ◌∷◌, MatchBool}
use Rattle.fol_core.specs.Meaning.{Meaning}
use Rattle.fol_problem.specs.Stated.{Said, Stated, IsTrueIn}
use Rattle.ladr_commands.specs.ByName.{ByName}
use Rattle.ladr_interpretations.specs.Good.{tables_for}
use Rattle.model_tables.specs.Tables.{meaning_of}

-- an interpretation by names, by its tables for the symbols of what is stated
abbrev pub meaning_in : Stated → ByName → Meaning
meaning_in p it = meaning_of (tables_for it p.symbols)

-- the closure of each formula is true or false in the interpretation as told
abbrev pub AreTrueAsTold : Meaning → List Said → List Bool → Type 0
AreTrueAsTold m [] [] = Unit {0}
AreTrueAsTold m [] (b ∷ bs) = ⊥
AreTrueAsTold m (s ∷ ss) [] = ⊥
AreTrueAsTold m (s ∷ ss) (b ∷ bs) =
    MatchBool b (IsTrueIn m s.formula) (¬ IsTrueIn m s.formula) × AreTrueAsTold m ss bs

-- so it is of what is stated, in each of these interpretations
abbrev pub AreAllTold : Stated → List ByName → List (List Bool) → Type 0
AreAllTold p [] [] = Unit {0}
AreAllTold p [] (all ∷ alls) = ⊥
AreAllTold p (it ∷ its) [] = ⊥
AreAllTold p (it ∷ its) (all ∷ alls) =
    AreTrueAsTold (meaning_in p it) p.formulas all × AreAllTold p its alls
