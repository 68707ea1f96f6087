-- The literals of a clause that aren't used.
use Rattle.std.specs.Prelude.{Bool, false, if◌then◌else◌, List, [], ◌∷◌, is_some}
use Rattle.std.specs.List.{list_any}
use Rattle.std.specs.Option.{option_map_or}
use Rattle.fol_core.specs.Literals.{Lit, ClauseTree}
use Rattle.prover_steps.specs.Subsuming.{matched_literal, subsumes_with}
use Rattle.substitutions.specs.Bindings.{Binding}

-- those without a mark
abbrev pub unused : List Bool → ClauseTree → ClauseTree
unused (u ∷ us) (k ∷ d) = if u then unused us d else k ∷ unused us d
unused us d = []

-- whether a literal is matched to another one, and a clause has its literals then among those of
-- another
abbrev pub way : List Binding → Lit → ClauseTree → Lit → ClauseTree → Bool
way bs l c k d =
    option_map_or (λ more. subsumes_with more c d) (matched_literal l k bs) false

-- whether a literal has one of a clause's as an instance
abbrev pub matches_in : ClauseTree → Lit → Bool
matches_in d l = list_any (λ k. is_some (matched_literal l k [])) d
