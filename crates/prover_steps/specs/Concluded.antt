-- What a step makes of clauses, worked out.
use Rattle.std.specs.Prelude.{if◌then◌else◌, List, [], ◌∷◌, Option, Some, None}
use Rattle.std.specs.Option.{option_map, option_map_or}
use Rattle.fol_core.specs.Literals.{ClauseTree}
use Rattle.fol_core.specs.Renumbered.{renumbered}
use Rattle.substitutions.specs.Apart.{apart_of}
use Rattle.substitutions.specs.Bindings.{Binding}
use Rattle.substitutions.specs.Instances.{substitute_clause}
use Rattle.unifiers.specs.Unifier.{solution, unifier_of}
use Rattle.derivation.specs.Apart.{lefts, rights}
use Rattle.derivation.specs.Lines.{inference_of}
use Rattle.derivation.specs.Rule.{InferenceRule}
use Rattle.proof_words.specs.Written.{WrittenFirst, meant}

-- the most general unifier of what a rule wants equal in clauses that are renamed apart
abbrev pub unifying : InferenceRule → List ClauseTree → Option (List Binding)
unifying rule cs = unifier_of (lefts (rule.pairs (apart_of cs))) (rights (rule.pairs (apart_of cs)))

-- what is left of them under it, numbered
abbrev pub left_under : InferenceRule → List ClauseTree → List Binding → ClauseTree
left_under rule cs bs = renumbered (substitute_clause (solution bs) (rule.rest (apart_of cs)))

-- what a rule concludes of clauses: nothing where it doesn't fit, or nothing makes the terms equal
abbrev pub concluded : InferenceRule → List ClauseTree → Option ClauseTree
concluded rule cs =
    if rule.fits cs then option_map (left_under rule cs) (unifying rule cs) else None

-- a conclusion, with the word that tells where it comes from
pub record Conclusion : Type 0 where
  pub clause : ClauseTree
  pub first : WrittenFirst

-- a list of one, or of none
abbrev pub conclusion_by : WrittenFirst → Option ClauseTree → List Conclusion
conclusion_by w None = []
conclusion_by w (Some c) = record { clause = c; first = w } ∷ []

-- what the step of a word makes of the clauses that it takes
abbrev pub inferred : WrittenFirst → List ClauseTree → List Conclusion
inferred w cs =
    option_map_or (λ i. conclusion_by w (concluded i.rule cs)) (inference_of (meant w)) []
