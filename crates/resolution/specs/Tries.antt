-- What comes of each place, where some are passed over.
use Rattle.std.specs.Prelude.{ℕ, not, true, nat_lt, ◌||◌, if◌then◌else◌, List, [], ◌∷◌, flat_map}
use Rattle.derivation.specs.Places.{has_literal}
use Rattle.proof_words.specs.Written.{satellite, by_resolve, by_factor}
use Rattle.prover_steps.specs.Clashing.{Held, is_same_held, places_of}
use Rattle.prover_steps.specs.Concluded.{Conclusion, inferred}

-- the resolvents from one place
abbrev pub resolvents_from : Held → Held → ℕ → List Conclusion
resolvents_from g d i =
    flat_map
    (λ j. inferred (by_resolve g.number (satellite i d.number j)) (g.clause ∷ d.clause ∷ []))
    (places_of d.clause)

-- of a clause with itself, none from a negative place
abbrev pub resolvents_tried : Held → Held → ℕ → List Conclusion
resolvents_tried g d i =
    if not (is_same_held g d) || has_literal true g.clause i then resolvents_from g d i else []

-- the factor of two places
abbrev pub factor_at : Held → ℕ → ℕ → List Conclusion
factor_at g a b = inferred (by_factor g.number a b) (g.clause ∷ [])

-- where the second is behind the first
abbrev pub factor_tried : Held → ℕ → ℕ → List Conclusion
factor_tried g a b = if nat_lt a b then factor_at g a b else []
