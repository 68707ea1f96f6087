-- What comes of places, as the code goes through them.
use Rattle.std.proofs.Common.{◌≡◌, Bool, true, false, not, ◌||◌, if◌then◌else◌, [], flat_map, refl, sym}
use Rattle.derivation.specs.Places.{has_literal}
use Rattle.prover_steps.specs.Clashing.{Held, is_same_held, places_of, places_with, resolvents_with}
use Rattle.resolution.specs.Tries.{resolvents_from, resolvents_tried}
use Rattle.resolution.proofs.Going.{flat_kept}

pub tried_are : (g d : Held) → flat_map (resolvents_tried g d) (places_of g.clause) ≡ resolvents_with g d
tried_are g d = by (is_same_held g d)
  where
    by : (same : Bool) → flat_map (λ i. if not same || has_literal true g.clause i then resolvents_from g d i else []) (places_of g.clause)
        ≡ flat_map (resolvents_from g d) (if same then places_with true g.clause else places_of g.clause)
    by true = sym (flat_kept (has_literal true g.clause) (resolvents_from g d) (places_of g.clause))
    by false = refl
