-- What becomes of each clause as a nucleus.
use Rattle.std.proofs.Common.{◌≡◌, ℕ, false, nat_lt, if◌then◌else◌, List, [], length, flat_map, sym}
use Rattle.proof_words.specs.Written.{by_hyper, by_ur}
use Rattle.prover_steps.specs.Clashing.{Held, clashings, clashes_of, places_of, places_with, positive_partners, has_negative, hyperresolvents_of, unit_clashings, unit_resolvents_of}
use Rattle.prover_steps.specs.Concluded.{Conclusion}
use Rattle.resolution.proofs.Going.{flat_kept}

abbrev pub hyper_at : List Held → Held → Held → List Conclusion
hyper_at held g n = clashes_of by_hyper g n (clashings (places_with false n.clause) (positive_partners held))

abbrev pub hyper_tried : List Held → Held → Held → List Conclusion
hyper_tried held g n = if has_negative n.clause then hyper_at held g n else []

pub hyper_are : (held : List Held) (g : Held) → flat_map (hyper_tried held g) held ≡ hyperresolvents_of held g
hyper_are held g = sym (flat_kept (λ (n : Held). has_negative n.clause) (hyper_at held g) held)

abbrev pub units_at : List Held → Held → Held → ℕ → List Conclusion
units_at held g n left = clashes_of by_ur g n (unit_clashings held n.clause left)

abbrev pub units_tried : List Held → Held → Held → List Conclusion
units_tried held g n = if nat_lt 1 (length n.clause) then flat_map (units_at held g n) (places_of n.clause) else []

pub units_come : (held : List Held) (g : Held) → flat_map (units_tried held g) held ≡ unit_resolvents_of held g
units_come held g = sym (flat_kept (λ (n : Held). nat_lt 1 (length n.clause)) (λ n. flat_map (units_at held g n) (places_of n.clause)) held)
