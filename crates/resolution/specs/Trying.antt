-- The partners that the code tries.
use Rattle.std.specs.Prelude.{ℕ, Bool, not, List, map, filter, flat_map}
use Rattle.fol_core.specs.Literals.{ClauseTree}
use Rattle.derivation.specs.Later.{is_unit}
use Rattle.derivation.specs.declared.words.Satellite.{Satellite}
use Rattle.proof_words.specs.Written.{WrittenFirst, by_hyper, by_ur}
use Rattle.prover_steps.specs.Clashing.{Held, Partner, has_negative, places_of}
use Rattle.resolution.specs.Ways.{Tried}
use Rattle.resolution.specs.declared.partners.Candidate.{Candidate}
use Rattle.resolution.specs.declared.partners.ClashKind.{ClashKind}
use Rattle.resolution.specs.declared.partners.ClashKind.TheVariants.{Hyper, Units}
use Rattle.resolution.specs.declared.partners.Meetings.{Meetings}

-- the clauses that may be satellites: those without a negative literal, or units
abbrev pub is_satellite : ClashKind → ClauseTree → Bool
is_satellite Hyper c = not (has_negative c)
is_satellite Units c = is_unit c

-- the literals of a clause
abbrev pub partners_in : Held → List Partner
partners_in h = map (λ a. (h, a)) (places_of h.clause)

-- and of those that may be satellites
abbrev pub partners_by : ClashKind → List Held → List Partner
partners_by kind held = flat_map partners_in (filter (λ h. is_satellite kind h.clause) held)

-- the word of a step
abbrev pub clashing_word : ClashKind → ℕ → List Satellite → WrittenFirst
clashing_word Hyper = by_hyper
clashing_word Units = by_ur

-- what the code has of them
abbrev pub partner_of : Candidate → Partner
partner_of c = (c.held.now, c.literal)

abbrev pub tried_at : Meetings → Tried
tried_at m = (m.place, map partner_of m.candidates.items)

abbrev pub all_tried : List Meetings → List Tried
all_tried ms = map tried_at ms
