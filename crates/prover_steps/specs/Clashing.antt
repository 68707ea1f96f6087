-- The steps of resolution that a given clause takes part in, in their order.
use Rattle.std.specs.Prelude.{ℕ, suc, Bool, true, false, not, ◌==◌, nat_lt, ◌||◌, if◌then◌else◌, length, List, [], ◌∷◌, map, filter, flat_map}
use Rattle.std.specs.List.{list_any}
use Rattle.fol_core.specs.Literals.{ClauseTree}
use Rattle.derivation.specs.declared.words.Satellite.{Satellite}
use Rattle.derivation.specs.Later.{is_unit}
use Rattle.derivation.specs.Places.{has_literal}
use Rattle.proof_words.specs.Written.{WrittenFirst, satellite, by_resolve, by_hyper, by_ur, by_factor}
use Rattle.prover_steps.specs.Concluded.{Conclusion, inferred}

-- a clause under its number
pub record Held : Type 0 where
  pub number : ℕ
  pub clause : ClauseTree

abbrev pub is_same_held : Held → Held → Bool
is_same_held g h = g.number == h.number

-- the places of a clause's literals, from the left
abbrev pub places_from : ℕ → ClauseTree → List ℕ
places_from n [] = []
places_from n (l ∷ c) = n ∷ places_from (suc n) c

abbrev pub places_of : ClauseTree → List ℕ
places_of c = places_from 0 c

-- those of one sign
abbrev pub places_with : Bool → ClauseTree → List ℕ
places_with sign c = filter (has_literal sign c) (places_of c)

abbrev pub has_negative : ClauseTree → Bool
has_negative c = list_any (λ l. not l.positive) c

-- Binary resolution of a given clause with another one, and with itself from its positive literals:
-- by its literals, then by the other's.
abbrev pub resolvents_with : Held → Held → List Conclusion
resolvents_with g d =
    flat_map
    (λ i. flat_map
    (λ j. inferred (by_resolve g.number (satellite i d.number j)) (g.clause ∷ d.clause ∷ []))
    (places_of d.clause))
    (if is_same_held g d then places_with true g.clause else places_of g.clause)

-- with each of the clauses that are held
abbrev pub resolvents_of : List Held → Held → List Conclusion
resolvents_of held g = flat_map (resolvents_with g) held

-- a factor for each two places of the given clause
abbrev pub factors_of : Held → List Conclusion
factors_of g =
    flat_map
    (λ a. flat_map (λ b. inferred (by_factor g.number a b) (g.clause ∷ []))
    (filter (nat_lt a) (places_of g.clause)))
    (places_of g.clause)

-- a clause with a place of it, that meets a literal of a nucleus
abbrev pub Partner : Type 0
Partner = Held × ℕ

-- a partner for each place of a nucleus
abbrev pub Clashing : Type 0
Clashing = List (ℕ × Partner)

-- all ways to take partners, that of the last place changing fastest
abbrev pub clashings : List ℕ → List Partner → List Clashing
clashings [] partners = [] ∷ []
clashings (k ∷ ks) partners =
    flat_map (λ p. map (λ rest. (k, p) ∷ rest) (clashings ks partners)) partners

abbrev pub satellites_in : Clashing → List Satellite
satellites_in ms = map (λ m. satellite m.0 m.1.0.number m.1.1) ms

abbrev pub clauses_of : Held → Clashing → List ClauseTree
clauses_of n ms = n.clause ∷ map (λ m. m.1.0.clause) ms

-- whether the given clause is the nucleus or a partner
abbrev pub takes_part : Held → Held → Clashing → Bool
takes_part g n ms = is_same_held g n || list_any (λ m. is_same_held g m.1.0) ms

-- what becomes of a nucleus in the ways to take partners in which the given clause takes part
abbrev pub clashes_of : (ℕ → List Satellite → WrittenFirst) → Held → Held →
    List Clashing → List Conclusion
clashes_of word g n ways =
    flat_map (λ ms. inferred (word n.number (satellites_in ms)) (clauses_of n ms))
    (filter (takes_part g n) ways)

-- the literals of the clauses without a negative one
abbrev pub positive_partners : List Held → List Partner
positive_partners held =
    flat_map (λ h. map (λ a. (h, a)) (places_of h.clause))
    (filter (λ h. not (has_negative h.clause)) held)

-- Hyperresolution: all negative literals of a nucleus meet literals of clauses without negative
-- ones.
abbrev pub hyperresolvents_of : List Held → Held → List Conclusion
hyperresolvents_of held g =
    flat_map
    (λ n. clashes_of by_hyper g n
    (clashings (places_with false n.clause) (positive_partners held)))
    (filter (λ n. has_negative n.clause) held)

-- the literals of units
abbrev pub unit_partners : List Held → List Partner
unit_partners held = map (λ h. (h, 0)) (filter (λ h. is_unit h.clause) held)

-- the ways of a nucleus in which all its literals but one meet units
abbrev pub unit_clashings : List Held → ClauseTree → ℕ → List Clashing
unit_clashings held c left =
    clashings (filter (λ k. not (k == left)) (places_of c)) (unit_partners held)

-- Resolution with units: of a nucleus of two literals or more one is left over.
abbrev pub unit_resolvents_of : List Held → Held → List Conclusion
unit_resolvents_of held g =
    flat_map
    (λ n. flat_map (λ left. clashes_of by_ur g n (unit_clashings held n.clause left))
    (places_of n.clause))
    (filter (λ n. nat_lt 1 (length n.clause)) held)
