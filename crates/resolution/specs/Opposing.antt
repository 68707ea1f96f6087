-- Clauses that may clash with others, by their numbers.
use Rattle.std.specs.Prelude.{ℕ, Bool, not, if◌then◌else◌, List, [], ◌∷◌, filter, flat_map}
use Rattle.fol_core.specs.Literals.{Lit, ClauseTree}
use Rattle.clause_index.specs.Finding.{has_atom_such}
use Rattle.clause_index.specs.Numbered.{is_numbered}
use Rattle.discrim_tree.specs.Terms.{can_unify}
use Rattle.prover_steps.specs.Clashing.{Held}
use Rattle.prover_steps.specs.HeldOrder.{numbers_of}
use Rattle.resolution.specs.Trying.{is_satellite}
use Rattle.resolution.specs.declared.partners.ClashKind.{ClashKind}

-- whether a clause has a literal of the other sign whose atom unifies with this one's
abbrev pub opposes : Lit → Held → Bool
opposes l h = has_atom_such (λ t. can_unify l.atom t) (not l.positive) h

-- the numbers of the clauses that have one for some literal of a clause
abbrev pub numbers_against : List Held → ClauseTree → List ℕ
numbers_against hs c = flat_map (λ l. numbers_of (filter (opposes l) hs)) c

-- where that clause may be a satellite
abbrev pub numbers_by : ClashKind → List Held → Held → List ℕ
numbers_by kind hs h = if is_satellite kind h.clause then numbers_against hs h.clause else []

-- a number, and those of the clauses that may be nuclei where its clause is a satellite
abbrev pub nuclei_numbers : ClashKind → List Held → ℕ → List ℕ
nuclei_numbers kind hs g = g ∷ flat_map (numbers_by kind hs) (filter (is_numbered (g ∷ [])) hs)
