-- Entries of an index for clauses.
use Rattle.std.specs.Prelude.{◌≡◌, Bool, true, false, not, ◌&&◌, if◌then◌else◌, List, [], ◌∷◌, filter, map}
use Rattle.derivation.specs.Equations.{left_of}
use Rattle.derivation.specs.Places.{atom_at, has_literal}
use Rattle.discrim_tree.specs.Entries.{Indexed, indexed, with_entry}
use Rattle.discrim_tree.specs.Terms.{can_unify, has_instance}
use Rattle.fol_core.specs.Literals.{ClauseTree}
use Rattle.fol_core.specs.Tree.{Tree}
use Rattle.prover_steps.specs.Clashing.{Held}
use Rattle.prover_steps.specs.HeldOrder.{numbers_of, IsRising}

-- the clauses that pass a test, each by its number with a term of it
abbrev pub entries_of : (Held → Bool) → (Held → Tree) → List Held → List Indexed
entries_of among key hs = map (λ h. indexed h.number (key h)) (filter among hs)

-- all of them, with the left sides of their equations
abbrev pub rule_left : Held → Tree
rule_left r = left_of (atom_at r.clause 0)

abbrev pub left_sides : List Held → List Indexed
left_sides rs = entries_of (λ r. true) rule_left rs

-- rules by rising number, with an index of their left sides
pub record AreIndexed (rules : List Held) (lefts : List Indexed) : Type 0 where
  pub rising : IsRising (numbers_of rules)
  pub tied : lefts ≡ left_sides rules

-- whether a clause has one literal at most
abbrev pub is_short : ClauseTree → Bool
is_short [] = true
is_short (l ∷ []) = true
is_short (l ∷ k ∷ c) = false

-- the clauses of one literal, which has a sign, and those without literals
abbrev pub is_short_of : Bool → Held → Bool
is_short_of sign h = is_short h.clause && not (has_literal (not sign) h.clause 0)

-- the atom of the first literal; of a clause without literals a variable
abbrev pub first_atom : Held → Tree
first_atom h = atom_at h.clause 0

-- those clauses, with their atoms
abbrev pub short_atoms : Bool → List Held → List Indexed
short_atoms sign hs = entries_of (is_short_of sign) first_atom hs

-- the index of a sign with one more clause, if that belongs there
abbrev pub entered : Bool → Held → List Indexed → List Indexed
entered sign h es = if is_short_of sign h then with_entry (indexed h.number (first_atom h)) es else es

-- whether a clause is such a one and has an atom as an instance of its own
abbrev pub is_short_above : Bool → Tree → Held → Bool
is_short_above sign t h = is_short_of sign h && has_instance (first_atom h) t

-- and whether it is one whose atom unifies with an atom
abbrev pub is_short_unifiable : Bool → Tree → Held → Bool
is_short_unifiable sign t h = is_short_of sign h && can_unify (first_atom h) t

-- clauses by rising number, with an index of the short ones for each sign
pub record AreIndexedBySign (clauses : List Held) (positives negatives : List Indexed) : Type 0
  where
    pub rising : IsRising (numbers_of clauses)
    pub positive : positives ≡ short_atoms true clauses
    pub negative : negatives ≡ short_atoms false clauses
