-- Where a side of an equation is put in for a term of a literal.
use Rattle.std.specs.Prelude.{ℕ, ◌≡◌, Bool, true, false, not, ◌==◌, ◌&&◌, ◌||◌, if◌then◌else◌, IsTrue, List, [], ◌∷◌, Some, flat_map}
use Rattle.fol_core.specs.Literals.{ClauseTree}
use Rattle.fol_core.specs.Tree.{Tree}
use Rattle.derivation.specs.Equations.{is_equation, left_of, right_of, is_no_variable}
use Rattle.derivation.specs.Places.{atom_at, has_literal}
use Rattle.derivation.specs.Words.{side_of}
use Rattle.proof_words.specs.Written.{WrittenFirst, by_para}
use Rattle.prover_steps.specs.Clashing.{Held, places_of}
use Rattle.prover_steps.specs.Concluded.{Conclusion, inferred}
use Rattle.prover_steps.specs.Equalities.{into_paths, from_sides, is_bare_variable, is_oriented}
use Rattle.discrim_tree.specs.Meeting.{NeverMeet}

-- the clause, literal and side of the equation, and the clause and literal of the term
pub record SiteTree : Type 0 where
  pub from : Held
  pub equation : ℕ
  pub side : ℕ
  pub into : Held
  pub literal : ℕ

abbrev pub site : Held → ℕ → ℕ → Held → ℕ → SiteTree
site c a side d b = record { from = c; equation = a; side = side; into = d; literal = b }

-- the side that replaces, and the atom in which a term is replaced
abbrev pub replacing_side : SiteTree → Tree
replacing_side s = side_of s.side (atom_at s.from.clause s.equation)

abbrev pub atom_into : SiteTree → Tree
atom_into s = atom_at s.into.clause s.literal

-- the word of a step into a path, and what comes of the term there
abbrev pub word_at : SiteTree → List ℕ → WrittenFirst
word_at s path = by_para s.from.number s.equation s.side s.into.number s.literal path

abbrev pub paramodulant_at : SiteTree → List ℕ → List Conclusion
paramodulant_at s path = inferred (word_at s path) (s.from.clause ∷ s.into.clause ∷ [])

-- of all terms of a literal that may be replaced
abbrev pub paramodulants_in : (Tree → Tree → Bool) → SiteTree → List Conclusion
paramodulants_in greater s = flat_map (paramodulant_at s) (into_paths greater (atom_into s))

-- and of all literals
abbrev pub paramodulants_by : (Tree → Tree → Bool) → Held → Held → ℕ → ℕ → List Conclusion
paramodulants_by greater c d a side =
    flat_map (λ b. paramodulants_in greater (site c a side d b)) (places_of d.clause)

-- a side is the left one of an equation, and is greater than the right one
pub record IsLargerSide (greater : Tree → Tree → Bool) (atom side : Tree) : Type 0 where
  pub oriented : is_oriented greater atom ≡ true
  pub left_is : side ≡ left_of atom

-- the sides that are taken
abbrev pub takes_side : (Tree → Tree → Bool) → Tree → ℕ → Bool
takes_side greater atom side =
    not (is_bare_variable (side_of side atom) || (side == 2 && is_oriented greater atom))

abbrev pub side_tried : (Tree → Tree → Bool) → Held → Held → ℕ → ℕ → List Conclusion
side_tried greater c d a side =
    if takes_side greater (atom_at c.clause a) side then paramodulants_by greater c d a side else []

-- of all sides of a literal that are taken
abbrev pub literal_tried : (Tree → Tree → Bool) → Held → Held → ℕ → List Conclusion
literal_tried greater c d a =
    flat_map (paramodulants_by greater c d a) (from_sides greater (atom_at c.clause a))

-- an inequation's sides never meet
abbrev pub NeverReflects : ClauseTree → ℕ → Type 0
NeverReflects c a =
    IsTrue (has_literal false c a && is_equation (atom_at c a))
    → NeverMeet (left_of (atom_at c a)) (right_of (atom_at c a))

-- a term is a variable, or never meets a side
abbrev pub NeverReplaced : Tree → Tree → Type 0
NeverReplaced side t = IsTrue (is_no_variable (Some t)) → NeverMeet side t
