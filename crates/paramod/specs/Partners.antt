-- Clauses that may give something with a given clause, by their numbers.
use Rattle.std.specs.Prelude.{◌≡◌, ℕ, Bool, ◌&&◌, if◌then◌else◌, List, [], ◌∷◌, ◌++◌, filter, flat_map}
use Rattle.fol_core.specs.Literals.{Lit, ClauseTree}
use Rattle.fol_core.specs.Tree.{Tree, var, elem, app, Trees, none, more}
use Rattle.clause_index.specs.Finding.{has_inside_such, has_equation_such}
use Rattle.clause_index.specs.Numbered.{is_numbered}
use Rattle.derivation.specs.Equations.{is_equation, left_of}
use Rattle.derivation.specs.Words.{side_of}
use Rattle.discrim_tree.specs.Nodes.{IsIn}
use Rattle.discrim_tree.specs.Terms.{can_unify}
use Rattle.paramod.specs.Sites.{takes_side}
use Rattle.prover_steps.specs.Clashing.{Held}
use Rattle.prover_steps.specs.Equalities.{is_oriented}
use Rattle.prover_steps.specs.HeldOrder.{numbers_of}

abbrev mutual
  -- the terms of a term that may be replaced: itself and those in its arguments, but no variables
  pub terms_in : Tree → List Tree
  terms_in (var x) = []
  terms_in (elem k) = elem k ∷ []
  terms_in (app f ts) = app f ts ∷ terms_among ts

  pub terms_among : Trees → List Tree
  terms_among none = []
  terms_among (more t ts) = terms_in t ++ terms_among ts

-- those below an atom
abbrev pub terms_below : Tree → List Tree
terms_below (var x) = []
terms_below (elem k) = []
terms_below (app f ts) = terms_among ts

-- the numbers of the clauses with a term that a side may replace
abbrev pub replaced_by : List Held → Tree → List ℕ
replaced_by hs side = numbers_of (filter (has_inside_such (λ t. can_unify side t)) hs)

-- and of those with a side that may replace a term
abbrev pub replacing : List Held → Tree → List ℕ
replacing hs t = numbers_of (filter (has_equation_such (λ s. can_unify s t)) hs)

-- An order of terms.
module _ (greater : Tree → Tree → Bool) where
  -- of an oriented equation the terms in its left side
  abbrev pub terms_into : Tree → List Tree
  terms_into atom = if is_oriented greater atom then terms_in (left_of atom) else terms_below atom

  -- by the sides of a literal that are taken
  abbrev pub by_side : List Held → Tree → ℕ → List ℕ
  by_side hs atom side =
      if takes_side greater atom side then replaced_by hs (side_of side atom) else []

  abbrev pub by_sides : List Held → Lit → List ℕ
  by_sides hs l =
      if l.positive && is_equation l.atom then by_side hs l.atom 1 ++ by_side hs l.atom 2 else []

  -- and by its terms
  abbrev pub by_terms : List Held → Lit → List ℕ
  by_terms hs l = flat_map (replacing hs) (terms_into l.atom)

  -- by all literals of a clause
  abbrev pub partner_numbers : List Held → ClauseTree → List ℕ
  partner_numbers hs c = flat_map (by_sides hs) c ++ flat_map (by_terms hs) c

-- clauses are those with one of some numbers, among which are all of these
pub record HavePartners (greater : Tree → Tree → Bool) (hs : List Held) (c : ClauseTree) (found : List Held) : Type 0
  where
    pub numbers : List ℕ
    pub are : found ≡ filter (is_numbered numbers) hs
    pub all : (n : ℕ) → IsIn n (partner_numbers greater hs c) → IsIn n numbers
