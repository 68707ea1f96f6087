-- Clauses by the terms that they have.
use Rattle.std.specs.Prelude.{Bool, false, ◌&&◌, ◌||◌}
use Rattle.std.specs.List.{list_any}
use Rattle.clause_index.specs.declared.parts.Part.{Part}
use Rattle.clause_index.specs.declared.parts.Part.TheVariants.{Atoms, Inside, Sides}
use Rattle.derivation.specs.Equations.{is_equation, left_of, right_of}
use Rattle.derivation.specs.Places.{same_sign}
use Rattle.fol_core.specs.Literals.{Lit}
use Rattle.fol_core.specs.Tree.{Tree, var, elem, app, Trees, none, more}
use Rattle.prover_steps.specs.Clashing.{Held}

-- a test of terms
module _ (test : Tree → Bool) where
  abbrev mutual
    -- whether a term, or one in it, passes; variables don't
    pub has_term_such : Tree → Bool
    has_term_such (var x) = false
    has_term_such (elem k) = test (elem k)
    has_term_such (app f ts) = test (app f ts) || has_argument_such ts

    pub has_argument_such : Trees → Bool
    has_argument_such none = false
    has_argument_such (more t ts) = has_term_such t || has_argument_such ts

  -- whether one below an atom does
  abbrev pub has_such_below : Tree → Bool
  has_such_below (var x) = false
  has_such_below (elem k) = false
  has_such_below (app f ts) = has_argument_such ts

  -- whether a side of a positive equation does
  abbrev pub has_side_such : Lit → Bool
  has_side_such l =
      l.positive && (is_equation l.atom && (test (left_of l.atom) || test (right_of l.atom)))

  -- whether a literal has such a term, by where it is looked for
  abbrev pub has_such : Part → Lit → Bool
  has_such (Atoms sign) l = same_sign sign l.positive && test l.atom
  has_such Inside l = has_such_below l.atom
  has_such Sides l = has_side_such l

-- whether a clause has a literal of a sign whose atom passes
abbrev pub has_atom_such : (Tree → Bool) → Bool → Held → Bool
has_atom_such test sign h = list_any (λ l. same_sign sign l.positive && test l.atom) h.clause

-- whether it has a term below an atom that does, and is no variable
abbrev pub has_inside_such : (Tree → Bool) → Held → Bool
has_inside_such test h = list_any (λ l. has_such_below test l.atom) h.clause

-- whether it has a positive equation with a side that does
abbrev pub has_equation_such : (Tree → Bool) → Held → Bool
has_equation_such test h = list_any (has_side_such test) h.clause

-- all three
abbrev pub has_part_such : Part → (Tree → Bool) → Held → Bool
has_part_such part test h = list_any (has_such test part) h.clause
