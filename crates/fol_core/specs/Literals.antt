-- Literals and clauses, and when they are true.
use Rattle.std.specs.Prelude.{ℕ, Bool, false, not, ◌==◌, if◌then◌else◌, IsTrue, List, [], ◌∷◌}
use Rattle.std.specs.List.{list_any}
use Rattle.fol_core.specs.Tree.{Tree, app}
use Rattle.fol_core.specs.Meaning.{Meaning}
use Rattle.fol_core.specs.Truth.{Assignment, IsWithin, values_of}

-- an atom, or its denial
pub record Lit : Type 0 where
  pub positive : Bool
  pub atom : Tree

abbrev pub literal : Bool → Tree → Lit
literal positive atom = record { positive = positive; atom = atom }

-- a clause: one of its literals is true
abbrev pub ClauseTree : Type 0
ClauseTree = List Lit

-- the number that is equality's in an atom, and no symbol's
abbrev pub equality : ℕ
equality = 18446744073709551615

abbrev pub are_equal : List ℕ → Bool
are_equal (a ∷ b ∷ []) = a == b
are_equal xs = false

-- whether an atom is true: an equation where its sides have one value, a relation where it holds of
-- the arguments' values
abbrev pub is_true_atom : Meaning → Assignment → Tree → Bool
is_true_atom m e (app r ts) =
    if r == equality then are_equal (values_of m e ts) else m.relation r (values_of m e ts)
is_true_atom m e t = false

abbrev pub is_true_literal : Meaning → Assignment → Lit → Bool
is_true_literal m e l =
    if l.positive then is_true_atom m e l.atom else not (is_true_atom m e l.atom)

-- whether some literal is true
abbrev pub is_true_clause : Meaning → Assignment → ClauseTree → Bool
is_true_clause m e c = list_any (is_true_literal m e) c

-- a clause is true where it is so whatever elements its variables have
abbrev pub IsTrueClause : Meaning → ClauseTree → Type 0
IsTrueClause m c = (e : Assignment) → IsWithin m e → IsTrue (is_true_clause m e c)

abbrev pub AreTrueClauses : Meaning → List ClauseTree → Type 0
AreTrueClauses m [] = Unit {0}
AreTrueClauses m (c ∷ cs) = IsTrueClause m c × AreTrueClauses m cs
