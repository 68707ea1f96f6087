-- Instances of literals and clauses, and substitutions one after the other.
use Rattle.std.specs.Prelude.{◌≡◌, map}
use Rattle.fol_core.specs.Literals.{Lit, literal, ClauseTree}
use Rattle.fol_core.specs.Meaning.{Meaning}
use Rattle.fol_core.specs.Renumbered.{renumbered}
use Rattle.fol_core.specs.Substitutions.{Substitution, substitute}
use Rattle.fol_core.specs.Truth.{Assignment, value_of}

-- a literal with terms put in for its variables
abbrev pub substitute_literal : Substitution → Lit → Lit
substitute_literal terms l = literal l.positive (substitute terms l.atom)

-- an instance of a clause
abbrev pub substitute_clause : Substitution → ClauseTree → ClauseTree
substitute_clause terms c = map (substitute_literal terms) c

-- the first substitution, then the second
abbrev pub followed : Substitution → Substitution → Substitution
followed first second = λ x. substitute second (first x)

-- the elements that the terms for the variables denote
abbrev pub valued : Meaning → Assignment → Substitution → Assignment
valued m e terms = λ x. value_of m e (terms x)

-- clauses are the same but for the numbers of their variables
abbrev pub AreVariants : ClauseTree → ClauseTree → Type 0
AreVariants c d = renumbered c ≡ renumbered d
