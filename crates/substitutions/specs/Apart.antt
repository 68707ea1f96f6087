-- Several clauses with variables of their own each: instances by a substitution for each of them.
use Rattle.std.specs.Prelude.{ℕ, suc, ◌≡◌, ◌+◌, ◌*◌, List, [], ◌∷◌, map, length}
use Rattle.fol_core.specs.Literals.{ClauseTree}
use Rattle.fol_core.specs.Substitutions.{Substitution}
use Rattle.fol_core.specs.Tree.{var}
use Rattle.substitutions.specs.Instances.{substitute_clause}

-- a substitution for each clause, by its place: so a variable of one clause is none of another's
abbrev pub Own : Type 0
Own = ℕ → Substitution

abbrev pub instances : Own → List ClauseTree → List ClauseTree
instances own [] = []
instances own (c ∷ cs) = substitute_clause (own 0) c ∷ instances (λ k. own (suc k)) cs

-- Clauses are renamed apart where one substitution makes of them what any family, one for each,
-- makes of the clauses.
abbrev pub AreRenamedApart : List ClauseTree → Own → Type 0
AreRenamedApart cs apart =
    (other : Own) → (s : Substitution)
    × (instances other cs ≡ map (substitute_clause s) (instances apart cs))

-- of so many clauses the variables x of clause k are numbered x * n + k
abbrev pub interleaved : ℕ → Own
interleaved n = λ k x. var (x * n + k)

abbrev pub apart_of : List ClauseTree → List ClauseTree
apart_of cs = instances (interleaved (length cs)) cs

-- clauses with their variables interleaved are renamed apart
abbrev pub InterleavingIsApart : Type 0
InterleavingIsApart = (cs : List ClauseTree) → AreRenamedApart cs (interleaved (length cs))
